use Rattle.lsp_message.proofs.Printed.{printed_apart}
use Rattle.lsp_message.proofs.laws.kinds_print_apart.Goals as goal

pub returns : goal.returns
returns c = printed_apart c.args.number c.args.text.now c.ranges.number
