use Rattle.std.proofs.Common.{sym, ◌∙◌}
use Rattle.lsp_message.proofs.Within.{front_within, front_number}
use Rattle.lsp_message.proofs.frame.scan.front.Goals as goal

pub returns-clause-within : goal.returns-clause-within
returns-clause-within c = λ count is. front_within c.args.bytes.now count (sym c.scanned.ensures ∙ is)

pub returns-clause-fault : goal.returns-clause-fault
returns-clause-fault c = λ number is. front_number c.args.bytes.now number (sym c.scanned.ensures ∙ is)
