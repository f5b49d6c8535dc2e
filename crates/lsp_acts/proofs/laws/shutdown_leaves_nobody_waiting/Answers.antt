use Rattle.lsp_acts.proofs.Counting.{answered_in_full}
use Rattle.lsp_acts.proofs.laws.shutdown_leaves_nobody_waiting.Goals as goal

pub returns : goal.returns
returns c = answered_in_full
