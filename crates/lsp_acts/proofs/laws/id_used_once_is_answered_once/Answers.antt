use Rattle.lsp_acts.proofs.Counting.{used_once}
use Rattle.lsp_acts.proofs.laws.id_used_once_is_answered_once.Goals as goal

pub returns : goal.returns
returns c = used_once
