use Rattle.lsp_acts.proofs.Counting.{owed_what_is_held}
use Rattle.lsp_acts.proofs.laws.lost_client_is_owed_what_is_held.Goals as goal

pub returns : goal.returns
returns c = owed_what_is_held
