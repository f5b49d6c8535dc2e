use Rattle.lsp_watched.proofs.Recorded.{replies_are_clean}
use Rattle.lsp_watched.proofs.laws.recorded_server_of_replies_is_clean.Goals as goal

pub returns : goal.returns
returns c = replies_are_clean
