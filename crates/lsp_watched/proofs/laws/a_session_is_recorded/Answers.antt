use Rattle.lsp_watched.proofs.Recorded.{session_is_recorded}
use Rattle.lsp_watched.proofs.laws.a_session_is_recorded.Goals as goal

pub returns : goal.returns
returns c = session_is_recorded
