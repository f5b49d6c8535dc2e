use Rattle.lsp_watched.proofs.RecordedStart.{recorded_keeps_lifecycle}
use Rattle.lsp_watched.proofs.laws.recorded_server_keeps_lifecycle.Goals as goal

pub returns : goal.returns
returns c = recorded_keeps_lifecycle
