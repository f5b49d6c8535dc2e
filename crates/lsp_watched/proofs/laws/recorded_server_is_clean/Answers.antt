use Rattle.lsp_watched.proofs.OwnRequests.{server_is_clean}
use Rattle.lsp_watched.proofs.laws.recorded_server_is_clean.Goals as goal

pub returns : goal.returns
returns g c = server_is_clean g.S.Server
