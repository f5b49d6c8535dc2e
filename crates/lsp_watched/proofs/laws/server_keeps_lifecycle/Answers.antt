use Rattle.lsp_watched.proofs.Sessions.{server_keeps_lifecycle as keeps}
use Rattle.lsp_watched.proofs.laws.server_keeps_lifecycle.Goals as goal

pub returns : goal.returns
returns c = keeps
