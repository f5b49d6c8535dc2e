use Rattle.lsp_watched.proofs.Sessions.{server_is_clean}
use Rattle.lsp_watched.proofs.laws.server_of_replies_is_clean.Goals as goal

pub returns : goal.returns
returns c = server_is_clean
