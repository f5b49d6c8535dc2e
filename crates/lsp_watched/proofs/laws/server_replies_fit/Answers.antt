use Rattle.lsp_watched.proofs.Replies.{replies_fit}
use Rattle.lsp_watched.proofs.laws.server_replies_fit.Goals as goal

pub returns : goal.returns
returns c = replies_fit
