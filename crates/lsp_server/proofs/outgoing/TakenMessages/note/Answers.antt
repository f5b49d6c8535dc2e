use Rattle.lsp_server.proofs.Gathering.{one_taken}
use Rattle.lsp_server.proofs.outgoing.TakenMessages.note.Goals as goal

pub returns : goal.returns
returns c = one_taken _ _ _ _ c.with_one-self.ensures
