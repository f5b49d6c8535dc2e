use Rattle.lsp_documents.proofs.SessionLemmas.{own_texts}
use Rattle.lsp_documents.proofs.laws.texts_are_the_clients.Goals as goal

pub returns : goal.returns
returns c = own_texts
