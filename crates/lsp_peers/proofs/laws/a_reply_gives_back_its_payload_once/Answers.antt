use Rattle.lsp_peers.proofs.FactLemmas.{back_law}
use Rattle.lsp_peers.proofs.laws.a_reply_gives_back_its_payload_once.Goals as goal

pub returns : goal.returns
returns c = back_law
