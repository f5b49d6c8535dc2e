use Rattle.lsp_peers.proofs.FactLemmas.{arrival_law}
use Rattle.lsp_peers.proofs.laws.requests_arrive_in_order.Goals as goal

pub returns : goal.returns
returns c = arrival_law
