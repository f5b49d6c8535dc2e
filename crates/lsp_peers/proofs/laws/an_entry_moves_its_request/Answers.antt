use Rattle.lsp_peers.proofs.PlaceLemmas.{moves}
use Rattle.lsp_peers.proofs.laws.an_entry_moves_its_request.Goals as goal

pub returns : goal.returns
returns c = moves
