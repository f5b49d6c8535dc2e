use Rattle.lsp_peers.proofs.PlaceLemmas.{one_place}
use Rattle.lsp_peers.proofs.laws.each_request_is_in_one_place.Goals as goal

pub returns : goal.returns
returns c = one_place
