use Rattle.lsp_watched.proofs.PeersKeepIds.{peers_keep_ids}
use Rattle.lsp_watched.proofs.laws.peers_keep_ids.Goals as goal

pub returns : goal.returns
returns c = peers_keep_ids c.a_beginning_is_a_history.ensures c.each_request_is_in_one_place.ensures
