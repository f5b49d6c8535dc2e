use Rattle.lsp_peers.proofs.ShallowLemmas.{shallow_of}
use Rattle.lsp_peers.proofs.laws.a_history_is_shallow.Goals as goal

pub returns : goal.returns
returns c = shallow_of
