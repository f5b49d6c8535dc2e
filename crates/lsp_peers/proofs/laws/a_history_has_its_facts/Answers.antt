use Rattle.lsp_peers.proofs.FactLemmas.{facts_of}
use Rattle.lsp_peers.proofs.laws.a_history_has_its_facts.Goals as goal

pub returns : goal.returns
returns c = facts_of
