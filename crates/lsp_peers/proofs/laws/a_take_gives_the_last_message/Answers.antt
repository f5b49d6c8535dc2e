use Rattle.lsp_peers.proofs.FactLemmas.{last_taken}
use Rattle.lsp_peers.proofs.laws.a_take_gives_the_last_message.Goals as goal

pub returns : goal.returns
returns c = last_taken
