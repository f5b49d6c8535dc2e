use Rattle.lsp_peers.proofs.Entries.{beginning_of}
use Rattle.lsp_peers.proofs.laws.a_beginning_is_a_history.Goals as goal

pub returns : goal.returns
returns c = beginning_of
