use Rattle.std.proofs.Common.{refl}
use Rattle.lsp_peers.proofs.PeerLemmas.{far_line, tell_keeps}
use Rattle.lsp_peers.proofs.peer.Peer.tell.Goals as goal

pub returns-clause-ok : goal.returns-clause-ok
returns-clause-ok c = λ side handed history after shallow.
    tell_keeps _ _ side handed history after c.write-written.new.self c.args.method c.args.params _ refl shallow
    (c.in_ok-written.ensures.ok _ (far_line _ _ side handed history after))
