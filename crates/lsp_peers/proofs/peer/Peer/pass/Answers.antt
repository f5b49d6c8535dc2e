use Rattle.lsp_peers.proofs.PeerLemmas.{near_line, pass_keeps}
use Rattle.lsp_peers.proofs.peer.Peer.pass.Goals as goal

pub returns : goal.returns
returns c = λ side handed history after shallow. (
  _,
  pass_keeps _ _ side handed history after c.pass.new.self c.args.bytes c.pass.result (c.pass.ensures _
      (near_line _ _ side handed history after)),
)
