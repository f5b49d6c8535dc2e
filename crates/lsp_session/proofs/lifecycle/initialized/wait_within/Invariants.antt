use Rattle.lsp_session.proofs.Handshake.{Idles}
use Rattle.lsp_session.proofs.lifecycle.initialized.wait_within.Given as goal

-- nothing came in the turns so far
abbrev pub invariant-loop-turn : goal.invariant-loop-turn
invariant-loop-turn g l =
    g.G.Gate.can_ask l.gate × Idles g.G.Gate.asks g.I.Inbox.receives l._turn (l.initial.gate, l.initial.inbox) (
      l.gate,
      l.inbox,
    )
