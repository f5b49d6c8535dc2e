use Rattle.lsp_session.proofs.Handshake.{Undecided}
use Rattle.lsp_session.proofs.lifecycle.initialize.start_within.Given as goal

-- the turns so far left the handshake undecided
abbrev pub invariant-loop-turn : goal.invariant-loop-turn
invariant-loop-turn g l =
    g.G.Gate.can_ask l.gate
    × Undecided g.G.Gate.asks g.I.Inbox.receives g.O.Outbox.sends l._turn (
      l.initial.gate,
      l.initial.inbox,
      l.initial.outbox,
    ) (l.gate, l.inbox, l.outbox)
