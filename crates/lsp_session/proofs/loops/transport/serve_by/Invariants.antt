use Rattle.lsp_session.proofs.Driving.{Stands}
use Rattle.lsp_session.proofs.loops.transport.serve_by.Given as goal

-- what has come so far
abbrev pub invariant-loop-turn : goal.invariant-loop-turn
invariant-loop-turn g l = Stands g.S.Service.behavior g.L.Inbox.receives g.L.WakingInbox.listens g.L.Outbox.sends
    l.initial.service l.initial.transport l.session.stage l._turn l.service l.transport
