use Rattle.std.proofs.Common.{arith, ◌≡◌, ◌-◌, ◌^◌}
use Rattle.lsp_session.proofs.Driving.{begins, turn_stands, spent}
use Rattle.lsp_session.proofs.loops.transport.serve_by.Goals as goal

pub loop-turn-init : goal.loop-turn-init
loop-turn-init g c = rw c.new-session.ensures (begins g.S.Service.behavior g.L.Inbox.receives g.L.WakingInbox.listens
    g.L.Outbox.sends _ _)

pub loop-turn-preserved : goal.loop-turn-preserved
loop-turn-preserved g c = turn_stands g.S.Service.behavior g.L.Inbox.receives g.L.WakingInbox.listens
    g.L.Outbox.sends _ _ _ _ _ _ _ _ _ c.loop-turn.invariant c.take_turn.ensures

pub returns : goal.returns
returns g c =
    let all : c.loop-turn._turn ≡ 2 ^ 64 - 1 = omega arith in
    rw c.into_outcome-2.ensures (spent g.S.Service.behavior g.L.Inbox.receives g.L.WakingInbox.listens
    g.L.Outbox.sends _ _ _ _ _ (rw all at c.loop-turn.invariant))
