use Rattle.std.proofs.Common.{arith}
use Rattle.lsp_session.proofs.Waiting.{gives_next, gives_closed, waits_after}
use Rattle.lsp_session.proofs.lifecycle.lists.ListInboxInbox.receive.Goals as goal

pub returns-in-Message-clause-receives : goal.returns-in-Message-clause-receives
returns-in-Message-clause-receives c =
    waits_after _ _ c.loop-event.self _ _ c.loop-event.invariant (gives_next _ _ _ (rw c.in-Message.is at
    c.in-Some.ensures.items))

pub returns-in-Closed-clause-receives : goal.returns-in-Closed-clause-receives
returns-in-Closed-clause-receives c =
    waits_after _ _ c.loop-event.self _ _ c.loop-event.invariant (gives_next _ _ _ (rw c.in-Closed.is at
    c.in-Some.ensures.items))

pub returns-clause-receives : goal.returns-clause-receives
returns-clause-receives c =
    waits_after _ _ c.loop-event.self _ _ c.loop-event.invariant (gives_closed c.loop-event.self.events.items
    c.pop_front.new.self.items (omega (arith, c.loop-event.self.events.ok, c.in_default.ensures.cases))
    (omega (arith, c.pop_front.new.self.ok, c.in_default.ensures.cases)))
