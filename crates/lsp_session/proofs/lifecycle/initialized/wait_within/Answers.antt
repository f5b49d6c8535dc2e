use Rattle.std.proofs.Common.{refl}
use Rattle.lsp_message.specs.View.{message_view}
use Rattle.lsp_session.proofs.Handshake.{idles_more, awaits_answered}
use Rattle.lsp_session.specs.Event.{message, closed}
use Rattle.lsp_session.specs.Turns.{stopped, got}
use Rattle.lsp_session.proofs.lifecycle.initialized.wait_within.Goals as goal

pub returns-then-not-ask-clause-awaits : goal.returns-then-not-ask-clause-awaits
returns-then-not-ask-clause-awaits g c =
    rw c.aborted.ensures (awaits_answered _ _ _ _ _ _ _ stopped _ c.loop-turn.invariant.1 c.loop-turn-test.true
    (c.if-not-ask.ensures.asks, refl) refl)

pub returns-in-Closed-clause-awaits : goal.returns-in-Closed-clause-awaits
returns-in-Closed-clause-awaits g c =
    rw c.disconnected.ensures
    (awaits_answered _ _ _ _ _ _ _ (got closed) _ c.loop-turn.invariant.1 c.loop-turn-test.true
    (c.if-not-ask.ensures.asks, c.in-Closed.ensures) refl)

pub returns-in-Message-clause-awaits : goal.returns-in-Message-clause-awaits
returns-in-Message-clause-awaits g c =
    awaits_answered _ _ _ _ _ _ _ (got (message (message_view c.in-Message.message))) _ c.loop-turn.invariant.1
    c.loop-turn-test.true
    (c.if-not-ask.ensures.asks, c.in-Message.ensures) c.finish_on-finished.ensures

pub loop-turn-preserved : goal.loop-turn-preserved
loop-turn-preserved g c =
    (c.ask.ensures.again, idles_more _ _ _ _ _ _ c.loop-turn.invariant.1 c.if-not-ask.ensures.asks c.in-Timeout.ensures)
