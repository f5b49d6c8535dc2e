use Rattle.std.proofs.Common.{refl, inl}
use Rattle.lsp_session.proofs.Handshake.{undecided_none, undecided_more, starts_answered}
use Rattle.lsp_session.specs.Event.{event_view}
use Rattle.lsp_session.specs.Turns.{stopped, got}
use Rattle.lsp_session.proofs.lifecycle.initialize.start_within.Goals as goal

pub loop-turn-init : goal.loop-turn-init
loop-turn-init g c = (c.requires, undecided_none _ _ _ _)

pub returns-then-not-ask-clause-starts : goal.returns-then-not-ask-clause-starts
returns-then-not-ask-clause-starts g c =
    rw c.aborted.ensures (starts_answered _ _ _ _ _ _ _ _ stopped _ c.loop-turn.invariant.1 c.loop-turn-test.true
    (c.if-not-ask.ensures.asks, refl) (inl (refl, refl)))

pub returns-in-Some-clause-starts : goal.returns-in-Some-clause-starts
returns-in-Some-clause-starts g c =
    starts_answered _ _ _ _ _ _ _ _ (got (event_view c.receive_for-event.result)) _ c.loop-turn.invariant.1
    c.loop-turn-test.true
    (c.if-not-ask.ensures.asks, c.receive_for-event.ensures) c.in-Some.ensures

pub loop-turn-preserved : goal.loop-turn-preserved
loop-turn-preserved g c = (
  c.ask.ensures.again,
  undecided_more _ _ _ _ _ _ _ (got (event_view c.receive_for-event.result)) c.loop-turn.invariant.1
      (c.if-not-ask.ensures.asks, c.receive_for-event.ensures) c.in_default.ensures,
)
