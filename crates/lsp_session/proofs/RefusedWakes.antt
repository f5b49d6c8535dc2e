-- A session that passes over a wake, over a transport of events to come: its `receive` passes over wakes, and its other
-- wait over none.
use Rattle.lsp_message.specs.Messages.{is_exit}
use Rattle.lsp_message.specs.Message.{Message, notification}
use Rattle.lsp_session.proofs.Ran.{one_turn, one_step}
use Rattle.lsp_session.proofs.Waiting.{waits_none}
use Rattle.lsp_session.specs.Boxes.{Sends, Receives, Takes}
use Rattle.lsp_session.specs.Event.{Event, message, woken}
use Rattle.lsp_session.specs.Prompt.{event_of, WaitsIn, Refuses, Meets, Talks, any_wait}
use Rattle.lsp_session.specs.SessionOutcome.{StopsFor}
use Rattle.lsp_session.specs.Session.{Behavior, SessionAnswer, SessionPart, Exchange, came_of, decided, Phase}
use Rattle.lsp_session.specs.Session.{serving, broken, ended, Step, SessionFrom, any_service}
use Rattle.lsp_session.specs.SessionLaws.{Both}
use Rattle.lsp_session.specs.declared.loops.handler.SessionEnd.TheVariants.{Closed}
use Rattle.lsp_session.specs.declared.loops.session_outcome.StopReason.TheVariants.{Decided}
use Rattle.std.proofs.Common.{◌≡◌, refl, sym, ◌∙◌, ap, Bool, true, false, List, [], ◌∷◌, ◌++◌, map, Option, Some, None}
use Rattle.std.specs.List.{FoldsTo, list_all}
use Rattle.std.specs.Prelude.{Ok}

abbrev is_wake : Event → Bool
is_wake woken = true
is_wake event = false

-- A receive gives the first event that is no wake, and passes over the wakes before it.
pub record Skips (old : List Event) (event : Event) (new : List Event) : Type 0 where
  pub skipped : List Event
  pub wakes : list_all is_wake skipped ≡ true
  pub are : old ≡ skipped ++ event ∷ new

-- A wait that also gives wakes gives the first event.
abbrev pub TakesNext : Receives (List Event)
TakesNext old event new = old ≡ event ∷ new

-- The first that the session used is this message.
abbrev pub BeginsWith : Message → SessionPart
BeginsWith m exchanges stop answer = (first : Exchange) × (later : List Exchange) × (exchanges ≡ first ∷ later)
    × (first.came ≡ Some m)

module _ (sends : Sends (List Event)) (m : Message) (later new : List Event) where
  -- the wait did not give the message
  no_wait : (came : Option Message) (met : List Event) → came ≡ Some m → WaitsIn Skips TakesNext serving (woken ∷ later)
      (event_of came) met → ⊥
  no_wait None met is waits = cc (is)
  no_wait (Some other) met is waits = let first : woken ≡ message other = cc (waits.1) in cc (first)

  -- A wake comes before the message. The session may not use the message first.
  pub passes_over_a_wake : (P : SessionPart) (answer : SessionAnswer) → Talks Skips TakesNext sends serving
      (Both P (BeginsWith m)) (woken ∷ later) answer new → ⊥
  passes_over_a_wake P answer talks = by_first talks.exchanges talks.history.turns talks.part.1
    where
      by_first : (xs : List Exchange) → FoldsTo (Meets Skips TakesNext sends talks.history.passes_late) (
        serving,
        woken ∷ later,
      ) xs (talks.history.reached, talks.history.mid) → BeginsWith m xs talks.stop answer → ⊥
      by_first [] turns begins = cc (begins.2)
      by_first (x ∷ xs) turns begins =
          let first : x ≡ begins.0 = cc (begins.2) in
          no_wait x.came turns.1.met (ap (λ (y : Exchange). y.came) first ∙ begins.3) turns.1.waited

exit_step : {S : Type 0} (may : Behavior S) (s : S) (m : Message) → is_exit m ≡ true
    → Step may serving s (Some m) [] (ended (Ok Closed)) s
exit_step may s (notification method params) exits = rw exits (refl, refl, refl)
exit_step may s m exits = absurd (cc (exits))

-- If nothing is said of that wait, a session may: it ends at an `exit`, and tells no wake that came before it.
pub passes_over_unsent : {S : Type 0} (may : Behavior S) (sends : Sends (List Event)) (s : S) (m : Message)
    → is_exit m ≡ true
    → Talks Skips any_wait sends serving (Both (SessionFrom may serving s s) (StopsFor Decided))
    (woken ∷ message m ∷ []) (Ok Closed) []
passes_over_unsent may sends s m exits =
    let x : Exchange = record { came = Some m; sent = []; not_sent = None } in
    record {
      exchanges = x ∷ [];
      stop = decided;
      history = record {
        passes_late = may.passes_late;
        reached = ended (Ok Closed);
        mid = [];
        turns = (
          (ended (Ok Closed), []),
          record {
            turn = one_turn (any_service may.passes_late) serving (ended (Ok Closed)) tt tt (Some m) [] (exit_step
                (any_service may.passes_late) tt m exits);
            met = [];
            waited = (
              waits_none Skips (woken ∷ message m ∷ []) [] (message m) (record {
                skipped = woken ∷ [];
                wakes = refl;
                are = refl;
              }),
              tt,
            );
            mid = [];
            taken = refl;
            refuses = refl;
          },
          refl,
        );
        stopped = (refl, refl);
        ends = refl;
      };
      part = (
        record {
          last = ended (Ok Closed);
          after = s;
          reached = one_step may serving (ended (Ok Closed)) s s (Some m) [] (exit_step may s m exits);
          stopped = (refl, refl);
        },
        refl,
      );
    }

-- ---- each wake is told

-- a send gives nothing, and passes over nothing
abbrev pub LeavesEvents : Sends (List Event)
LeavesEvents old m outcome new = new ≡ old

sent_leaves : (ms : List Message) (old new : List Event) → FoldsTo (Takes LeavesEvents) old ms new → old ≡ new
sent_leaves [] old new run = run
sent_leaves (m ∷ ms) old new run = sym run.1 ∙ sent_leaves ms run.0 new run.2

lost_leaves : (lost_one : Option Message) (p : Phase) (old new : List Event) → Refuses Skips TakesNext LeavesEvents
    lost_one p old new → old ≡ new
lost_leaves None p old new same = sym same
lost_leaves (Some m) (broken fault) old new refuses = sym refuses
lost_leaves (Some m) p old new refuses = sym refuses.1

-- turns of a session that serves its client
abbrev pub AllServing : Bool → Phase × List Event → List Exchange → Phase × List Event → Type 0
AllServing passes = FoldsTo (λ old x new. (old.0 ≡ serving) × Meets Skips TakesNext LeavesEvents passes old x new)

-- From `initialized` on, what the transport gave are the messages and wakes of the exchanges, each in its place.
pub tells_each : (passes : Bool) (xs : List Exchange) (old new : Phase × List Event) → AllServing passes old xs new
    → old.1 ≡ map event_of (came_of xs) ++ new.1
tells_each passes [] old new run = ap (λ (a : Phase × List Event). a.1) run
tells_each passes (x ∷ xs) old new run =
    let meets = run.1.1 in
    let waits : WaitsIn Skips TakesNext serving old.1 (event_of x.came) meets.met = rw run.1.0 at meets.waited in
    waits.1 ∙ ap (λ (es : List Event). event_of x.came ∷ es) (sent_leaves x.sent meets.met meets.mid meets.taken
    ∙ lost_leaves x.not_sent run.0.0 meets.mid run.0.1 meets.refuses ∙ tells_each passes xs run.0 new run.2)
