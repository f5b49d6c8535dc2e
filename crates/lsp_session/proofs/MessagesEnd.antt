-- What ended the messages of a session between bytes.
use Rattle.std.proofs.Common.{◌≡◌, ◌≢◌, refl, sym, subst, ◌∙◌, inl, inr, ℕ, List, [], Option, Some, None}
use Rattle.std.proofs.Common.{append-nil, IsSomeAnd, Err}
use Rattle.lsp_message.specs.Frame.{reading_within}
use Rattle.lsp_message.specs.Message.{Message}
use Rattle.lsp_message.specs.declared.frame.ReadFault.{ReadFault}
use Rattle.lsp_message.specs.declared.frame.ReadFault.TheVariants.{Memory}
use Rattle.lsp_message.specs.declared.frame.limits.Limits.{Limits}
use Rattle.lsp_session.proofs.ByteHistory.{over_stays}
use Rattle.lsp_session.specs.ByteSession.{BeginsWithFault, Comes, IsEndOf, Standing, StopsOtherwise}
use Rattle.lsp_session.specs.ByteSession.{WritesTurn}
use Rattle.lsp_session.specs.ByteSessions.{standing, unread, EndIsKnown, EndsAtFrame, KnowsEnd}
use Rattle.lsp_session.specs.Event.{Event, message, timeout, closed, woken}
use Rattle.lsp_session.specs.Machine.{Advances, StandsIn}
use Rattle.lsp_session.specs.Session.{Behavior, Phase, starting, replied, serving, asked, broken, ended}
use Rattle.lsp_session.specs.TransportTurn.{IsOver}
use Rattle.lsp_session.specs.declared.loops.ReadEnd.{ReadEnd}
use Rattle.lsp_session.specs.declared.loops.ReadEnd.TheVariants.{Fault as AtFault}
use Rattle.lsp_session.specs.declared.loops.byte_session.ByteSession.{ByteSession}
use Rattle.lsp_session.specs.declared.loops.machine.Stage.{Stage}
use Rattle.lsp_session.specs.declared.loops.machine.Stage.TheVariants.{Starting, Replied, Serving, Asked, Ended}
use Rattle.lsp_session.specs.declared.loops.session_outcome.StopReason.TheVariants.{Decided, NoMore, TimedOut}
use Rattle.lsp_session.specs.declared.loops.session_outcome.StopReason.TheVariants.{Exhausted}

never_decided : Decided ≡ NoMore → ⊥
never_decided e = cc (e)

never_timed_out : TimedOut ≡ NoMore → ⊥
never_timed_out e = cc (e)

never_exhausted : Exhausted ≡ NoMore → ⊥
never_exhausted e = cc (e)

-- a row of the table
row_stops : (next : Phase) (gone : Stage) → StandsIn next gone → StopsOtherwise gone
row_stops (ended answer) gone now = subst StopsOtherwise (sym now) never_decided
row_stops next Starting now = tt
row_stops next Replied now = tt
row_stops next Serving now = tt
row_stops next (Asked id) now = tt
row_stops starting (Ended outcome) now = absurd (cc (now))
row_stops replied (Ended outcome) now = absurd (cc (now))
row_stops serving (Ended outcome) now = absurd (cc (now))
row_stops (asked i) (Ended outcome) now = absurd (cc (now))
row_stops (broken fault) (Ended outcome) now = absurd (cc (now))

-- a session that has not ended
open_stops : (stage : Stage) → (IsOver stage → ⊥) → StopsOtherwise stage
open_stops Starting waits = tt
open_stops Replied waits = tt
open_stops Serving waits = tt
open_stops (Asked id) waits = tt
open_stops (Ended outcome) waits = absurd (waits tt)

module _ {S : Type 0} (may : Behavior S) where
  event_stops : (stage : Stage) (s s' : S) (event : Event) (sent : List Message) (gone : Stage) → event ≢ closed
      → Advances may (stage, s) event sent (gone, s') → StopsOtherwise gone
  event_stops stage s s' (message m) sent gone other (inl row) = row_stops row.next gone row.now
  event_stops stage s s' (message m) sent gone other (inr end) = subst StopsOtherwise (sym end.now) never_exhausted
  event_stops stage s s' woken sent gone other (inl row) = row_stops row.next gone row.now
  event_stops stage s s' woken sent gone other (inr end) = subst StopsOtherwise (sym end.now) never_exhausted
  event_stops stage s s' timeout sent gone other end = subst StopsOtherwise (sym end.now) never_timed_out
  event_stops stage s s' closed sent gone other end = absurd (other refl)

  turn_stops : (sent : List Message) (written : List ℕ) (gone stage : Stage) → StopsOtherwise gone
      → WritesTurn sent written gone stage → StopsOtherwise stage
  turn_stops sent written gone stage stops (inl all) = subst StopsOtherwise (sym all.0) stops
  turn_stops sent written gone stage stops (inr some) = subst StopsOtherwise (sym some.over) never_exhausted

  -- no event but the end of the messages is their end
  pub comes_stops : (a c : Standing S) (event : Event) → event ≢ closed → Comes may a event c → StopsOtherwise a.stage
      → StopsOtherwise c.stage
  comes_stops a c event other (inl (awaited, written, answers)) stops =
      turn_stops answers.sent written answers.gone c.stage (event_stops a.stage a.service c.service event answers.sent
      answers.gone other answers.advances) answers.writes
  comes_stops a c event other (inr (never, kept)) stops = subst (λ (b : Standing S). StopsOtherwise b.stage) (sym kept)
      stops

  known_stays : (limits : Limits) (most : ℕ) (text : List ℕ) (a c : Standing S) (event : Event)
      (end : Option ReadEnd) → event ≢ closed → Comes may a event c → EndIsKnown limits text a.stage end
      → EndIsKnown limits text c.stage end
  known_stays limits most text a c event None other comes known = comes_stops a c event other comes known
  known_stays limits most text a c event (Some end) other comes known =
      (over_stays limits most may a c event comes known.0, known.1)

  -- an event without bytes keeps it so
  pub knows_still : (old new : ByteSession S) (event : Event) → event ≢ closed
      → Comes {S = S} may (standing old) event (standing new) → new.input.limits ≡ old.input.limits
      → unread new ≡ unread old → new.end ≡ old.end → KnowsEnd old → KnowsEnd new
  knows_still old new event other comes limits same end known =
      subst (λ (e : Option ReadEnd). EndIsKnown new.input.limits (unread new) new.core.stage e) (sym end)
      (subst (λ (l : Limits). EndIsKnown l (unread new) new.core.stage old.end) (sym limits)
      (subst (λ (l : List ℕ). EndIsKnown old.input.limits l new.core.stage old.end) (sym same)
      (known_stays old.input.limits old.most_pending (unread old) (standing old) (standing new) event old.end other
      comes known)))

-- bytes came to a session that has not ended
pub known_open : (limits limits' : Limits) (text text' : List ℕ) (stage : Stage) (end : Option ReadEnd)
    → (IsOver stage → ⊥) → EndIsKnown limits text stage end → EndIsKnown limits' text' stage end
known_open limits limits' text text' stage None waits known = open_stops stage waits
known_open limits limits' text text' stage (Some end) waits known = absurd (waits known.0)

-- the messages ended so
pub known_now : {S : Type 0} (new : ByteSession S) (end : ReadEnd) (limits : Limits) (text : List ℕ)
    → new.end ≡ Some end → new.input.limits ≡ limits → unread new ≡ text → IsOver new.core.stage
    → IsEndOf limits text end → KnowsEnd new
known_now new end limits text is same bytes over of =
    subst (λ (e : Option ReadEnd). EndIsKnown new.input.limits (unread new) new.core.stage e) (sym is) (
      over,
      subst (λ (l : Limits). IsEndOf l (unread new) end) (sym same) (subst (λ (t : List ℕ). IsEndOf limits t end)
          (sym bytes) of),
    )

-- a fault with which the bytes begin
pub begun_end : (limits : Limits) (text : List ℕ) (fault : ReadFault) → BeginsWithFault limits text fault
    → IsEndOf limits text (AtFault fault)
begun_end limits text Memory begins = begins
begun_end limits text fault begins = subst (λ l. reading_within limits l ≡ record { outcome = Err fault; rest = [] })
    (append-nil text) (begins [])

-- the input ended so
pub end_now : (limits : Limits) (text : List ℕ) (end : ReadEnd) (now : Option ReadEnd) → now ≡ Some end
    → IsEndOf limits text end → IsSomeAnd now (IsEndOf limits text)
end_now limits text end now is of = subst (λ (e : Option ReadEnd). IsSomeAnd e (IsEndOf limits text)) (sym is) of

-- no byte is unread where the session has no frame begun
pub ends_at_frame : {S : Type 0} (new : ByteSession S) → unread new ≡ [] → EndsAtFrame new
ends_at_frame new none = λ over unended. none

-- where the messages ended with this, something else is to be shown
pub ends_otherwise : {S : Type 0} (new : ByteSession S) (end : ReadEnd) → new.end ≡ Some end → EndsAtFrame new
ends_otherwise new end is = λ over unended. absurd (never (sym unended ∙ is))
  where
    never : None ≡ Some end → ⊥
    never e = cc (e)
