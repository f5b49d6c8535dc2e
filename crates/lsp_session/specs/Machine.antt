-- A session as a state machine without IO: the stage after one event, and the messages that are sent for the event.
use Rattle.std.specs.Prelude.{◌≡◌, ◌⊎◌, ◌++◌, List, [], ◌∷◌, Option, Some, None, Result, Ok, Err}
use Rattle.lsp_calls.specs.Calls.{call_content_view}
use Rattle.lsp_message.specs.Id.{Id}
use Rattle.lsp_message.specs.Message.{Message}
use Rattle.lsp_message.specs.View.{message_view}
use Rattle.lsp_session.specs.Event.{Event, message, timeout, closed, woken}
use Rattle.lsp_session.specs.ProtocolError.{ProtocolFault, disconnected, shutdown_disconnected}
use Rattle.lsp_session.specs.Replies.{null_reply}
use Rattle.lsp_session.specs.Session.{Behavior, SessionAnswer, Stop, no_more, timed_out, exhausted, Step, Stops}
use Rattle.lsp_session.specs.Session.{Phase, starting, replied, serving, asked, ended}
use Rattle.lsp_session.specs.SessionOutcome.{reason_of, served_by}
use Rattle.lsp_session.specs.declared.loops.machine.Awaits.{Awaits}
use Rattle.lsp_session.specs.declared.loops.machine.Awaits.TheVariants as awaits
use Rattle.lsp_session.specs.declared.loops.machine.Came as came
use Rattle.lsp_session.specs.declared.loops.machine.Came.TheVariants as comes
use Rattle.lsp_session.specs.declared.loops.machine.Moved.{Moved}
use Rattle.lsp_session.specs.declared.loops.machine.Stage.{Stage}
use Rattle.lsp_session.specs.declared.loops.machine.Stage.TheVariants.{Starting, Replied, Serving, Asked, Ended}
use Rattle.lsp_session.specs.declared.loops.machine.Turn.{Turn}
use Rattle.lsp_session.specs.declared.loops.machine.TurnOutput.{TurnOutput}
use Rattle.lsp_session.specs.declared.loops.machine.TurnOutput.TheVariants.{Nothing, One, Given}
use Rattle.lsp_session.specs.declared.loops.session_outcome.StopReason.TheVariants.{Decided, NoMore}
use Rattle.lsp_session.specs.declared.loops.handler.SessionEnd.TheVariants.{Closed}
use Rattle.lsp_session.specs.declared.loops.session_outcome.SessionOutcome.{SessionOutcome}

-- the event as plain data
abbrev pub came_view : came.Came → Event
came_view (comes.Message m) = message (message_view m)
came_view (comes.Call content) = message (call_content_view content)
came_view comes.Woken = woken
came_view comes.Timeout = timeout
came_view comes.Closed = closed

-- these messages, and after them the reply to `shutdown`
abbrev pub sends_with : List Message → Option Id → List Message
sends_with sent None = sent
sends_with sent (Some id) = sent ++ null_reply id ∷ []

-- the messages that a turn sends first, if this says what the service's output shows
abbrev pub sends_of : {T : Type 0} → (T → List Message) → TurnOutput T → List Message
sends_of shows Nothing = []
sends_of shows (One m) = message_view m ∷ []
sends_of shows (Given output) = shows output

-- all that a turn sends
abbrev pub turn_sends : {T : Type 0} → (T → List Message) → Turn T → List Message
turn_sends shows turn = sends_with (sends_of shows turn.output) turn.reply

-- the phase of the tables that a stage stands for
abbrev pub phase_of : Stage → Phase
phase_of Starting = starting
phase_of Replied = replied
phase_of Serving = serving
phase_of (Asked id) = asked id
phase_of (Ended outcome) = ended outcome.answer

-- The machine has reached this phase of the table. A phase that ends the session says what the outcome is.
abbrev pub StandsIn : Phase → Stage → Type 0
StandsIn (ended answer) stage = stage ≡ Ended (record { answer = answer; stop = Decided })
StandsIn phase stage = phase_of stage ≡ phase

-- what a session waits for
abbrev pub awaited_in : Stage → Awaits
awaited_in Starting = awaits.Message
awaited_in Replied = awaits.Message
awaited_in Serving = awaits.MessageOrWake
awaited_in (Asked id) = awaits.Exit
awaited_in (Ended outcome) = awaits.Nothing

-- The reply to `shutdown` stands apart, since the session goes on if it is refused. It is due where `shutdown` leads
-- from serving to the wait for `exit`. The new stage comes first, so that the cases are decided by it alone.
abbrev pub reply_of : Stage → Stage → Option Id
reply_of (Asked id) Serving = Some id
reply_of new old = None

-- how a session ended, or how it ends if it takes no further event
abbrev pub outcome_of : Stage → SessionOutcome
outcome_of Starting = served_by (Err disconnected)
outcome_of Replied = served_by (Err disconnected)
outcome_of Serving = record { answer = Ok Closed; stop = NoMore }
outcome_of (Asked id) = served_by (Err shutdown_disconnected)
outcome_of (Ended outcome) = outcome

-- The session takes this event. It takes a wake only while it serves, a timeout only after `shutdown`, and nothing once
-- it has ended.
abbrev pub IsAwaited : Stage → Event → Type 0
IsAwaited (Ended outcome) event = ⊥
IsAwaited Serving woken = Unit {0}
IsAwaited (Asked id) timeout = Unit {0}
IsAwaited stage woken = ⊥
IsAwaited stage timeout = ⊥
IsAwaited stage event = Unit {0}

module _ {S : Type 0} (may : Behavior S) where
  -- a row of the table `Step`
  pub record Row (old : Stage × S) (came : Option Message) (sent : List Message) (new : Stage × S) : Type 0 where
    pub next : Phase
    pub step : Step may (phase_of old.0) old.1 came sent next new.1
    pub now : StandsIn next new.0

  -- The session ends as the table `Stops` says, and nothing is sent.
  pub record End (old : Stage × S) (stop : Stop) (sent : List Message) (new : Stage × S) : Type 0 where
    pub silent : sent ≡ []
    pub answer : SessionAnswer
    pub stops : Stops may (phase_of old.0) old.1 stop answer new.1
    pub now : new.0 ≡ Ended (record { answer = answer; stop = reason_of stop })

  -- What a session does for an event: a row of the table, or its end.
  abbrev pub Advances : Stage × S → Event → List Message → Stage × S → Type 0
  Advances old (message m) sent new = Row old (Some m) sent new ⊎ End old exhausted sent new
  Advances old woken sent new = Row old None sent new ⊎ End old exhausted sent new
  Advances old timeout sent new = End old timed_out sent new
  Advances old closed sent new = End old no_more sent new

-- For private clauses: what a step of the machine gives. A fault ends the session with that fault.
abbrev pub Fails : {S : Type 0} → Behavior S → Stage → S → Event → ProtocolFault → S → Type 0
Fails may old s event fault s' = Advances may (old, s) event [] (Ended (served_by (Err fault)), s')

abbrev pub Moves : {S T : Type 0} → Behavior S → (T → List Message) → Stage → S → Event
    → Result (Moved T) ProtocolFault → S → Type 0
Moves may shows old s event (Ok moved) s' =
    Advances may (old, s) event (turn_sends shows moved.turn) (moved.stage, s')
    × (moved.turn.reply ≡ reply_of moved.stage old)
Moves may shows old s event (Err fault) s' = Fails may old s event fault s'
