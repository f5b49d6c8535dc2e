-- A session over one value with both ends: its turns, one after another, and its end. Everything that is to be sent for
-- a message is sent before the session waits for anything else. So a client may wait for it before it sends more. For
-- `initialize`, for each request before it and for `shutdown` this includes the reply. For a request in between it does
-- if the service answers at once, as `AnswersRequests` says. From `initialized` up to `shutdown` the session also waits
-- for wake-ups, as its transport says. About two values, each with one end, this says neither.
use Rattle.std.specs.List.{FoldsTo}
use Rattle.std.specs.Prelude.{◌≡◌, ◌≤◌, ◌-◌, ◌^◌, ◌⊎◌, ℕ, Bool, List, length, Option, Some, None, Err}
use Rattle.lsp_message.specs.Message.{Message}
use Rattle.lsp_session.specs.Boxes.{Sends, Receives, Takes, WaitsFor}
use Rattle.lsp_session.specs.Event.{Event, message, timeout, closed, woken}
use Rattle.lsp_session.specs.Session.{SessionAnswer, SessionPart, Exchange, Stop, no_more, timed_out}
use Rattle.lsp_session.specs.Session.{exhausted, Phase, serving, asked, broken, ended, TakesTurn}
use Rattle.lsp_session.specs.Session.{Stops, any_service}
use Rattle.lsp_session.specs.declared.lifecycle.SendFault.{SendFault}

-- the event that brings a message, or that wakes the service
abbrev pub event_of : Option Message → Event
event_of None = woken
event_of (Some m) = message m

module _ {L : Type 0} (receives listens : Receives L) where
  -- what the transport says besides of a wait in this phase: from `initialized` up to `shutdown` it also gives wakes
  abbrev pub ListensIn : Phase → L → Event → L → Type 0
  ListensIn serving old event new = listens old event new
  ListensIn phase old event new = Unit {0}

  -- The event is awaited in this phase. After `shutdown` a timeout is an event too. Nothing is awaited once the session
  -- is over.
  abbrev pub WaitsIn : Phase → L → Event → L → Type 0
  WaitsIn (asked i) old event new = receives old event new
  WaitsIn (broken fault) old event new = ⊥
  WaitsIn (ended answer) old event new = ⊥
  WaitsIn phase old event new = WaitsFor receives old event new × ListensIn phase old event new

  -- What is awaited at the end of a session, in this phase and after so many exchanges: that no more comes, or nothing
  -- after 2^64 - 1 exchanges; that nothing comes in time; or one more message or wake, at which an allocation fails. If
  -- the last message decided or was refused, nothing is awaited.
  abbrev pub AwaitsEnd : Phase → ℕ → Stop → L → L → Type 0
  AwaitsEnd phase count no_more old new = WaitsIn phase old closed new ⊎ ((2 ^ 64 - 1 ≤ count) × (new ≡ old))
  AwaitsEnd phase count timed_out old new = WaitsIn phase old timeout new
  AwaitsEnd phase count exhausted old new = (came : Option Message) × WaitsIn phase old (event_of came) new
  AwaitsEnd phase count stop old new = new ≡ old

  module _ (sends : Sends L) where
    -- A message is refused, or none. The session is in this phase afterwards: it ends with the fault, or goes on.
    abbrev pub Refuses : Option Message → Phase → L → L → Type 0
    Refuses None phase old new = new ≡ old
    Refuses (Some m) (broken fault) old new = sends old m (Err fault) new
    Refuses (Some m) phase old new = (fault : SendFault) × sends old m (Err fault) new

    -- A turn: a message or a wake comes in a phase in which it is awaited, and then what is to be sent for it is
    -- offered, in order. Nothing else is awaited in between. The phase goes on by the table of a session.
    pub record Meets (passes_late : Bool) (old : Phase × L) (x : Exchange) (new : Phase × L) : Type 0 where
      pub turn : TakesTurn (any_service passes_late) (old.0, tt) x (new.0, tt)
      pub met : L
      pub waited : WaitsIn old.0 old.1 (event_of x.came) met
      pub mid : L
      pub taken : FoldsTo (Takes sends) met x.sent mid
      pub refuses : Refuses x.not_sent new.0 mid new.1

    -- The history of a session from some phase on: its turns, one after another, and its end.
    pub record History (phase : Phase) (exchanges : List Exchange) (stop : Stop) (answer : SessionAnswer)
        (old new : L) : Type 0 where
      pub passes_late : Bool
      pub reached : Phase
      pub mid : L
      pub turns : FoldsTo (Meets passes_late) (phase, old) exchanges (reached, mid)
      pub stopped : Stops (any_service passes_late) reached tt stop answer tt
      pub ends : AwaitsEnd reached (length exchanges) stop mid new

    -- a session from some phase on, of which this is said
    pub record Talks (phase : Phase) (P : SessionPart) (old : L) (answer : SessionAnswer)
        (new : L) : Type 0 where
      pub exchanges : List Exchange
      pub stop : Stop
      pub history : History phase exchanges stop answer old new
      pub part : P exchanges stop answer

-- nothing more is said of a wait
abbrev pub any_wait : {L : Type 0} → L → Event → L → Type 0
any_wait old event new = Unit {0}
