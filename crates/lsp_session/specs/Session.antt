-- A session of a server (LSP 3.17, "Server lifecycle"): which messages are sent for which message, and where a session
-- may stop.
use Rattle.serde_json.specs.Data.{Data}
use Rattle.std.specs.Bool.{MatchBool}
use Rattle.std.specs.List.{FoldsTo, filter_map}
use Rattle.std.specs.Prelude.{◌≡◌, ◌⊎◌, ℕ, Bool, true, false, not, ◌&&◌, List, [], ◌∷◌, ◌++◌, map, Option, Some, None}
use Rattle.std.specs.Prelude.{Result, Ok, Err}
use Rattle.lsp_message.specs.Id.{Id}
use Rattle.lsp_message.specs.Message.{Message, ErrorObject, request, response}
use Rattle.lsp_message.specs.Methods.{is_early, is_initialized, is_exit}
pub use Rattle.lsp_message.specs.Methods.{request_id, is_initialize, is_shutdown}
use Rattle.lsp_session.specs.ProtocolError.{ProtocolFault, disconnected, expected_initialize, expected_initialized}
use Rattle.lsp_session.specs.ProtocolError.{unexpected_in_shutdown, shutdown_timeout, shutdown_disconnected}
use Rattle.lsp_session.specs.ProtocolError.{out_of_memory, fault_of_refusal}
use Rattle.lsp_session.specs.Replies.{null_reply, IsEarlyReply}
use Rattle.lsp_session.specs.declared.lifecycle.SendFault.{SendFault}
use Rattle.lsp_session.specs.declared.loops.handler.SessionEnd.{SessionEnd}
use Rattle.lsp_session.specs.declared.loops.handler.SessionEnd.TheVariants.{ShutDown, Closed}

-- what a service of a session may do
pub record Behavior (S : Type 0) : Type 1 where
  -- for these params of `initialize` it may give this outcome, and change so
  pub initializes : S → Data → Result Data ErrorObject → S → Type 0
  -- at `initialized` it may give these messages, in order, and change so
  pub at_initialized : S → List Message → S → Type 0
  -- at a message it may give these, in order, and change so
  pub outputs : S → Message → List Message → S → Type 0
  -- woken, since something that it waits for is ready, it may give these, in order, and change so
  pub wakes : S → List Message → S → Type 0
  -- at `shutdown`, which came under this id, it may give these before the reply, in order, and change so
  pub at_shutdown : S → Id → List Message → S → Type 0
  -- what it may be if an allocation failed in `initialize` or at `initialized`
  pub after_memory_fault : S → S → Type 0
  -- whether a response that arrives after `shutdown` is skipped
  pub passes_late : Bool

-- A message that came, or none if the service was woken; what the outbox took for it, in order; and the message that it
-- refused. What was to follow that one was not offered.
pub record Exchange : Type 0 where
  pub came : Option Message
  pub sent : List Message
  pub not_sent : Option Message

-- the messages and wake-ups of the exchanges, and then the messages alone
abbrev pub came_of : List Exchange → List (Option Message)
came_of exchanges = map (λ (x : Exchange). x.came) exchanges

abbrev pub messages_of : List Exchange → List Message
messages_of exchanges = filter_map (λ (came : Option Message). came) (came_of exchanges)

-- these messages were taken, and then perhaps one was refused
abbrev pub and_refused : List Message → Option Message → List Message
and_refused sent None = sent
and_refused sent (Some m) = sent ++ m ∷ []

-- what was offered for what came
abbrev pub offered : Exchange → List Message
offered x = and_refused x.sent x.not_sent

-- all that was offered
abbrev pub sends_of : List Exchange → List Message
sends_of [] = []
sends_of (x ∷ xs) = offered x ++ sends_of xs

abbrev pub SessionAnswer : Type 0
SessionAnswer = Result SessionEnd ProtocolFault

-- why a session used no further message
pub data Stop : Type 0 where
  -- the last one decided
  decided : Stop
  -- the messages ended
  no_more : Stop
  -- nothing came in time
  timed_out : Stop
  -- the outbox refused the last message that it was offered
  refused : SendFault → Stop
  -- an allocation failed at the message that came next, or at a wake
  exhausted : Stop

-- What is said of a session: its exchanges, where it stopped, and its answer. Two things that are said of a session are
-- said of the same exchanges.
abbrev pub SessionPart : Type 1
SessionPart = List Exchange → Stop → SessionAnswer → Type 0

-- neither the request `shutdown` nor the notification `exit`
abbrev pub is_served : Message → Bool
is_served m = not (is_shutdown m) && not (is_exit m)

-- a response
abbrev pub is_reply : Message → Bool
is_reply (response i outcome) = true
is_reply m = false

-- where a session stands
pub data Phase : Type 0 where
  -- no `initialize` got a result yet
  starting : Phase
  -- it did, and `initialized` is awaited
  replied : Phase
  -- `initialized` came
  serving : Phase
  -- `shutdown` came under this id, and `exit` is awaited
  asked : Id → Phase
  -- the outbox refused a message so, and that ended the session
  broken : SendFault → Phase
  -- a message decided, and this is the answer
  ended : SessionAnswer → Phase

-- where a session stands after `initialize` got this outcome: after an error the client may send it again
abbrev pub phase_after : Result Data ErrorObject → Phase
phase_after (Ok result) = replied
phase_after (Err error) = starting

-- nothing is sent, and the session ends with a fault that shows the message
abbrev pub Fails : (List ℕ → ProtocolFault) → List Message → Phase → Type 0
Fails fault sent next = (shown : List ℕ) × (sent ≡ []) × (next ≡ ended (Err (fault shown)))

-- The phase after the outbox refused a message, behind which these were to follow, if it is `next` where all is taken.
-- The session is over. But the reply to `shutdown`, behind which nothing follows, may get lost.
abbrev pub AfterRefusal : List Message → Phase → Phase → Type 0
AfterRefusal [] (asked i) new = new ≡ asked i
AfterRefusal more next new = (fault : SendFault) × (new ≡ broken fault)

-- These messages are to be sent at an exchange. They are offered in order, up to one that is refused.
abbrev pub IsOffered : List Message → List Message → Option Message → Phase → Phase → Type 0
IsOffered given sent None next new = (sent ≡ given) × (new ≡ next)
IsOffered given sent (Some m) next new = (more : List Message) × (given ≡ sent ++ m ∷ more)
    × AfterRefusal more next new

module _ {S : Type 0} (may : Behavior S) where
  -- `shutdown` is answered with null, after what the service gives then; and `exit` closes the session
  abbrev pub Leaves : S → Message → List Message → Phase → S → Type 0
  Leaves s (request i method params) sent next s' = (parting : List Message)
      × may.at_shutdown s i parting s' × (sent ≡ parting ++ null_reply i ∷ []) × (next ≡ asked i)
  Leaves s m sent next s' = (sent ≡ []) × (next ≡ ended (Ok Closed)) × (s' ≡ s)

  -- In this phase this message arrives; these messages are sent for it; this is the next phase, and the service then.
  -- Before `initialize` each other request is answered with an error, and a notification except `exit` is dropped. With
  -- no message the service is woken: from `initialized` up to `shutdown`, and nowhere else. After `shutdown` a response
  -- is skipped, if the service says so.
  abbrev pub Step : Phase → S → Option Message → List Message → Phase → S → Type 0
  Step starting s (Some (request i method params)) sent next s' =
      MatchBool (is_initialize (request i method params))
      ((outcome : Result Data ErrorObject) × may.initializes s params outcome s'
      × (sent ≡ response i outcome ∷ []) × (next ≡ phase_after outcome))
      ((reply : Message) × IsEarlyReply i reply × (sent ≡ reply ∷ []) × (next ≡ starting)
      × (s' ≡ s))
  Step starting s (Some m) sent next s' =
      MatchBool (is_early m) ((sent ≡ [])
      × (next ≡ starting)) (Fails expected_initialize sent next) × (s' ≡ s)
  Step replied s (Some m) sent next s' =
      MatchBool (is_initialized m) (may.at_initialized s sent s'
      × (next ≡ serving)) (Fails expected_initialized sent next × (s' ≡ s))
  Step serving s (Some m) sent next s' =
      MatchBool (is_served m) (may.outputs s m sent s' × (next ≡ serving))
      (Leaves s m sent next s')
  Step serving s None sent next s' = may.wakes s sent s' × (next ≡ serving)
  Step (asked i) s (Some m) sent next s' =
      MatchBool (is_exit m) ((sent ≡ []) × (next ≡ ended (Ok ShutDown)))
      (MatchBool (may.passes_late && is_reply m) ((sent ≡ []) × (next ≡ asked i))
      (Fails unexpected_in_shutdown sent next)) × (s' ≡ s)
  Step phase s came sent next s' = ⊥

  -- One exchange: a row of the table, and what it gives is offered.
  pub record TakesTurn (old : Phase × S) (x : Exchange) (new : Phase × S) : Type 0 where
    pub given : List Message
    pub next : Phase
    pub step : Step old.0 old.1 x.came given next new.1
    pub offers : IsOffered given x.sent x.not_sent next new.0

  -- exchanges, one after another
  abbrev pub Steps : Phase → S → List Exchange → Phase → S → Type 0
  Steps phase s exchanges phase' s' = FoldsTo TakesTurn (phase, s) exchanges (phase', s')

  -- In this phase, with this service, a session may stop so, give this answer, and leave the service as this. If an
  -- allocation failed, the service may have been called for the message or the wake that came next.
  abbrev pub Stops : Phase → S → Stop → SessionAnswer → S → Type 0
  Stops (ended by) s decided answer s' = (answer ≡ by) × (s' ≡ s)
  Stops (ended by) s stop answer s' = ⊥
  Stops (broken by) s (refused fault) answer s' = (fault ≡ by) × (answer ≡ Err (fault_of_refusal fault)) × (s' ≡ s)
  Stops (broken by) s stop answer s' = ⊥
  Stops phase s decided answer s' = ⊥
  Stops phase s (refused fault) answer s' = ⊥
  Stops starting s no_more answer s' = (answer ≡ Err disconnected) × (s' ≡ s)
  Stops replied s no_more answer s' = (answer ≡ Err disconnected) × (s' ≡ s)
  Stops serving s no_more answer s' = (answer ≡ Ok Closed) × (s' ≡ s)
  Stops (asked i) s no_more answer s' = (answer ≡ Err shutdown_disconnected) × (s' ≡ s)
  Stops (asked i) s timed_out answer s' = (answer ≡ Err shutdown_timeout) × (s' ≡ s)
  Stops phase s timed_out answer s' = ⊥
  Stops (asked i) s exhausted answer s' = (answer ≡ Err out_of_memory) × (s' ≡ s)
  Stops serving s exhausted answer s' = answer ≡ Err out_of_memory
  Stops phase s exhausted answer s' = (answer ≡ Err out_of_memory)
      × ((s' ≡ s) ⊎ may.after_memory_fault s s')

  -- a session from some phase on
  pub record SessionFrom (phase : Phase) (s s' : S) (exchanges : List Exchange) (stop : Stop)
      (answer : SessionAnswer) : Type 0 where
    pub last : Phase
    pub after : S
    pub reached : Steps phase s exchanges last after
    pub stopped : Stops last after stop answer s'

  -- a whole session
  abbrev pub SessionOut : S → S → SessionPart
  SessionOut = SessionFrom starting

-- a service of which nothing is known, but whether it passes over a response that comes after `shutdown`
abbrev pub any_service : Bool → Behavior (Unit {0})
any_service passes = record {
  initializes = λ old params outcome new. Unit {0};
  at_initialized = λ old sent new. Unit {0};
  outputs = λ old m sent new. Unit {0};
  wakes = λ old sent new. Unit {0};
  at_shutdown = λ old id sent new. Unit {0};
  after_memory_fault = λ old new. Unit {0};
  passes_late = passes;
}
