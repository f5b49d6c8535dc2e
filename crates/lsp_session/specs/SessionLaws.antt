-- What holds of the exchanges of every session, whatever its service gives (LSP 3.17, "Server lifecycle"; JSON-RPC 2.0,
-- section 5).
use Rattle.serde_json.specs.Data.{Data}
use Rattle.std.specs.Bool.{MatchBool}
use Rattle.std.specs.List.{list_all}
use Rattle.std.specs.Prelude.{◌≡◌, ◌⊎◌, ℕ, Bool, true, false, not, List, [], ◌∷◌, ◌++◌, ◌&&◌, Option, Some, None}
use Rattle.std.specs.Prelude.{IsSome, IsSomeAnd, Ok, Err, IsErrAnd}
use Rattle.lsp_message.specs.ErrorCode.{number_of}
use Rattle.lsp_message.specs.Id.{Id}
use Rattle.lsp_message.specs.Message.{Message, request, notification, response}
use Rattle.lsp_message.specs.Methods.{is_initialize, is_initialized, is_shutdown, is_exit}
use Rattle.lsp_message.specs.declared.msg.code.ErrorCode.TheVariants.{ServerNotInitialized}
use Rattle.lsp_session.specs.Answered.{AllReplied}
use Rattle.lsp_session.specs.ProtocolError.{ProtocolFault, Shows, disconnected, expected_initialize}
use Rattle.lsp_session.specs.ProtocolError.{expected_initialized, unexpected_in_shutdown, shutdown_timeout}
use Rattle.lsp_session.specs.ProtocolError.{shutdown_disconnected, out_of_memory, fault_of_refusal}
use Rattle.lsp_session.specs.Replies.{null_reply}
use Rattle.lsp_session.specs.Session.{Exchange, messages_of, offered, sends_of, SessionAnswer, SessionPart, Stop}
use Rattle.lsp_session.specs.Session.{decided, no_more, timed_out, refused, exhausted, Phase, starting}
use Rattle.lsp_session.specs.Session.{replied as awaiting, serving, asked, broken, ended, is_served}
use Rattle.lsp_session.specs.declared.lifecycle.SendFault.{SendFault}
use Rattle.lsp_session.specs.declared.loops.handler.SessionEnd.TheVariants.{Closed, ShutDown}
pub use Rattle.lsp_session.specs.Session.{is_reply}

-- of one session, both hold, and of the same exchanges
abbrev pub Both : SessionPart → SessionPart → SessionPart
Both P Q exchanges stop answer = P exchanges stop answer × Q exchanges stop answer

-- whatever the exchanges are, if this holds of a session, so does that
abbrev pub Implies : SessionPart → SessionPart → Type 0
Implies P Q = (exchanges : List Exchange) (stop : Stop) (answer : SessionAnswer)
    → P exchanges stop answer → Q exchanges stop answer

-- a reply that is an error
abbrev pub is_refusal : Message → Bool
is_refusal (response i (Err error)) = true
is_refusal m = false

-- Nothing but errors is sent for these.
abbrev pub AllRefused : List Exchange → Type 0
AllRefused exchanges = list_all is_refusal (sends_of exchanges) ≡ true

-- a message that may come before `initialize` got its result: neither `exit` nor a response
abbrev pub comes_early : Message → Bool
comes_early (request i method params) = true
comes_early (notification method params) = not (is_exit (notification method params))
comes_early (response i outcome) = false

-- the error of a request that comes before `initialize` (LSP 3.17, "Initialize Request")
abbrev pub SaysUninitialized : Message → Type 0
SaysUninitialized (response i (Err error)) = error.code ≡ number_of ServerNotInitialized
SaysUninitialized m = ⊥

abbrev pub AllUninitialized : List Message → Type 0
AllUninitialized [] = Unit {0}
AllUninitialized (m ∷ ms) = SaysUninitialized m × AllUninitialized ms

-- What is sent for another request than `initialize` is that error.
abbrev pub IsRefusedEarly : Option Message → List Message → Type 0
IsRefusedEarly (Some (request i method params)) sent =
    is_initialize (request i method params) ≡ false → AllUninitialized sent
IsRefusedEarly came sent = Unit {0}

-- Such a message came at each of these, and no wake; and requests got that error.
abbrev pub AllEarly : List Exchange → Type 0
AllEarly [] = Unit {0}
AllEarly (x ∷ xs) = IsSomeAnd x.came (λ m. comes_early m ≡ true) × IsRefusedEarly x.came (offered x)
    × AllEarly xs

-- In this phase a session may stop so, and then gives this answer: what the table of `Stops` says of any service.
abbrev pub StopsAt : Phase → Stop → SessionAnswer → Type 0
StopsAt (ended by) decided answer = answer ≡ by
StopsAt (ended by) stop answer = ⊥
StopsAt (broken by) stop answer = ⊥
StopsAt phase decided answer = ⊥
StopsAt starting no_more answer = answer ≡ Err disconnected
StopsAt awaiting no_more answer = answer ≡ Err disconnected
StopsAt serving no_more answer = answer ≡ Ok Closed
StopsAt (asked i) no_more answer = answer ≡ Err shutdown_disconnected
StopsAt (asked i) timed_out answer = answer ≡ Err shutdown_timeout
StopsAt phase timed_out answer = ⊥
StopsAt (asked i) (refused fault) answer = ⊥
StopsAt phase (refused fault) answer = answer ≡ Err (fault_of_refusal fault)
StopsAt phase exhausted answer = answer ≡ Err out_of_memory

-- No message is left, and the session stopped in this phase; or one is left that is none of those awaited: it decided,
-- nothing is sent for it, and the fault shows it.
abbrev pub StopsBefore : Phase → (Message → Bool) → (List ℕ → ProtocolFault) → List Exchange → Stop
    → SessionAnswer → Type 0
StopsBefore phase is_awaited fault [] stop answer = StopsAt phase stop answer
StopsBefore phase is_awaited fault (x ∷ rest) stop answer =
    (rest ≡ []) × IsSomeAnd x.came (λ m. is_awaited m ≡ false) × (offered x ≡ []) × (stop ≡ decided)
    × IsErrAnd answer (Shows fault)

-- `initialize` got no result: the session stopped before, or at an `exit` or a response
abbrev pub IsUnstarted : List Exchange → Stop → SessionAnswer → Type 0
IsUnstarted = StopsBefore starting comes_early expected_initialize

-- the last of these messages is `initialize`, and it gets its result
pub record EndsWithResult (exchanges : List Exchange) : Type 0 where
  pub before : List Exchange
  pub id : Id
  pub method : List ℕ
  pub params : Data
  pub result : Data
  pub asks : is_initialize (request id method params) ≡ true
  pub last : Exchange
  pub cut : exchanges ≡ before ++ last ∷ []
  pub came : last.came ≡ Some (request id method params)
  pub gets : offered last ≡ response id (Ok result) ∷ []

-- `initialized` comes first
abbrev pub IsInvited : List Exchange → Type 0
IsInvited [] = ⊥
IsInvited (x ∷ rest) = IsSomeAnd x.came (λ m. is_initialized m ≡ true)

-- `initialized` did not come: the session stopped before, or at another message
abbrev pub IsUnopened : List Exchange → Stop → SessionAnswer → Type 0
IsUnopened = StopsBefore awaiting is_initialized expected_initialized

-- The message that comes decides, where `exit` is awaited: the session shut down only if it is `exit`.
abbrev pub DecidesExit : Option Message → List Exchange → Stop → SessionAnswer → Type 0
DecidesExit came rest stop answer = (rest ≡ []) × (stop ≡ decided)
    × IsSomeAnd came (λ m.
    MatchBool (is_exit m) (answer ≡ Ok ShutDown)
    (IsErrAnd answer (Shows unexpected_in_shutdown)))

-- `exit` is the last of these messages, and the first one: it decided, and nothing is sent for it
pub record EndsWithExit (exchanges : List Exchange) (stop : Stop) (answer : SessionAnswer) :
    Type 0 where
  pub before : List Exchange
  pub last : Message
  pub cut : exchanges ≡ before ++ record { came = Some last; sent = []; not_sent = None } ∷ []
  pub none_before : list_all is_served (messages_of before) ≡ true
  pub leaves : is_exit last ≡ true
  pub decides : stop ≡ decided
  pub closes : answer ≡ Ok Closed

-- If the session stopped since the outbox refused a message, that is one of the last exchange.
abbrev pub WasOffered : Stop → List Exchange → Type 0
WasOffered (refused fault) exchanges =
    (earlier : List Exchange) × (last : Exchange) × (exchanges ≡ earlier ++ last ∷ []) × IsSome last.not_sent
WasOffered stop exchanges = Unit {0}

-- Of a session that passes over responses after `shutdown`, or not, and whose service may speak before the reply to it,
-- or not.
module _ (passes_late speaks_last : Bool) where
  -- After the reply to `shutdown`, which was sent under this id, nothing is sent. Responses may arrive, which are
  -- skipped; then no message arrives, or one that decides.
  abbrev pub AfterShutdown : Id → List Exchange → Stop → SessionAnswer → Type 0
  AfterShutdown id [] stop answer = StopsAt (asked id) stop answer
  AfterShutdown id (x ∷ rest) stop answer = (offered x ≡ [])
      × ((IsSomeAnd x.came (λ m. (passes_late && is_reply m) ≡ true) × AfterShutdown id rest stop answer)
      ⊎ DecidesExit x.came rest stop answer)

  -- The first `shutdown` gets null, under its id, and that is the last message that is sent. What is sent for it before
  -- is the service's. No `exit` comes before it.
  pub record EndsWithShutdown (exchanges : List Exchange) (stop : Stop) (answer : SessionAnswer) : Type 0 where
    pub before : List Exchange
    pub id : Id
    pub method : List ℕ
    pub params : Data
    pub parting : List Message
    pub after : List Exchange
    pub asking : Exchange
    pub cut : exchanges ≡ before ++ asking ∷ after
    pub came : asking.came ≡ Some (request id method params)
    pub gets : offered asking ≡ parting ++ null_reply id ∷ []
    pub none_before : list_all is_served (messages_of before) ≡ true
    pub asks : is_shutdown (request id method params) ≡ true
    pub silent : speaks_last ≡ false → parting ≡ []
    pub after_shutdown : AfterShutdown id after stop answer

  -- The first `shutdown` is the last of these messages, and no `exit` comes before it: the outbox refused a message
  -- that the service gave for it.
  pub record BreaksAtShutdown (exchanges : List Exchange) (stop : Stop) (answer : SessionAnswer) :
      Type 0 where
    pub before : List Exchange
    pub last : Message
    pub breaking : Exchange
    pub cut : exchanges ≡ before ++ breaking ∷ []
    pub came : breaking.came ≡ Some last
    pub none_before : list_all is_served (messages_of before) ≡ true
    pub asks : is_shutdown last ≡ true
    pub speaks : speaks_last ≡ true
    pub fault : SendFault
    pub refuses : stop ≡ refused fault
    pub fails : answer ≡ Err (fault_of_refusal fault)

  -- No reply to `shutdown` is sent. No `shutdown` comes, and no message after `exit`, and where no `exit` comes the
  -- session stopped as it does while it serves. Or it stopped at the first `shutdown`.
  abbrev pub HasNoShutdown : List Exchange → Stop → SessionAnswer → Type 0
  HasNoShutdown exchanges stop answer =
      ((list_all is_served (messages_of exchanges) ≡ true) × StopsAt serving stop answer)
      ⊎ (EndsWithExit exchanges stop answer ⊎ BreaksAtShutdown exchanges stop answer)

  -- `initialize` got its result, and errors alone came before it. Then `initialized` comes, and from there on
  -- `shutdown` gets the reply that is the last message sent. If `initialized` does not come, nothing more is sent.
  pub record IsOpened (early rest : List Exchange) (stop : Stop) (answer : SessionAnswer) : Type 0 where
    pub ends : EndsWithResult early
    pub refused : AllRefused ends.before
    pub came : AllEarly ends.before
    pub later : (IsInvited rest
        × (HasNoShutdown rest stop answer ⊎ EndsWithShutdown rest stop answer))
        ⊎ IsUnopened rest stop answer

  -- Up to and with `initialize` each request gets one reply, and nothing else is sent: errors, and last its result. The
  -- errors of other requests have the code -32002. Neither `exit` nor a response comes before that result, unless it is
  -- the last message and decides. Each end has the answer of its phase. If a message was refused, one was offered.
  pub record KeepsOrder (exchanges : List Exchange) (stop : Stop) (answer : SessionAnswer) : Type 0 where
    pub early : List Exchange
    pub rest : List Exchange
    pub cut : exchanges ≡ early ++ rest
    pub replied : AllReplied early
    pub opened : IsOpened early rest stop answer
        ⊎ (AllRefused early × AllEarly early × IsUnstarted rest stop answer)
    pub offered : WasOffered stop exchanges

-- `initialize` came and then `initialized`, and these messages, which were sent, hold all that was sent up to the
-- result of `initialize`.
abbrev pub OpenedBy : List Exchange → List Message → Type 0
OpenedBy exchanges sent =
    (early : List Exchange) × (rest : List Exchange) × (later : List Message)
    × (exchanges ≡ early ++ rest) × (sent ≡ sends_of early ++ later) × EndsWithResult early
    × IsInvited rest
