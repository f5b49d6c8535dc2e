-- What a session of a server does in its user's words (JSON-RPC 2.0, section 5; LSP 3.17, "Server lifecycle"), over its
-- exchanges: the client's messages that it used, and its wakes, in order, and what it sent for each.
use Rattle.serde_json.specs.Data.{Data}
use Rattle.std.specs.FinMap as map
use Rattle.std.specs.Ordering.{eq_by_cmp}
use Rattle.std.specs.Prelude.{◌≡◌, ◌≢◌, ◌≤◌, ◌⊎◌, ◌+◌, ◌||◌, ◌&&◌, ℕ, pos, Bool, true, false, List, [], ◌∷◌, ◌++◌}
use Rattle.std.specs.Prelude.{map as map_list, fold, Option, Some, None, is_some, IsSomeAnd, Result, Ok, Err}
use Rattle.std.specs.Prelude.{IsErrAnd, if◌then◌else◌}
use Rattle.std.specs.Bool.{MatchBool}
use Rattle.std.specs.List.{list_all}
use Rattle.lsp_message.specs.Id.{Id, id_cmp, number}
use Rattle.lsp_message.specs.Message.{Message, ErrorObject, request, notification, response}
use Rattle.lsp_message.specs.Methods.{is_initialize}
use Rattle.lsp_queue.specs.Queue.{Pending}
use Rattle.lsp_session.specs.Finish.{is_initialized}
use Rattle.lsp_session.specs.ProtocolError.{ShowsUnallowed, is_disconnected}
use Rattle.lsp_session.specs.Replies.{null_reply}
use Rattle.lsp_session.specs.Session.{Exchange, came_of, messages_of, offered, sends_of, SessionAnswer, SessionPart}
use Rattle.lsp_session.specs.Session.{Stop, decided, refused, exhausted, is_served, is_shutdown}
use Rattle.lsp_session.specs.SessionLaws.{EndsWithResult, KeepsOrder, AllRefused}
use Rattle.lsp_acts.specs.Acts.{Act, Queues, asks, cancelled_by, cleared, does_all, empty_queues, is_spent}
use Rattle.lsp_acts.specs.Acts.{ids_after, unsent, TakesBack}
use Rattle.lsp_acts.specs.ServerApplication.{ServerSession, held_by}
use Rattle.lsp_acts.specs.SentByActs.{ActsAt, ActsAtShutdown, all_sends}
pub use Rattle.lsp_acts.specs.SentByActs.{Handed}
use Rattle.lsp_acts.specs.declared.server.Server.{Ghosts as Stated}

abbrev pub one_if : Bool → ℕ
one_if true = 1
one_if false = 0

abbrev pub is_request_under : Id → Message → Bool
is_request_under id (request i method params) = eq_by_cmp id_cmp id i
is_request_under id m = false

abbrev pub is_reply_under : Id → Message → Bool
is_reply_under id (response i outcome) = eq_by_cmp id_cmp id i
is_reply_under id m = false

-- a message came, and it has the property
abbrev pub came_with : (Message → Bool) → Option Message → Bool
came_with p None = false
came_with p (Some m) = p m

-- how many of the messages have the property
abbrev pub how_many : (Message → Bool) → List Message → ℕ
how_many p [] = 0
how_many p (m ∷ ms) = one_if (p m) + how_many p ms

-- 1 if a request is held under the id, otherwise 0
abbrev pub held_under : Id → Pending (Unit {0}) → ℕ
held_under id held = one_if (is_some (map.get held id))

-- At no beginning of the session were more replies sent under this id than requests had come under it. If the outbox
-- refused a reply, that one counts as sent.
abbrev pub NeverMore : Id → List Exchange → Type 0
NeverMore id exchanges =
    (before : List Exchange) (after : List Exchange) → exchanges ≡ before ++ after
    → how_many (is_reply_under id) (sends_of before)
    ≤ how_many (is_request_under id) (messages_of before)

-- The last message is a request under this id. The lifecycle does not allow it, and it decided: the fault shows it.
abbrev pub EndsAtRequest : Id → List Exchange → Stop → SessionAnswer → Type 0
EndsAtRequest id exchanges stop answer =
    ((before : List Exchange) × (last : Exchange) × (exchanges ≡ before ++ last ∷ [])
    × IsSomeAnd last.came (λ m. is_request_under id m ≡ true))
    × (stop ≡ decided) × IsErrAnd answer ShowsUnallowed

-- Of exchanges in which one request came under this id: it has exactly one reply. Or it has none: it is still held, or
-- the session ended at it, since the lifecycle does not allow it.
abbrev pub OnceOrEnded : Id → List Exchange → Stop → Pending (Unit {0}) → SessionAnswer → Type 0
OnceOrEnded id exchanges stop held answer =
    (how_many (is_reply_under id) (sends_of exchanges) ≡ 1)
    ⊎ ((how_many (is_reply_under id) (sends_of exchanges) ≡ 0)
    × ((held_under id held ≡ 1) ⊎ EndsAtRequest id exchanges stop answer))

-- This holds of the exchanges from the last request under this id on, if one came.
abbrev pub SinceLast : Id → (List Exchange → Type 0) → List Exchange → Type 0
SinceLast id P exchanges =
    (before : List Exchange) (last : Exchange) (since : List Exchange)
    → exchanges ≡ before ++ last ∷ since → came_with (is_request_under id) last.came ≡ true
    → how_many (is_request_under id) (messages_of since) ≡ 0 → P (last ∷ since)

abbrev pub AnswersLast : Id → List Exchange → Stop → Pending (Unit {0}) → SessionAnswer → Type 0
AnswersLast id exchanges stop held answer =
    SinceLast id (λ since. OnceOrEnded id since stop held answer) exchanges

-- The last request under this id has exactly one reply. Or it has none, and the session ended at it, since the
-- lifecycle does not allow it.
abbrev pub AnswersLastInFull : Id → List Exchange → Stop → SessionAnswer → Type 0
AnswersLastInFull id exchanges stop answer =
    SinceLast id (λ since.
    (how_many (is_reply_under id) (sends_of since) ≡ 1)
    ⊎ ((how_many (is_reply_under id) (sends_of since) ≡ 0) × EndsAtRequest id since stop answer))
    exchanges

-- the message cancels the request with this id (LSP 3.17, "Cancellation Support")
abbrev pub Cancels : Id → Option Message → Type 0
Cancels id (Some (notification method params)) = cancelled_by method params ≡ Some id
Cancels id came = ⊥

-- When the last request under this id was cancelled, it has exactly one reply once that exchange is over. Or the
-- session ended at the cancellation, since the lifecycle does not allow it there.
abbrev pub AnswersCancelled : Id → List Exchange → Stop → SessionAnswer → Type 0
AnswersCancelled id exchanges stop answer =
    (earlier : List Exchange) (cancel : Exchange) (later : List Exchange)
    → exchanges ≡ earlier ++ cancel ∷ later → Cancels id cancel.came
    → SinceLast id (λ since.
    (how_many (is_reply_under id) (sends_of (since ++ cancel ∷ [])) ≡ 1)
    ⊎ ((stop ≡ decided) × IsErrAnd answer ShowsUnallowed)) earlier

-- What was to be sent at these exchanges: what was sent. Or, if the outbox refused a message, that and what was to
-- follow it for the same message or wake, which was lost.
abbrev pub WasToSend : Stop → List Exchange → List Exchange → Type 0
WasToSend (refused fault) exchanges all =
    (earlier : List Exchange) × (last : Exchange) × (lost : List Message) × (exchanges ≡ earlier ++ last ∷ [])
    × (all ≡ earlier ++ record { came = last.came; sent = offered last ++ lost; not_sent = None } ∷ [])
WasToSend stop exchanges all = all ≡ exchanges

-- `shutdown` came and got its reply, if the outbox took that or not
pub record GetsShutdownReply (exchanges : List Exchange) : Type 0 where
  pub before : List Exchange
  pub asking : Exchange
  pub after : List Exchange
  pub id : Id
  pub method : List ℕ
  pub params : Data
  pub parting : List Message
  pub cut : exchanges ≡ before ++ asking ∷ after
  pub came : asking.came ≡ Some (request id method params)
  pub asks : is_shutdown (request id method params) ≡ true
  pub gets : offered asking ≡ parting ++ null_reply id ∷ []

-- The client is gone: the session ended well, or it ended since the client was lost.
abbrev pub IsGone : SessionAnswer → Type 0
IsGone (Ok end) = Unit {0}
IsGone (Err fault) = is_disconnected fault ≡ true

-- The last request under this id has exactly one reply, or none and it is held.
abbrev pub IsOwedWhatIsHeld : Id → List Exchange → Pending (Unit {0}) → Type 0
IsOwedWhatIsHeld id exchanges held =
    SinceLast id (λ since.
    (how_many (is_reply_under id) (sends_of since) ≡ 1)
    ⊎ ((how_many (is_reply_under id) (sends_of since) ≡ 0) × (held_under id held ≡ 1))) exchanges

-- the outbox refused no message, and memory did not run out
abbrev pub IsWhole : Stop → Type 0
IsWhole (refused fault) = ⊥
IsWhole exhausted = ⊥
IsWhole stop = Unit {0}

-- ---- the server's own requests, and what it keeps for their replies

-- a request of the server's own that was sent, and what it kept for the reply
pub record Sent (P : Type 0) : Type 0 where
  pub id : Id
  pub method : List ℕ
  pub params : Data
  pub payload : P

-- What the server did at a message, or woken. A reply of the client came to it with this payload, or reached nobody.
pub record Call (P : Type 0) : Type 0 where
  pub came : Option Message
  pub payload : Option P
  pub acts : List (Act P)

abbrev pub requests_in : List Message → List Message
requests_in [] = []
requests_in (request id method params ∷ ms) = request id method params ∷ requests_in ms
requests_in (m ∷ ms) = requests_in ms

module _ {P : Type 0} where
  abbrev pub request_of : Sent P → Message
  request_of s = request s.id s.method s.params

  -- how many ids were given out after these acts, if so many were before
  abbrev pub ids_after_all : ℕ → List (Act P) → ℕ
  ids_after_all count acts = fold ids_after count acts

  -- The request that an act sends, if so many ids were given out before: its id is the next of 0, 1, 2, ..
  abbrev pub sent_by : ℕ → Act P → List (Sent P)
  sent_by count (asks method params payload) =
      if is_spent count then [] else record {
        id = number (pos count);
        method = method;
        params =
            params;
        payload = payload;
      } ∷ []
  sent_by count act = []

  -- the requests that acts send, in order
  abbrev pub all_sent : ℕ → List (Act P) → List (Sent P)
  all_sent count [] = []
  all_sent count (act ∷ acts) = sent_by count act ++ all_sent (ids_after count act) acts

  -- what was kept with the request that was sent under this id
  abbrev pub kept_under : Id → List (Sent P) → Option P
  kept_under id [] = None
  kept_under id (s ∷ rest) = if eq_by_cmp id_cmp id s.id then Some s.payload else kept_under id rest

  -- what the server did in these calls
  abbrev pub acts_of : List (Call P) → List (Act P)
  acts_of [] = []
  acts_of (call ∷ calls) = call.acts ++ acts_of calls

  -- in one of these calls a reply under this id came to the server
  abbrev pub was_given : Id → List (Call P) → Bool
  was_given id [] = false
  was_given id (call ∷ calls) =
      (is_some call.payload && came_with (is_reply_under id) call.came) || was_given id calls

  -- What a reply under this id brings to the server, after these requests and calls: what was kept with the request
  -- that was sent under its id. After a first reply it brings nothing, and reaches nobody.
  abbrev pub brings : Id → List (Sent P) → List (Call P) → Option P
  brings id sent before = if was_given id before then None else kept_under id sent

  -- In these calls, which follow what was done at `initialized`, each reply of the client reaches the server with the
  -- payload of its own request, once. A reply to no such request, or a second one, reaches nobody.
  abbrev pub GivesOwnPayloads : List (Act P) → List (Call P) → Type 0
  GivesOwnPayloads begun calls =
      (before after : List (Call P)) (call : Call P) (id : Id) → calls ≡ before ++ call ∷ after
      → came_with (is_reply_under id) call.came ≡ true
      → call.payload ≡ brings id (all_sent 0 (begun ++ acts_of before)) before

-- the server is called: at a wake, or at a message but `shutdown` and `exit`
abbrev pub is_call : Option Message → Bool
is_call None = true
is_call (Some m) = is_served m

-- `shutdown` or `exit` comes first, or nothing
abbrev pub IsUnserved : List (Option Message) → Type 0
IsUnserved [] = Unit {0}
IsUnserved (came ∷ rest) = is_call came ≡ false

module _ {S P : Type 0} (may : Stated S P) where
  -- calls take the server from old to new, if so many ids were given out before
  abbrev pub TakesCalls : ℕ → S → List (Call P) → S → Type 0
  TakesCalls count old [] new = new ≡ old
  TakesCalls count old (call ∷ calls) new =
      (did : S) × (mid : S) × Handed may old call.came call.payload call.acts did
      × TakesBack may.ids_exhausted_post did (unsent count call.acts) mid
      × TakesCalls (ids_after_all count call.acts) mid calls new

  -- The calls take the server and its queues from old to new, each at its exchange: what its acts send, in their order,
  -- is all that is sent there.
  abbrev pub SendsActs : S × Queues P → List (Call P) → List Exchange → S × Queues P → Type 0
  SendsActs old [] [] new = new ≡ old
  SendsActs old (call ∷ calls) (x ∷ exchanges) new =
      (mid : S × Queues P) × (at : ActsAt may old x.came (offered x) mid)
      × (call ≡ record { came = x.came; payload = at.payload; acts = at.acts })
      × SendsActs mid calls exchanges new
  SendsActs old calls exchanges new = ⊥

  -- At a message that is not served: at `shutdown` the server does these last acts, and what they send, and the answers
  -- to what is still held, is all that is sent before the reply. At `exit` it does nothing.
  abbrev pub PartsAt : S × Queues P → Option Message → List Message → List (Act P) → S × Queues P → Type 0
  PartsAt old (Some (request id method params)) output acts new =
      (sent : List Message) × (at : ActsAtShutdown may old id sent new) × (acts ≡ at.acts)
      × (output ≡ sent ++ null_reply id ∷ [])
  PartsAt old came output acts new = (acts ≡ []) × (new ≡ old)

  -- the same of the first of these exchanges, if there is one
  abbrev pub PartsFirst : S × Queues P → List Exchange → List (Act P) → S × Queues P → Type 0
  PartsFirst old [] acts new = (acts ≡ []) × (new ≡ old)
  PartsFirst old (x ∷ rest) acts new = PartsAt old x.came (offered x) acts new

  -- The server's part of a session from `initialized` on, from its state at the result to its last: it did this, then
  -- took these calls at the messages and wake-ups up to `shutdown` or `exit`, and did its last acts at `shutdown`, by
  -- its stated meaning. The messages of its acts are all that is sent, each in its place. These are the requests that
  -- it sent.
  pub record TakesPart (start last : S) (opening : Exchange) (later : List Exchange) : Type 0 where
    pub begun : List (Act P)
    pub calls : List (Call P)
    pub at_calls : List Exchange
    pub rest : List Exchange
    pub cut : later ≡ at_calls ++ rest
    pub came : came_of at_calls ≡ map_list (λ (call : Call P). call.came) calls
    pub served : list_all is_call (came_of at_calls) ≡ true
    pub ended : IsUnserved (came_of rest)
    pub did : S
    pub first : S
    pub began : may.initialized_post start begun did
    pub took_back : TakesBack may.ids_exhausted_post did (unsent 0 begun) first
    pub called : S
    pub took_calls : TakesCalls (ids_after_all 0 begun) first calls called
    pub opened : offered opening ≡ all_sends empty_queues begun
    pub queues : Queues P
    pub acted : SendsActs (first, cleared (does_all empty_queues begun)) calls at_calls
        (called, queues)
    pub parting : List (Act P)
    pub left : Queues P
    pub parted : PartsFirst (called, queues) rest parting (last, left)
    pub sent : map_list request_of (all_sent 0 (begun ++ acts_of calls ++ parting))
        ≡ requests_in (sends_of (opening ∷ later))
    pub payloads : GivesOwnPayloads begun calls

  -- What follows the result of `initialize`: `initialized`, and the server takes part from then on. Or nothing more is
  -- sent.
  abbrev pub GoesOn : S → S → List Exchange → Type 0
  GoesOn start last [] = last ≡ start
  GoesOn start last (x ∷ later) =
      IsSomeAnd x.came (λ m.
      MatchBool (is_initialized m) (TakesPart start last x later)
      ((sends_of (x ∷ later) ≡ []) × (last ≡ start)))

  -- the server answers this `initialize` by its stated meaning
  pub record Initializes (old : S) (m : Message) (sent : List Message) (new : S) : Type 0 where
    pub id : Id
    pub method : List ℕ
    pub params : Data
    pub outcome : Result Data ErrorObject
    pub came : m ≡ request id method params
    pub gave : may.initialize_post old params outcome new
    pub told : sent ≡ response id outcome ∷ []

  -- messages up to the result of `initialize` take the server from old to new: no other message changes it
  abbrev pub AnswersInitialize : S → List Exchange → S → Type 0
  AnswersInitialize old [] new = new ≡ old
  AnswersInitialize old (x ∷ xs) new =
      (mid : S) × IsSomeAnd x.came (λ m.
      MatchBool (is_initialize m) (Initializes old m (offered x) mid) (mid ≡ old))
      × AnswersInitialize mid xs new

  -- Nothing but errors is sent. Or errors first, then the result of `initialize`, and the session goes on from there.
  abbrev pub GivesPayloads : S → S → List Exchange → Type 0
  GivesPayloads first last exchanges =
      (AllRefused exchanges × AnswersInitialize first exchanges last)
      ⊎ ((early : List Exchange) × (rest : List Exchange) × (exchanges ≡ early ++ rest)
      × (ends : EndsWithResult early) × AllRefused ends.before
      × (start : S) × AnswersInitialize first early start × GoesOn start last rest)

  -- the laws of a session, in whose end these requests are held
  pub record KeepsLaws (first last : S) (held : Pending (Unit {0})) (exchanges : List Exchange)
      (stop : Stop) (answer : SessionAnswer)
      : Type 0 where
    -- under no id are there ever more replies than requests that came before: no reply goes to anything else, and none
    -- comes twice
    pub never_more : (id : Id) → NeverMore id exchanges
    -- before `initialized` nothing is sent but one reply for each request, and nothing follows the reply to `shutdown`
    pub order : KeepsOrder true true exchanges stop answer
    -- these exchanges with all that was to be sent at them, of which the rest is said
    pub all : List Exchange
    pub to_send : WasToSend stop exchanges all
    -- The last request under an id has one reply, or it is held or ended the session; it has one when it was cancelled.
    -- Once `shutdown` got its reply none is held.
    pub once : stop ≢ exhausted → (id : Id) → AnswersLast id all stop held answer
    pub cancelled : (id : Id) → AnswersCancelled id all stop answer
    pub none_held : GetsShutdownReply all → held ≡ map.empty
    -- Each reply of the client reaches the server with the payload of its own request, once, and each act is sent in
    -- its place, from the server's first state to the one after the last exchange. That is its last state, unless an
    -- allocation failed at the next message.
    pub after : S
    pub payloads : GivesPayloads first after all
    pub kept : (stop ≡ exhausted) ⊎ (last ≡ after)

  -- a session of a server, which keeps the laws
  abbrev pub LawfulSession : S → S → SessionPart
  LawfulSession first last exchanges stop answer =
      (session : ServerSession may first last exchanges stop answer)
      × KeepsLaws first last (held_by may session) exchanges stop answer
