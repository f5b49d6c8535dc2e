-- A server beside its queues: what it does at a message or a wake, and a session of it.
use Rattle.std.specs.FinMap as map
use Rattle.std.specs.Prelude.{◌≡◌, true, List, Option, Some, None, MatchOption}
use Rattle.lsp_message.specs.Id.{Id}
use Rattle.lsp_message.specs.Message.{Message, request, notification, response}
use Rattle.lsp_queue.specs.Queue.{Pending, pending_of}
use Rattle.lsp_session.specs.Session.{Behavior, Exchange, SessionAnswer, Stop, SessionOut}
use Rattle.lsp_acts.specs.Acts.{Queues, Acts, AnswersHeld, cancelled_by, cleared, empty_queues, given, holds}
use Rattle.lsp_acts.specs.Acts.{released, answers_cancelled}
use Rattle.lsp_acts.specs.View.{queues_of, seen}
use Rattle.lsp_acts.specs.declared.server_application.ServerApplication.{ServerApplication}
use Rattle.lsp_acts.specs.declared.server.Server.{Ghosts as Stated}

-- what a server stated that it may do
module _ {S P : Type 0} (may : Stated S P) where
  -- what the server does at `initialized`, and all that it gives is sent
  abbrev pub OpensSending : S × Queues P → List Message → S × Queues P → Type 0
  OpensSending old sent new =
      (after : S × Queues P) × Acts may.ids_exhausted_post (may.initialized_post old.0) old.1 after
      × (sent ≡ after.1.sent) × (new ≡ (after.0, cleared after.1))

  -- A request is held and passed to the server. The server is notified of a notification. A held request that it
  -- cancels, and that the server did not answer, is then answered. A reply to a request of the server reaches it with
  -- the payload of that request, and another reply is dropped. At a wake-up there is no message, and it does what it
  -- stated about one.
  abbrev pub Works : S × Queues P → Option Message → S × Queues P → Type 0
  Works old (Some (request id method params)) new =
      Acts may.ids_exhausted_post (may.request_post old.0 id method params) (holds old.1 id) new
  Works old (Some (notification method params)) new =
      (did : S × Queues P) × Acts may.ids_exhausted_post (may.notification_post old.0 method params) old.1 did
      × (new ≡ (did.0, answers_cancelled did.1 (cancelled_by method params)))
  Works old (Some (response id outcome)) new =
      MatchOption (map.get (pending_of old.1.asked) id) (new ≡ old)
      (λ payload. Acts may.ids_exhausted_post (may.response_post old.0 payload outcome) (given old.1 id) new)
  Works old None new = Acts may.ids_exhausted_post (may.woken_post old.0) old.1 new

  -- all that it gives then is sent
  abbrev pub WorksSending : S × Queues P → Option Message → List Message → S × Queues P → Type 0
  WorksSending old came sent new = (after : S × Queues P) × Works old came after
      × (sent ≡ after.1.sent) × (new ≡ (after.0, cleared after.1))

  -- At `shutdown`, which came under this id, the server does its last acts, and then each request that it leaves is
  -- answered.
  abbrev pub Parts : S × Queues P → Id → S × Queues P → Type 0
  Parts old id new = (did : S × Queues P)
      × Acts may.ids_exhausted_post (may.shutdown_post old.0) (released old.1 id) did
      × AnswersHeld did.1 new.1 × (new.0 ≡ did.0)

  -- all that it gives then is sent
  abbrev pub PartsSending : S × Queues P → Id → List Message → S × Queues P → Type 0
  PartsSending old id sent new = (after : S × Queues P) × Parts old id after
      × (sent ≡ after.1.sent) × (new ≡ (after.0, cleared after.1))

  -- A server with its queues, as a service. If an allocation failed, nothing is said about it. A reply to one of its
  -- requests may cross the `shutdown` of its client, so one that arrives then is skipped.
  abbrev pub with_queues : Behavior (ServerApplication S P)
  with_queues = record {
    initializes = λ old params outcome new. may.initialize_post old.server params outcome new.server
        × (queues_of new.queues ≡ queues_of old.queues);
    at_initialized = λ old sent new. OpensSending (seen old) sent (seen new);
    outputs = λ old m sent new. WorksSending (seen old) (Some m) sent (seen new);
    wakes = λ old sent new. WorksSending (seen old) None sent (seen new);
    at_shutdown = λ old id sent new. PartsSending (seen old) id sent (seen new);
    after_memory_fault = λ old new. Unit {0};
    passes_late = true;
  }

  -- A session of a server, from its first state to its last. Its queues are empty at first.
  pub record ServerSession (first last : S) (exchanges : List Exchange) (stop : Stop)
      (answer : SessionAnswer) : Type 0 where
    pub old : ServerApplication S P
    pub new : ServerApplication S P
    pub from_first : seen old ≡ (first, empty_queues)
    pub to_last : last ≡ new.server
    pub out : SessionOut with_queues old new exchanges stop answer

  -- the requests that are held when a session is over
  abbrev pub held_by : {first last : S} {exchanges : List Exchange} {stop : Stop} {answer : SessionAnswer}
      → ServerSession first last exchanges stop answer → Pending (Unit {0})
  held_by session = (queues_of session.new.queues).held
