-- What a server's acts at a message or a wake send, in order.
use Rattle.std.specs.FinMap as map
use Rattle.std.specs.Prelude.{◌≡◌, pos, List, [], ◌∷◌, ◌++◌, Option, Some, None, Err, if◌then◌else◌}
use Rattle.lsp_message.specs.Id.{Id, number}
use Rattle.lsp_message.specs.Message.{Message, request, notification, response}
use Rattle.lsp_queue.specs.Queue.{pending_of, count_of, ids_where}
use Rattle.lsp_acts.specs.Acts.{Act, tells, asks, replies, cancels, Queues, is_spent, does, does_all, unsent, holds}
use Rattle.lsp_acts.specs.Acts.{given, released, canceled, ends_all, cancelled_by, cancel_all, cleared, TakesBack}
use Rattle.lsp_acts.specs.declared.server.Server.{Ghosts as Stated}

module _ {P : Type 0} where
  -- What an act sends: a notification; a request, if an id is left, under the next id; the answer of a request that is
  -- held; the cancellations of the server's own requests that keep such a payload and have no reply yet, in the order
  -- of their ids.
  abbrev pub sends_by : Queues P → Act P → List Message
  sends_by d (tells method params) = notification method params ∷ []
  sends_by d (asks method params payload) = if is_spent (count_of d.asked) then []
      else request (number (pos (count_of d.asked))) method params ∷ []
  sends_by d (replies id outcome) = if map.contains_key d.held id then response id outcome ∷ []
      else []
  sends_by d (cancels such) = cancel_all (ids_where such (pending_of d.asked))

  -- what acts send, one after another
  abbrev pub all_sends : Queues P → List (Act P) → List Message
  all_sends d [] = []
  all_sends d (act ∷ acts) = sends_by d act ++ all_sends (does d act) acts

  -- what a reply of the client brings: what is kept with the request that waits under its id
  abbrev pub brought_by : Queues P → Option Message → Option P
  brought_by d (Some (response id outcome)) = map.get (pending_of d.asked) id
  brought_by d came = None

  -- The queues when the server acts: a request that came is held, and the payload of a reply was given out.
  abbrev pub queues_at : Queues P → Option Message → Option P → Queues P
  queues_at d (Some (request id method params)) payload = holds d id
  queues_at d (Some (response id outcome)) (Some payload) = given d id
  queues_at d came payload = d

  -- the answer to a request that was cancelled, if there is one
  abbrev pub cancelled_answer : Option Id → List (Act P)
  cancelled_answer None = []
  cancelled_answer (Some id) = replies id (Err canceled) ∷ []

  -- the acts of the server, and where a message cancels a request, the answer to that one, if it is still held
  abbrev pub acts_done_at : Option Message → List (Act P) → List (Act P)
  acts_done_at (Some (notification method params)) acts =
      acts ++ cancelled_answer (cancelled_by method params)
  acts_done_at came acts = acts

module _ {S P : Type 0} (may : Stated S P) where
  -- The server is handed a message, a reply with a payload, or woken, and does this: what it stated, at each of them.
  abbrev pub Handed : S → Option Message → Option P → List (Act P) → S → Type 0
  Handed old (Some (request id method params)) payload acts new =
      may.request_post old id method params acts new × (payload ≡ None)
  Handed old (Some (notification method params)) payload acts new =
      may.notification_post old method params acts new × (payload ≡ None)
  Handed old (Some (response id outcome)) (Some payload) acts new =
      may.response_post old payload outcome acts new
  Handed old (Some (response id outcome)) None acts new = (new ≡ old) × (acts ≡ [])
  Handed old None payload acts new = may.woken_post old acts new × (payload ≡ None)

  -- At a message or a wake the server, which stated what it may do, did this, and what these acts send is all that is
  -- sent. These are the queues afterwards, and the server, which took back what found no id.
  pub record ActsAt (old : S × Queues P) (came : Option Message) (output : List Message) (new : S
      × Queues P) : Type 0 where
    pub payload : Option P
    pub acts : List (Act P)
    pub did : S
    pub brought : payload ≡ brought_by old.1 came
    pub handed : Handed old.0 came payload acts did
    pub back : TakesBack may.ids_exhausted_post did (unsent (count_of old.1.asked) acts) new.0
    pub sent : output ≡ old.1.sent
        ++ all_sends (queues_at old.1 came payload) (acts_done_at came acts)
    pub queues : new.1 ≡ cleared (does_all (queues_at old.1 came payload) (acts_done_at came acts))

  -- At `shutdown`, which came under this id, the server, which stated what it may do, did this last, and then the
  -- requests under these ids are answered. What these acts send is all that is sent before the reply. These are the
  -- queues afterwards, in which nothing is held, and the server, which took back what found no id.
  pub record ActsAtShutdown (old : S × Queues P) (id : Id) (output : List Message) (new : S
      × Queues P) : Type 0 where
    pub acts : List (Act P)
    pub did : S
    pub stated : may.shutdown_post old.0 acts did
    pub back : TakesBack may.ids_exhausted_post did (unsent (count_of old.1.asked) acts) new.0
    pub ids : List Id
    pub sent : output
        ≡ old.1.sent ++ all_sends (released old.1 id) (acts ++ ends_all ids)
    pub queues : new.1 ≡ cleared (does_all (released old.1 id) (acts ++ ends_all ids))
    pub none : new.1.held ≡ map.empty
