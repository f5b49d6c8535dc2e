-- What a server does at a message, and what its queues make of that: the messages to send, and the two queues of
-- requests that have no reply yet (JSON-RPC 2.0, sections 4 and 5).
use Rattle.serde_json.specs.Data.{Data, object, member, no_members}
use Rattle.std.specs.FinMap as map
use Rattle.std.specs.Prelude.{◌≡◌, ◌+◌, ◌==◌, ℕ, pos, Bool, List, [], ◌∷◌, ◌++◌, map as map_list, fold, Option, Some}
use Rattle.std.specs.Prelude.{None, Result, Err, if◌then◌else◌, codes}
use Rattle.std.specs.Str.{bytes_eq}
use Rattle.lsp_message.specs.ErrorCode.{number_of}
use Rattle.lsp_message.specs.Id.{Id, number}
use Rattle.lsp_message.specs.Message.{Message, ErrorObject, request, notification, response}
use Rattle.lsp_message.specs.Tree.{id_tree}
use Rattle.lsp_message.specs.declared.msg.code.ErrorCode.TheVariants.{RequestCanceled}
use Rattle.lsp_queue.specs.Queue.{Pending, Asked, pending_of, count_of, all_ids, cancelled_id, ids_where}

-- what a server does
pub data Act (P : Type 0) : Type 0 where
  -- it sends a notification
  tells : List ℕ → Data → Act P
  -- it sends a request, and keeps this for the reply
  asks : List ℕ → Data → P → Act P
  -- it answers the client's request with this id
  replies : Id → Result Data ErrorObject → Act P
  -- it cancels each of its requests that keeps such a payload, if it has no reply yet
  cancels : (P → Bool) → Act P

-- at a wake nothing is done, and nothing changes
abbrev pub stays : {S P : Type 0} → S → List (Act P) → S → Type 0
stays old acts new = (acts ≡ []) × (new ≡ old)

-- the client's requests that are held, the server's own requests, and what is to be sent
pub record Queues (P : Type 0) : Type 0 where
  pub held : Pending (Unit {0})
  pub asked : Asked P
  pub sent : List Message

-- the method and the params that cancel a request (LSP 3.17, "Cancellation Support")
abbrev pub cancel_method : List ℕ
cancel_method = codes "$/cancelRequest"

abbrev pub cancel_params : Id → Data
cancel_params id = object (member (codes "id") (id_tree id) no_members)

-- the messages that cancel the requests with these ids
abbrev pub cancel_all : List Id → List Message
cancel_all ids = map_list (λ (id : Id). notification cancel_method (cancel_params id)) ids

-- the request that a notification cancels: its params are an object whose `id` is a good one
abbrev pub cancelled_by : List ℕ → Data → Option Id
cancelled_by method params =
    if bytes_eq method cancel_method then cancelled_id params else None

-- the outcome of a request that its client cancelled
abbrev pub canceled : ErrorObject
canceled = record {
  code = number_of RequestCanceled;
  message = codes "canceled by client";
  details = None;
}

-- the outcome of a request that was still held when `shutdown` came
abbrev pub ended_by_shutdown : ErrorObject
ended_by_shutdown = record {
  code = number_of RequestCanceled;
  message = codes "canceled by shutdown";
  details = None;
}

-- every id for a request of the server's own was given out
abbrev pub is_spent : ℕ → Bool
is_spent count = count == all_ids

module _ {P : Type 0} where
  -- one more message is to be sent
  abbrev pub with_message : Queues P → Message → Queues P
  with_message d m = record { held = d.held; asked = d.asked; sent = d.sent ++ m ∷ [] }

  -- a request of the server's own, under the next id
  abbrev pub sends_request : Queues P → List ℕ → Data → P → Queues P
  sends_request d method params payload = record {
    held = d.held;
    asked = (
      map.insert (pending_of d.asked) (number (pos (count_of d.asked))) payload,
      count_of
          d.asked + 1,
    );
    sent = d.sent ++ request (number (pos (count_of d.asked))) method params ∷ [];
  }

  -- What an act does to the queues. A request of the server is sent only if an id is left for it. An answer is sent
  -- only if the request is held, and then it is no longer held. Requests of the server are cancelled that have no reply
  -- yet, in the order of their ids, and their replies are still awaited.
  abbrev pub does : Queues P → Act P → Queues P
  does d (tells method params) = with_message d (notification method params)
  does d (asks method params payload) = if is_spent (count_of d.asked) then d
      else sends_request d method params payload
  does d (replies id outcome) =
      if map.contains_key d.held id then record {
        held = map.remove d.held id;
        asked =
            d.asked;
        sent = d.sent ++ response id outcome ∷ [];
      } else d
  does d (cancels such) = record {
    held = d.held;
    asked = d.asked;
    sent = d.sent ++ cancel_all (ids_where such (pending_of d.asked));
  }

  -- acts, in order
  abbrev pub does_all : Queues P → List (Act P) → Queues P
  does_all d acts = fold does d acts

  -- nothing is held, asked or to be sent
  abbrev pub empty_queues : Queues P
  empty_queues = record { held = map.empty; asked = (map.empty, 0); sent = [] }

  -- how many ids were given out after an act, if so many were before
  abbrev pub ids_after : ℕ → Act P → ℕ
  ids_after count (asks method params payload) = if is_spent count then count else count + 1
  ids_after count act = count

  -- what an act was to keep for a request that found no id
  abbrev pub unsent_by : ℕ → Act P → List P
  unsent_by count (asks method params payload) = if is_spent count then payload ∷ [] else []
  unsent_by count act = []

  -- what acts were to keep for such requests, in order
  abbrev pub unsent : ℕ → List (Act P) → List P
  unsent count [] = []
  unsent count (act ∷ acts) = unsent_by count act ++ unsent (ids_after count act) acts

  -- a request that came is held
  abbrev pub holds : Queues P → Id → Queues P
  holds d id = record { held = map.insert d.held id tt; asked = d.asked; sent = d.sent }

  -- a reply came: the payload is given out once
  abbrev pub given : Queues P → Id → Queues P
  given d id = record {
    held = d.held;
    asked =
        (map.remove (pending_of d.asked) id, count_of d.asked);
    sent = d.sent;
  }

  -- a request that was cancelled is answered so if it is still held
  abbrev pub answers_cancelled : Queues P → Option Id → Queues P
  answers_cancelled d None = d
  answers_cancelled d (Some id) = does d (replies id (Err canceled))

  -- `shutdown` came under this id. It gets its own reply, so a request that is held under the same id gets no other.
  abbrev pub released : Queues P → Id → Queues P
  released d id = record { held = map.remove d.held id; asked = d.asked; sent = d.sent }

  -- the answers to the requests under these ids, where they are held: `shutdown` ended them
  abbrev pub ends_all : List Id → List (Act P)
  ends_all ids = map_list (λ (id : Id). replies id (Err ended_by_shutdown)) ids

  -- Each request that is held is answered so, in any order, and none is held any more.
  pub record AnswersHeld (old new : Queues P) : Type 0 where
    pub ids : List Id
    pub answered : new ≡ does_all old (ends_all ids)
    pub none : new.held ≡ map.empty

  -- all was sent
  abbrev pub cleared : Queues P → Queues P
  cleared d = record { held = d.held; asked = d.asked; sent = [] }

module _ {S P : Type 0} (ids_exhausted_post : S → P → S → Type 0) where
  -- the server takes these back, one after another
  abbrev pub TakesBack : S → List P → S → Type 0
  TakesBack old [] new = new ≡ old
  TakesBack old (payload ∷ payloads) new = (mid : S) × ids_exhausted_post old payload mid
      × TakesBack mid payloads new

  -- What the server did takes it and its queues from old to new. What it was to keep for a request that found no id it
  -- takes back.
  abbrev pub Acts : (List (Act P) → S → Type 0) → Queues P → S × Queues P → Type 0
  Acts did d new = (acts : List (Act P)) × (mid : S) × did acts mid
      × TakesBack mid (unsent (count_of d.asked) acts) new.0 × (new.1 ≡ does_all d acts)
