-- What a user of the answers may rest on, in terms of the answers alone.
use Rattle.std.specs.Prelude.{◌≡◌, ◌≢◌, ℕ, List, ◌∷◌, ◌++◌, Option, Some, None}
use Rattle.lsp_message.specs.Id.{Id}
use Rattle.lsp_message.specs.Message.{Message, request, notification, response}
use Rattle.lsp_dispatch.specs.DispatchAnswers.{Answer, unknown, work, cancelled_work, finished_work, note, nothing}

-- the id of a request or a reply
abbrev pub id_in : Message → Option Id
id_in (request id method params) = Some id
id_in (notification method params) = None
id_in (response id outcome) = Some id

-- the ticket to which an answer replies, cancelled or finished, and the id of the reply
abbrev pub reply_in : Answer → Option (Option Id × ℕ)
reply_in (unknown reply) = None
reply_in (work message ticket) = None
reply_in (cancelled_work reply ticket) = Some (id_in reply, ticket)
reply_in (finished_work reply ticket) = Some (id_in reply, ticket)
reply_in (note message) = None
reply_in nothing = None

-- the ticket to be worked on, and the id of its request
abbrev pub work_in : Answer → Option (Option Id × ℕ)
work_in (unknown reply) = None
work_in (work message ticket) = Some (id_in message, ticket)
work_in (cancelled_work reply ticket) = None
work_in (finished_work reply ticket) = None
work_in (note message) = None
work_in nothing = None

-- A reply is to the work of its ticket, under the id of that request. Between the two no reply has this ticket, and no
-- other work came under this id.
pub record RepliesTo (before : List Answer) (id : Id) (ticket : ℕ) : Type 0 where
  pub earlier : List Answer
  pub asked : Answer
  pub since : List Answer
  pub place : before ≡ earlier ++ asked ∷ since
  pub its_work : work_in asked ≡ Some (Some id, ticket)
  pub once : (x y : List Answer) (a : Answer) (i : Option Id) → since ≡ x ++ a ∷ y
      → reply_in a ≢ Some (i, ticket)
  pub unreplaced : (x y : List Answer) (a : Answer) (t : ℕ) → since ≡ x ++ a ∷ y
      → work_in a ≢ Some (Some id, t)

-- each reply among the answers
abbrev pub RepliesOnce : List Answer → Type 0
RepliesOnce answers = (before after : List Answer) (answer : Answer) (id : Id) (ticket : ℕ)
    → answers ≡ before ++ answer ∷ after → reply_in answer ≡ Some (Some id, ticket)
    → RepliesTo before id ticket
