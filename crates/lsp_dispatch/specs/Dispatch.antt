-- The answers to a list of calls, by places in the whole list.
use Rattle.std.specs.List.{filter_map}
use Rattle.std.specs.Prelude.{◌≡◌, ◌⊎◌, ℕ, List, [], ◌∷◌, ◌++◌, length, false, Option, Some, None, Result, codes}
use Rattle.std.specs.Prelude.{MatchBool, if◌then◌else◌, IfSome, slice_get}
use Rattle.std.specs.Str.{bytes_eq}
use Rattle.serde_json.specs.Data.{Data}
use Rattle.lsp_message.specs.Id.{Id}
use Rattle.lsp_message.specs.Message.{Message, ErrorObject, request, notification, response}
use Rattle.lsp_queue.specs.Queue.{cancelled, cancelled_id}
use Rattle.lsp_dispatch.specs.DispatchAnswers.{Answer, unknown, work, cancelled_work, finished_work, note, nothing}
use Rattle.lsp_dispatch.specs.DispatchCalls.{Call, delivers, finishes, is_own, not_found_reply, asked_by, ends}

-- the ids of the requests that these calls bring, in order: the tickets are their places, 0, 1, 2, ..
abbrev pub asked : List Call → List Id
asked calls = filter_map asked_by calls

-- Ticket t is the t-th of the calls that brings a request, from zero. It is live from there on until the first later
-- call that brings a request under its id, cancels its id, or finishes its id and t.
pub record IsLive (before : List Call) (id : Id) (ticket : ℕ) : Type 0 where
  pub earlier : List Call
  pub call : Call
  pub since : List Call
  pub place : before ≡ earlier ++ call ∷ since
  pub counted : length (asked earlier) ≡ ticket
  pub brings : asked_by call ≡ Some id
  pub unended : (x y : List Call) (c : Call) → since ≡ x ++ c ∷ y → ends id ticket c ≡ false

-- a reply if the ticket is live, and nothing if no ticket is
abbrev pub CancelAnswer : List Call → Option Id → Answer → Type 0
CancelAnswer before None answer = answer ≡ nothing
CancelAnswer before (Some id) answer =
    ((ticket : ℕ) × IsLive before id ticket × (answer ≡ cancelled_work (cancelled id) ticket))
    ⊎ (((ticket : ℕ) → IsLive before id ticket → ⊥) × (answer ≡ nothing))

abbrev pub FinishAnswer : List Call → Id → ℕ → Result Data ErrorObject → Answer → Type 0
FinishAnswer before id ticket outcome answer =
    (IsLive before id ticket × (answer ≡ finished_work (response id outcome) ticket))
    ⊎ ((IsLive before id ticket → ⊥) × (answer ≡ nothing))

-- the answer to a message, after these calls
abbrev pub DeliverAnswer : List Call → Message → Answer → Type 0
DeliverAnswer before (request id method params) answer =
    answer ≡ (if is_own method then unknown (not_found_reply id)
    else work (request id method params) (length (asked before)))
DeliverAnswer before (notification method params) answer =
    MatchBool (bytes_eq method (codes "$/cancelRequest"))
    (CancelAnswer before (cancelled_id params) answer)
    (answer ≡ (if is_own method then nothing else note (notification method params)))
DeliverAnswer before (response id outcome) answer = answer ≡ nothing

abbrev pub CallAnswer : List Call → Call → Answer → Type 0
CallAnswer before (delivers message) answer = DeliverAnswer before message answer
CallAnswer before (finishes id ticket outcome) answer = FinishAnswer before id ticket outcome answer

-- each call, after those before it, has its answer
abbrev pub Dispatches : List Call → List Call → List Answer → Type 0
Dispatches before [] [] = Unit {0}
Dispatches before (call ∷ calls) (answer ∷ answers) = CallAnswer before call answer
    × Dispatches (before ++ call ∷ []) calls answers
Dispatches before [] (answer ∷ answers) = ⊥
Dispatches before (call ∷ calls) [] = ⊥

-- There is one answer for each call, and at each place of the list it is what the calls before that place ask for.
pub record AnswersEach (calls : List Call) (answers : List Answer) : Type 0 where
  pub count : length answers ≡ length calls
  pub right : (before after : List Call) (call : Call) → calls ≡ before ++ call ∷ after
      → IfSome (slice_get answers (length before)) (λ answer. CallAnswer before call answer)
