-- What a dispatcher answers to a call, by what is pending.
use Rattle.std.specs.FinMap as map
use Rattle.std.specs.Prelude.{ℕ, ◌+◌, ◌-◌, ◌^◌, ◌==◌, Bool, false, Option, Some, None, Result, codes, if◌then◌else◌}
use Rattle.std.specs.Prelude.{List, [], ◌∷◌}
use Rattle.std.specs.Str.{bytes_eq}
use Rattle.serde_json.specs.Data.{Data}
use Rattle.lsp_message.specs.Id.{Id}
use Rattle.lsp_message.specs.Message.{Message, ErrorObject, request, notification, response}
use Rattle.lsp_queue.specs.Queue.{Asked, pending_of, count_of, cancelled, cancelled_id}
use Rattle.lsp_dispatch.specs.DispatchAnswers.{Answer, unknown, work, cancelled_work, finished_work, note, nothing}
use Rattle.lsp_dispatch.specs.DispatchCalls.{Call, delivers, finishes, is_own, not_found_reply}

-- how many tickets there are
abbrev pub all_tickets : ℕ
all_tickets = 2 ^ 64 - 1

-- the tickets that are pending, each under the id of its request, and how many were given out
abbrev pub Held : Type 0
Held = Asked ℕ

abbrev pub without : Held → Id → Held
without held id = (map.remove (pending_of held) id, count_of held)

abbrev pub cancelling_at : Held → Id → Option ℕ → Answer × Held
cancelling_at held id None = (nothing, held)
cancelling_at held id (Some ticket) = (cancelled_work (cancelled id) ticket, without held id)

abbrev pub cancelling : Held → Option Id → Answer × Held
cancelling held None = (nothing, held)
cancelling held (Some id) = cancelling_at held id (map.get (pending_of held) id)

abbrev pub delivered : Held → Message → Answer × Held
delivered held (request id method params) =
    if is_own method then (unknown (not_found_reply id), held)
    else (
      work (request id method params)
          (count_of held),
      (map.insert (pending_of held) id (count_of held), count_of held + 1),
    )
delivered held (notification method params) =
    if bytes_eq method (codes "$/cancelRequest") then cancelling held (cancelled_id params)
    else if is_own method then (nothing, held)
    else (note (notification method params), held)
delivered held (response id outcome) = (nothing, held)

abbrev pub is_pending_with : ℕ → Option ℕ → Bool
is_pending_with ticket None = false
is_pending_with ticket (Some pending) = pending == ticket

abbrev pub finished : Held → Id → ℕ → Result Data ErrorObject → Answer × Held
finished held id ticket outcome =
    if is_pending_with ticket (map.get (pending_of held) id)
    then (finished_work (response id outcome) ticket, without held id)
    else (nothing, held)

-- the answer to a call, and what is pending then
abbrev pub answered : Held → Call → Answer × Held
answered held (delivers message) = delivered held message
answered held (finishes id ticket outcome) = finished held id ticket outcome

-- nothing is pending, and no ticket was given out
abbrev pub no_work : Held
no_work = (map.empty, 0)

-- the answers to these calls, one after another
abbrev pub answers_from : Held → List Call → List Answer
answers_from held [] = []
answers_from held (call ∷ calls) =
    (answered held call).0 ∷ answers_from (answered held call).1 calls
