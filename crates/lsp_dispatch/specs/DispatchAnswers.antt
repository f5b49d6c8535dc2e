-- The answers of a dispatcher, as plain data.
use Rattle.std.specs.Prelude.{ℕ, Option, Some, None}
use Rattle.lsp_message.specs.Message as plain
use Rattle.lsp_message.specs.View.{request_view, notification_view, response_view, message_view, outcome_view}
use Rattle.lsp_dispatch.specs.DispatchCalls as calls
use Rattle.lsp_dispatch.specs.declared.answer.Answer as code
use Rattle.lsp_dispatch.specs.declared.answer.Answer.TheVariants as answer
use Rattle.lsp_dispatch.specs.declared.calls.Call as code_call
use Rattle.lsp_dispatch.specs.declared.calls.Call.TheVariants as call

pub data Answer : Type 0 where
  -- the reply to a request that nobody knows
  unknown : plain.Message → Answer
  -- a request, and its ticket
  work : plain.Message → ℕ → Answer
  -- the reply to a request that was cancelled, and its ticket
  cancelled_work : plain.Message → ℕ → Answer
  -- the reply to a request whose work is done, and its ticket
  finished_work : plain.Message → ℕ → Answer
  -- a notification
  note : plain.Message → Answer
  nothing : Answer

abbrev pub answer_view : code.Answer → Answer
answer_view (answer.Unknown reply) = unknown (response_view reply)
answer_view (answer.Work request ticket) = work (request_view request) ticket
answer_view (answer.Cancelled reply ticket) = cancelled_work (response_view reply) ticket
answer_view (answer.Finished reply ticket) = finished_work (response_view reply) ticket
answer_view (answer.Note notification) = note (notification_view notification)
answer_view answer.Nothing = nothing

abbrev pub call_view : code_call.Call → calls.Call
call_view (call.Deliver message) = calls.delivers (message_view message)
call_view (call.Finish id ticket outcome) = calls.finishes id ticket (outcome_view outcome)

-- the reply that an answer has
abbrev pub reply_of : Answer → Option plain.Message
reply_of (unknown reply) = Some reply
reply_of (work message ticket) = None
reply_of (cancelled_work reply ticket) = Some reply
reply_of (finished_work reply ticket) = Some reply
reply_of (note message) = None
reply_of nothing = None
