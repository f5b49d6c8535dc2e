-- What the server does with a message other than `shutdown`.
use Rattle.serde_json.specs.Data.{Data}
use Rattle.std.specs.Prelude.{ℕ, List, Bool, None, Result, Ok, Err, codes, if◌then◌else◌}
use Rattle.std.specs.Str.{bytes_eq}
use Rattle.lsp_server.specs.DispatchAnswers.{Answer, unknown, work, cancelled_work, finished_work, note, nothing}
use Rattle.lsp_server.specs.DispatchPending.{Held, delivered, finished}
use Rattle.lsp_server.specs.ErrorCode.{number_of}
use Rattle.lsp_server.specs.Message.{ErrorObject, Message, request, notification, response}
use Rattle.lsp_message.specs.declared.msg.code.ErrorCode.TheVariants.{MethodNotFound}

abbrev pub not_found : ErrorObject
not_found = record {
  code = number_of MethodNotFound;
  message = codes "method not found";
  details =
      None;
}

-- `demo/hold` is kept
abbrev pub is_kept : List ℕ → Bool
is_kept method = bytes_eq method (codes "demo/hold")

-- what comes of a request that is finished at once: the result of `demo/echo` is its params
abbrev pub demo_outcome : List ℕ → Data → Result Data ErrorObject
demo_outcome method params = if bytes_eq method (codes "demo/echo") then Ok params
    else Err not_found

-- work is begun: a request is kept, or finished at once
abbrev pub begun : Message → ℕ → Held → Answer × Held
begun (request id method params) ticket held =
    if is_kept method then (nothing, held) else finished held id ticket (demo_outcome method params)
begun (notification method params) ticket held = (nothing, held)
begun (response id outcome) ticket held = (nothing, held)

-- what is left to do after an answer of the dispatcher
abbrev pub begun_by : Answer → Held → Answer × Held
begun_by (unknown reply) held = (unknown reply, held)
begun_by (work message ticket) held = begun message ticket held
begun_by (cancelled_work reply ticket) held = (cancelled_work reply ticket, held)
begun_by (finished_work reply ticket) held = (finished_work reply ticket, held)
begun_by (note message) held = (note message, held)
begun_by nothing held = (nothing, held)

-- a message is delivered, and the work that it brings is begun
abbrev pub served : Held → Message → Answer × Held
served held message = begun_by (delivered held message).0 (delivered held message).1
