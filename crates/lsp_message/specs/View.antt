-- The plain data of the Rust types.
use Rattle.std.specs.Prelude.{option_map, Result, Ok, Err, string_bytes}
use Rattle.serde_json.specs.Data.{Data}
use Rattle.serde_json.specs.View.{view}
use Rattle.serde_json.specs.declared.value.Value.{Value}
use Rattle.lsp_message.specs.Message as plain
use Rattle.lsp_message.specs.Message.{ErrorObject}
use Rattle.lsp_message.specs.declared.msg.Request.{Request}
use Rattle.lsp_message.specs.declared.msg.Notification.{Notification}
use Rattle.lsp_message.specs.declared.msg.Response.{Response}
use Rattle.lsp_message.specs.declared.msg.ResponseError.{ResponseError}
use Rattle.lsp_message.specs.declared.msg.Message as message
use Rattle.lsp_message.specs.declared.msg.Message.TheVariants as variant

abbrev pub error_view : ResponseError → ErrorObject
error_view e =
    record { code = e.code; message = string_bytes e.message; details = option_map view e.«data» }

abbrev pub outcome_view : Result Value ResponseError → Result Data ErrorObject
outcome_view (Ok value) = Ok (view value)
outcome_view (Err e) = Err (error_view e)

abbrev pub request_view : Request → plain.Message
request_view r = plain.request r.id (string_bytes r.method) (view r.params)

abbrev pub notification_view : Notification → plain.Message
notification_view n = plain.notification (string_bytes n.method) (view n.params)

abbrev pub response_view : Response → plain.Message
response_view r = plain.response r.id (outcome_view r.response_result)

abbrev pub message_view : message.Message → plain.Message
message_view (variant.Request r) = request_view r
message_view (variant.Response r) = response_view r
message_view (variant.Notification n) = notification_view n
