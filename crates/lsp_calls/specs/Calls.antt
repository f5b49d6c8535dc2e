-- A call as plain data: a request or a notification (JSON-RPC 2.0, section 4).
use Rattle.lsp_calls.specs.Contents.{call_in, message_in}
use Rattle.lsp_calls.specs.declared.call_ref.CallRef.{CallRef}
use Rattle.lsp_calls.specs.declared.call_ref.CallRef.TheVariants as call
use Rattle.lsp_calls.specs.declared.call_ref.NotificationRef.{NotificationRef}
use Rattle.lsp_calls.specs.declared.call_ref.RequestRef.{RequestRef}
use Rattle.lsp_calls.specs.declared.call_text.CallContent.{CallContent}
use Rattle.lsp_calls.specs.declared.call_text.CallText.{CallText}
use Rattle.lsp_json.specs.JsonRef.{json_data}
use Rattle.lsp_json.specs.JsonText.{json_text_data}
use Rattle.lsp_message.specs.Message.{Message, request, notification}

abbrev pub request_ref_view : RequestRef → Message
request_ref_view it = request it.id.now it.method.now (json_data it.params)

abbrev pub notification_ref_view : NotificationRef → Message
notification_ref_view it = notification it.method.now (json_data it.params)

abbrev pub call_ref_view : CallRef → Message
call_ref_view (call.Request it) = request_ref_view it
call_ref_view (call.Notification it) = notification_ref_view it

-- the call that a content part holds
abbrev pub call_content_view : CallContent → Message
call_content_view it = message_in it.content.items

-- the call that was read
unfoldable pub call_view : CallText → Message
call_view it = call_in (json_text_data it.text) it.id
