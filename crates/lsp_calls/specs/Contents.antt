-- The call that a content part holds (JSON-RPC 2.0, section 4).
use Rattle.serde_json.specs.Data.{Data, null}
use Rattle.serde_json.specs.Find.{get, as_str}
use Rattle.std.specs.Prelude.{ℕ, List, [], Option, Some, None, Result, Ok, Err, codes, option_and_then, unwrap_or}
use Rattle.lsp_message.specs.Frame.{body_means}
use Rattle.lsp_message.specs.Id.{Id}
use Rattle.lsp_message.specs.Meaning.{as_id}
use Rattle.lsp_message.specs.Message.{Message, request, notification}
use Rattle.lsp_message.specs.declared.frame.ReadFault.{ReadFault}

abbrev message_or_none : Result Message ReadFault → Message
message_or_none (Ok m) = m
message_or_none (Err fault) = notification [] null

-- the message that these bytes hold, if they hold one
unfoldable pub message_in : List ℕ → Message
message_in bytes = message_or_none (body_means bytes)

-- the method of a call, if it is a text
abbrev pub method_in : Data → Option (List ℕ)
method_in json = option_and_then as_str (get (codes "method") json)

-- the id of a call, if it is good: then the call is a request
abbrev pub id_in : Data → Option Id
id_in json = option_and_then as_id (get (codes "id") json)

-- the call with this method, this id and these params
abbrev pub call_of : List ℕ → Option Id → Data → Message
call_of method (Some id) params = request id method params
call_of method None params = notification method params

-- the call that JSON is, with this id
abbrev pub call_in : Data → Option Id → Message
call_in json id = call_of (unwrap_or (method_in json) []) id (unwrap_or (get (codes "params") json) null)
