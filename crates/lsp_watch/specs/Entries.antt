-- Which request, notification or reply a tree is, right or wrong in its shape (JSON-RPC 2.0, sections 4 and 5).
use Rattle.std.specs.Prelude.{ℕ, List, [], Bool, true, false, Option, Some, None, pos, option_map, option_and_then}
use Rattle.std.specs.Prelude.{unwrap_or, is_some, not, ◌&&◌, Ok, Err, codes}
use Rattle.serde_json.specs.Data.{Data, null}
use Rattle.serde_json.specs.Find.{get, as_str}
use Rattle.serde_json.specs.View.{view}
use Rattle.lsp_message.specs.Id.{Id}
use Rattle.lsp_message.specs.Meaning.{as_error, unless_null}
use Rattle.lsp_message.specs.Message.{ErrorObject, Message, request, notification, response}
use Rattle.lsp_watch.specs.Keys.{key_of, key_in}
use Rattle.lsp_watch.specs.declared.logged.Kind.{Kind}
use Rattle.lsp_watch.specs.declared.logged.Kind.TheVariants.{Request, Notification, Reply}
use Rattle.lsp_watch.specs.declared.logged.Entry.{Entry}

abbrev pub method_in : Data → Option (List ℕ)
method_in d = option_and_then as_str (get (codes "method") d)

abbrev pub params_in : Data → Data
params_in d = unwrap_or (get (codes "params") d) null

-- a reply is a success if it has a result, and no error but null
abbrev pub has_success : Data → Bool
has_success d = not (is_some (unless_null (get (codes "error") d))) && is_some (get (codes "result") d)

-- an error of a wrong shape is an error too
abbrev pub no_error : ErrorObject
no_error = record { code = pos 0; message = []; details = None }

abbrev pub error_in : Data → ErrorObject
error_in d = unwrap_or (option_and_then as_error (get (codes "error") d)) no_error

abbrev pub reply_in : Id → Bool → Data → Message
reply_in i true d = response i (Ok (unwrap_or (get (codes "result") d) null))
reply_in i false d = response i (Err (error_in d))

-- the message of an entry, by its tree and its kind
abbrev pub message_by : Data → Kind → Message
message_by d (Request i) = request i (unwrap_or (method_in d) []) (params_in d)
message_by d Notification = notification (unwrap_or (method_in d) []) (params_in d)
message_by d (Reply i succeeds) = reply_in i succeeds d

abbrev pub entry_view : Entry → Message
entry_view e = message_by (view e.tree) e.kind

-- ---- which kind

-- a message with a method: by the member `id`
abbrev pub call_kind : Option Data → Option Kind
call_kind None = Some Notification
call_kind (Some d) = option_map Request (key_of d)

-- a message is a call if it has a method that is a text, and else a reply if it has no method and an id
abbrev pub kind_by : Data → Option Data → Option Kind
kind_by d None = option_map (λ i. Reply i (has_success d)) (key_in (codes "id") d)
kind_by d (Some method) = option_and_then (λ text. call_kind (get (codes "id") d)) (as_str method)

abbrev pub kind_in : Data → Option Kind
kind_in d = kind_by d (get (codes "method") d)

-- the message that a tree is, if it can be placed in a session
abbrev pub entry_in : Data → Option Message
entry_in d = option_map (message_by d) (kind_in d)
