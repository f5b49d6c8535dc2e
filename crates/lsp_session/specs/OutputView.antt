-- What a service gave, as plain data.
use Rattle.std.specs.Prelude.{map, Ok, List, [], ◌∷◌, Option, Some, None}
use Rattle.serde_json.specs.View.{view}
use Rattle.lsp_message.specs.Message.{Message, response}
use Rattle.lsp_message.specs.View.{message_view}
use Rattle.lsp_message.specs.declared.msg.Message as message
use Rattle.lsp_session.specs.declared.loops.service.Output.{Output}
use Rattle.lsp_session.specs.declared.loops.service.Output.TheVariants.{Nothing, One, Several}
use Rattle.lsp_session.specs.declared.loops.service.ToSend.{ToSend}
use Rattle.lsp_session.specs.declared.loops.service.ToSend.TheVariants as to_send

-- the message that is to be sent: a text stands for its tree
abbrev pub to_send_view : ToSend → Message
to_send_view (to_send.Message m) = message_view m
to_send_view (to_send.Text id text) = response id (Ok (view text))

abbrev pub sent_view : List ToSend → List Message
sent_view all = map to_send_view all

abbrev pub output_view : Output → List Message
output_view Nothing = []
output_view (One m) = message_view m ∷ []
output_view (Several all) = sent_view all.items

-- one message, or none
abbrev pub reply_view : Option message.Message → List Message
reply_view None = []
reply_view (Some m) = message_view m ∷ []
