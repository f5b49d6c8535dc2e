-- A message that came, as plain data: it was read into trees, or it is a call whose content part is kept. For private
-- clauses.
use Rattle.std.specs.Prelude.{◌≡◌, false}
use Rattle.lsp_calls.specs.Calls.{call_content_view}
use Rattle.lsp_message.specs.Message.{Message}
use Rattle.lsp_message.specs.Methods.{is_exit}
use Rattle.lsp_message.specs.View.{message_view}
use Rattle.lsp_session.specs.declared.loops.incoming.Incoming.{Incoming}
use Rattle.lsp_session.specs.declared.loops.incoming.Incoming.TheVariants as incoming

abbrev pub incoming_view : Incoming → Message
incoming_view (incoming.Message m) = message_view m
incoming_view (incoming.Call content) = call_content_view content

-- a call that is kept is not the notification `exit`
abbrev pub GoesOn : Incoming → Type 0
GoesOn (incoming.Message m) = Unit {0}
GoesOn (incoming.Call content) = is_exit (call_content_view content) ≡ false
