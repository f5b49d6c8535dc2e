use denote.Exit.{yes}
use denote.Param.Send.{param_send, arg_send}
use Rattle.lsp_message.proofs.Sendable.{message_send}
use Rattle.lsp_server.proofs.serving_thread.spawn_with.Goals as goal

-- a thread may own a message
pub start-requires-send-M : goal.start-requires-send-M
start-requires-send-M g c κs within = param_send _ _ (arg_send _ yes _ message_send)
