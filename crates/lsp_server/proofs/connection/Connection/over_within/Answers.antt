use denote.Exit.{yes}
use denote.Param.Send.{param_send, arg_send}
use Rattle.lsp_message.proofs.Sendable.{message_send}
use Rattle.lsp_server.proofs.connection.Connection.over_within.Goals as goal

pub start_threads-requires-send-M : goal.start_threads-requires-send-M
start_threads-requires-send-M g c κs within = param_send _ _ (arg_send _ yes _ message_send)
