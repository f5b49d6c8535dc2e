use denote.Exit.{yes}
use denote.Param.Send.{param_send, arg_send}
use Rattle.lsp_threads.proofs.FrameTextSend.{frame_text_send}
use Rattle.lsp_threads.proofs.serving.start_both.Goals as goal

pub start_writer-requires-send-M : goal.start_writer-requires-send-M
start_writer-requires-send-M g c κs within = param_send _ _ (arg_send _ yes _ frame_text_send)
