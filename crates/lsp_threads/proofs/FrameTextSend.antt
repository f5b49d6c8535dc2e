-- Frames as text may go to another thread.
use denote.Param.Send.{IsSend, sendable, struct_send}
use denote.Struct.Declared.{shape}
use Rattle.std.proofs.Crossing.{Vec-send}
use Rattle.lsp_message.proofs.Sendable.{both}
use Rattle.lsp_message.proofs.frame.byte_trace.ByteTrace.TheSendSync.{the_send as byte_trace_send}
use Rattle.lsp_threads.specs.contracts.frame_text.FrameText as text

text_fields : IsSend (text.the_field).row
text_fields = struct_send (shape text.the_type) (
  search (Vec-send, both, sendable) depth 40,
  (search (byte_trace_send, sendable) depth 40, tt),
)

pub frame_text_send : IsSend text.the_row
frame_text_send = search (text_fields, sendable) depth 40
