-- Content parts may go to another thread.
use denote.Param.Send.{IsSend, sendable}
use Rattle.std.proofs.Crossing.{Vec-send}
use Rattle.lsp_message.proofs.frame.byte_trace.ByteTrace.TheSendSync.{the_send as byte_trace_send}
use Rattle.lsp_threads.specs.contracts.content_batch.Contents as Contents

pub contents_send : IsSend Contents.the_row
contents_send = search (Vec-send, byte_trace_send, sendable) depth 20
