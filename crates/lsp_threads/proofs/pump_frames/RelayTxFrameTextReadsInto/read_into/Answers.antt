use Rattle.std.proofs.Common.{ap}
use Rattle.lsp_threads.proofs.Frames.{tells_frames}
use Rattle.lsp_threads.specs.Writes.{Batch}
use Rattle.lsp_threads.proofs.pump_frames.RelayTxFrameTextReadsInto.read_into.Goals as goal

pub returns-clause-told : goal.returns-clause-told
returns-clause-told g c =
    tells_frames c.args.limits _ c.args.self c.new-outbox.result.framing c.read_frames-end.new.outbox.framing
    c.finish.result c.read_frames-end.result _ (ap (λ (b : Batch). b.framing) c.new-outbox.ensures)
    c.read_frames-end.ensures.handed (rw c.new-reader.ensures at c.read_frames-end.ensures.taken) c.finish.ensures.bytes
    c.finish.ensures.ended
