use Rattle.std.proofs.Common.{[], ◌∙◌, ap, string_bytes, sym, subst}
use Rattle.lsp_threads.specs.Framing.{parcel_bytes, AreEnded}
use Rattle.lsp_threads.proofs.Frames.{parcel_bytes-end, ended_after}
use Rattle.lsp_threads.proofs.Writes.{held_kept, keeps_then, marks-end, same_marks}
use Rattle.lsp_threads.specs.Writes.{Batch, KeepsMarks, marks_of}
use Rattle.lsp_threads.proofs.frame_batch.FrameBatch.finish.Goals as goal

pub returns-clause-bytes : goal.returns-clause-bytes
returns-clause-bytes g c =
    ap parcel_bytes c.deliver.ensures.sent ∙ parcel_bytes-end c.deliver_text.new.tx.sent ∙ c.deliver_text.ensures.bytes
    ∙ ap (λ (b : Batch). b.framing.bytes) c.self.view_is

pub returns-clause-ended : goal.returns-clause-ended
returns-clause-ended g c = subst AreEnded (sym c.deliver.ensures.sent) (ended_after c.deliver_text.new.tx.sent
    c.deliver_text.ensures.still_open)

pub returns-clause-marks : goal.returns-clause-marks
returns-clause-marks g c =
    let sent = c.deliver_text.new.tx.sent in
    let kept = subst (λ m. KeepsMarks m (marks_of sent)) (ap (λ (b : Batch). b.marks) c.self.view_is)
    (held_kept c.self.inside.tx.sent sent c.self.inside.taken.parts (string_bytes c.self.inside.held) []
    c.deliver_text.ensures.marks) in
    keeps_then _ (marks_of sent) _ kept (same_marks _ _ (ap marks_of c.deliver.ensures.sent ∙ marks-end [] sent))
