use Rattle.std.proofs.Common.{◌++◌, ◌∙◌, ap, append-nil, string_bytes, subst}
use Rattle.lsp_threads.proofs.Writes.{held_sent}
use Rattle.lsp_threads.specs.Framing.{parcel_bytes}
use Rattle.lsp_threads.specs.Writes.{all_marks, Batch, KeepsMarks}
use Rattle.lsp_threads.proofs.frame_batch.FrameBatch.hand_over.Goals as goal

pub returns-clause-marks : goal.returns-clause-marks
returns-clause-marks g c =
    let sent = c.self.inside.tx.sent in
    let now = c.deliver_text.new.tx.sent in
    let taken = c.self.inside.taken.parts in
    let left = string_bytes c.replace-text.new.dest in
    let none = ap (λ l. parcel_bytes now ++ l) (ap string_bytes c.replace-text.ensures.after ∙ c.new.ensures.bytes)
    ∙ append-nil (parcel_bytes now) in
    subst (λ m. KeepsMarks m (all_marks now taken left)) (ap (λ (b : Batch). b.marks) c.self.view_is)
    (held_sent sent now taken (string_bytes c.self.inside.held) left
    (rw (c.so_far-taken.ensures.parts, c.replace-text.ensures.value) at c.deliver_text.ensures.marks)
    (none ∙ (rw c.replace-text.ensures.value at c.deliver_text.ensures.bytes)))
