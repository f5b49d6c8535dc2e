use Rattle.std.proofs.Common.{ap, refl, string_bytes, subst}
use Rattle.lsp_threads.proofs.Writes.{held_now, keeps_adds, same_marks}
use Rattle.lsp_threads.specs.Writes.{Batch, KeepsMarks}
use Rattle.lsp_threads.proofs.frame_batch.FrameBatch.add.Goals as goal

pub returns-then-joins-clause-marks : goal.returns-then-joins-clause-marks
returns-then-joins-clause-marks g c = keeps_adds _ _ _ c.args.taken.parts _
    (same_marks _ _ (ap (λ (b : Batch). b.marks) c.self.view_is))
    (held_now c.self.inside.tx.sent c.args.taken.parts c.self.inside.taken.parts (string_bytes c.joins.new.pending)
    (string_bytes c.self.inside.held) _ refl)

pub returns-clause-marks : goal.returns-clause-marks
returns-clause-marks g c =
    let now = c.hand_over.new.self.marks in
    let kept = subst (λ m. KeepsMarks m now) (ap (λ (b : Batch). b.marks) c.self.view_is)
    (rw c.if-joins.ensures at c.hand_over.ensures.marks) in
    keeps_adds _ now _ c.args.taken.parts _ kept (keeps_adds _ _ _ c.args.taken.parts _
    (same_marks _ _ (ap (λ (b : Batch). b.marks) c.self-2.view_is))
    (held_now c.self-2.inside.tx.sent c.args.taken.parts c.self-2.inside.taken.parts (string_bytes c.args.frame)
    (string_bytes c.self-2.inside.held) _ refl))
