use Rattle.std.proofs.Common.{ap, subst}
use Rattle.lsp_threads.specs.Replies.{Gathered}
use Rattle.lsp_threads.specs.Writes.{KeepsMarks}
use Rattle.lsp_threads.proofs.reply_outbox.ReplyOutbox.go_on.Goals as goal

pub returns-then-not-at_hand-clause-marks : goal.returns-then-not-at_hand-clause-marks
returns-then-not-at_hand-clause-marks g c = subst (λ m. KeepsMarks m c.hand_over.new.self.marks)
    (ap (λ (b : Gathered). b.marks) c.self.view_is) c.hand_over.ensures.marks
