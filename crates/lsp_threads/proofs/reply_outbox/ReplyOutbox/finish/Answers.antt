use Rattle.std.proofs.Common.{ap, subst}
use Rattle.lsp_threads.specs.Replies.{Gathered}
use Rattle.lsp_threads.specs.Writes.{KeepsMarks, marks_of}
use Rattle.lsp_threads.proofs.reply_outbox.ReplyOutbox.finish.Goals as goal

pub returns-clause-marks : goal.returns-clause-marks
returns-clause-marks g c = subst (λ m. KeepsMarks m (marks_of c.finish.result.sent))
    (ap (λ (b : Gathered). b.marks) c.self.view_is) c.finish.ensures.marks
