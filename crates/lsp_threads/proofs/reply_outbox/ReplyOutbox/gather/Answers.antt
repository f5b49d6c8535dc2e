use Rattle.std.proofs.Common.{ap, sym, subst}
use Rattle.lsp_threads.proofs.Writes.{adds_then}
use Rattle.lsp_threads.specs.Framing.{Framing}
use Rattle.lsp_threads.specs.Replies.{Gathered}
use Rattle.lsp_threads.specs.Writes.{AddsMark}
use Rattle.lsp_threads.proofs.reply_outbox.ReplyOutbox.gather.Goals as goal

pub returns-clause-marks : goal.returns-clause-marks
returns-clause-marks g c =
    let added = c.add.new.self in
    let now = c.hand_over_from.new.self in
    let taken = c.args.taken.parts in
    subst (λ m. AddsMark m taken now.framing.bytes now.marks) (ap (λ (b : Gathered). b.marks) c.self.view_is)
    (adds_then _ added.marks _ taken _
    (subst (λ (f : Framing). AddsMark c.self.inside.batch.marks taken f.bytes added.marks)
    (sym c.hand_over_from.ensures.framing) c.add.ensures.marks) c.hand_over_from.ensures.marks)
