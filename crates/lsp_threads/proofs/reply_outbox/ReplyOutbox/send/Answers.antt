use Rattle.std.proofs.Common.{◌∙◌, ap, string_bytes, sym}
use Rattle.lsp_threads.specs.Replies.{Gathered, Replying}
use Rattle.lsp_threads.proofs.reply_outbox.ReplyOutbox.send.Goals as goal

pub returns-in-Ok-clause-sends : goal.returns-in-Ok-clause-sends
returns-in-Ok-clause-sends g c =
    let more = c.gather.ensures.adds in
    let unfailed = ap (λ (b : Gathered). b.replies.failed) (sym c.self.view_is) ∙ c.if-self.false in (
      ap (λ (r : Replying). r.relay) more,
      unfailed,
      ap (λ (r : Replying). r.failed) more ∙ unfailed,
      (
        string_bytes c.in-Ok.frame,
        c.in-Ok.ensures.ok,
        ap (λ (r : Replying). r.bytes) more,
      ),
    )
