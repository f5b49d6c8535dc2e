use Rattle.std.proofs.Common.{◌≡◌, ◌∙◌, ap, rules, sym, true}
use Rattle.lsp_threads.specs.Contents.{Gathering}
use Rattle.lsp_threads.proofs.ContentReads.{may_send_end, no_end, sent_end}
use Rattle.lsp_threads.proofs.content_batch.ContentBatch.finish.Goals as goal

pub returns-then-closed-clause-ended : goal.returns-then-closed-clause-ended
returns-then-closed-clause-ended g c = λ is. absurd (no_end c.self.inside.tx.sent c.self.invariant.0 is)

pub returns-then-not-deliver_contents-clause-ended : goal.returns-then-not-deliver_contents-clause-ended
returns-then-not-deliver_contents-clause-ended g c = λ is. absurd (no_end c.deliver_contents.new.tx.sent
    c.deliver_contents.ensures.still_open is)

pub send-requires-clause-planned : goal.send-requires-clause-planned
send-requires-clause-planned g c = may_send_end c.deliver_contents.new.tx.source c.deliver_contents.new.tx.sent

pub returns-clause-ended : goal.returns-clause-ended
returns-clause-ended g c = λ is.
    let went : c.deliver_contents.result ≡ true = search rules in
    let all = sent_end c.send.result c.deliver_contents.new.tx.sent c.send.new.self.sent c.send.ensures.sent
    c.send.ensures.refused c.deliver_contents.ensures.still_open is in (
      sym (ap (λ (f : Gathering). f.closed) c.self.view_is) ∙ c.if-closed.false,
      all.0
          ∙ c.deliver_contents.ensures.contents went ∙ ap (λ (f : Gathering). f.contents) c.self.view_is,
      all.1,
    )
