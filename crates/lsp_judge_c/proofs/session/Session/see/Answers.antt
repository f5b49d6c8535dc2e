use Rattle.std.proofs.Common.{◌∙◌}
use Rattle.lsp_judge_c.specs.Statuses.{is_late}
use Rattle.lsp_judge_c.proofs.Unread.{goes_unread, sees}
use Rattle.lsp_judge_c.proofs.session.Session.see.Goals as goal

pub returns-clause-seen : goal.returns-clause-seen
returns-clause-seen c =
    let kept = c.args.self.now in let content = c.args.content.now in let message = c.in_ok-message.message in
    let text = c.in_ok-message.ensures.text in let bytes = c.in_ok-message.ensures.bytes in
    let made = c.new-passing.ensures in record {
      options = c.pass-report.ensures.options;
      choice = c.pass-report.ensures.choice;
      unread = c.pass-report.ensures.unread
          ∙ goes_unread message content text bytes kept.unread c.args.place c.first_unread-self.result
          c.first_unread-self.ensures;
      judges = λ j judges ignored. sees message content text bytes kept.choice (is_late kept.options) c.args.place j
          c.args.direction c.pass-report.new.self.judgement c.new-passing.result made.direction made.message made.order
          made.types
          (c.in_ok-report.ensures.seen j judges ignored);
    }
