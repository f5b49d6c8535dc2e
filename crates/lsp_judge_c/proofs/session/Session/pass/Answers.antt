use Rattle.std.specs.Prelude.{option_map}
use Rattle.serde_json.specs.View.{view}
use Rattle.lsp_watch.specs.Entries.{entry_view}
use Rattle.lsp_judge_c.specs.Statuses.{is_late}
use Rattle.lsp_judge_c.proofs.Unread.{by_report}
use Rattle.lsp_judge_c.proofs.session.Session.pass.Goals as goal

pub returns-clause-seen : goal.returns-clause-seen
returns-clause-seen c = λ j judges ignored.
    let report = c.report_of-report in let passing = c.args.passing.now in let kept = c.args.self.now in
    by_report c.see.new.self report.result.choice.now kept.choice report.result.may_begin_late (is_late kept.options)
    passing.order passing.types j c.args.place passing.direction passing.message.faults.items
    (option_map entry_view passing.message.entry) (option_map (λ e. view e.tree) passing.message.entry)
    report.ensures.choice report.ensures.start ignored (λ none. c.in_ok-see.ensures j judges none)
