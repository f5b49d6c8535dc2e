use Rattle.lsp_text.proofs.ColumnLemmas.{counts_on, counts_ended}
use Rattle.lsp_text.proofs.columns.width_on.Goals as goal

pub returns-then-before : goal.returns-then-before
returns-then-before c = λ xs h. counts_ended c.args.ends c.args.encoding xs c.args.text.now c.args.before.units
    c.args.before.ended c.if-before.true h

pub returns-else-before : goal.returns-else-before
returns-else-before c =
    let r = c.width_of-more.ensures in
    λ xs h. counts_on c.args.ends c.args.encoding xs c.args.text.now c.args.before.units c.width_of-more.result.units
    c.saturating_add.result c.args.before.ended c.width_of-more.result.ended c.if-before.false h r.units r.ended
    c.saturating_add.ensures
