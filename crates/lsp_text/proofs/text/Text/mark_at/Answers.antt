use Rattle.lsp_text.proofs.ColumnLemmas.{counted_on}
use Rattle.lsp_text.proofs.text.Text.mark_at.Goals as goal

pub returns-then-before-place-clause-counted : goal.returns-then-before-place-clause-counted
returns-then-before-place-clause-counted c =
    counted_on c.args.encoding c.args.self.now c.self.inside.ends c.as_bytes-text.result.now c.start_of-start.result
    c.args.before.start c.args.before.place c.args.place c.args.before.width.units c.width_on-width.result.units
    c.args.before.width.ended c.width_on-width.result.ended
    (cc (c.as_bytes-text.ensures.value, c.self.view_is)) c.requires.before c.if-before-start.true c.if-before-place.true
    c.requires.within c.width_on-width.ensures
