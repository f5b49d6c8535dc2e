use Rattle.std.proofs.Common.{arith}
use Rattle.lsp_text.proofs.ColumnLemmas.{reached_within, reached_over}
use Rattle.lsp_text.proofs.columns.reach.Goals as goal

pub returns-then-reached-run-clause-value : goal.returns-then-reached-run-clause-value
returns-then-reached-run-clause-value c =
    let i = c.loop-place.invariant in
    let r = c.reach_in_run-reached.ensures in
    (reached_within c.args.ends c.args.encoding c.args.character c.loop-place.left c.loop-place.place c.min-end.result
    c.reach_in_run-reached.result.place c.reach_in_run-reached.result.left c.args.text.now
    (omega arith) i.counts i.left r.value r.left c.if-reached-run.true).0

pub returns-then-reached-run-clause-left : goal.returns-then-reached-run-clause-left
returns-then-reached-run-clause-left c =
    let i = c.loop-place.invariant in
    let r = c.reach_in_run-reached.ensures in
    (reached_within c.args.ends c.args.encoding c.args.character c.loop-place.left c.loop-place.place c.min-end.result
    c.reach_in_run-reached.result.place c.reach_in_run-reached.result.left c.args.text.now
    (omega arith) i.counts i.left r.value r.left c.if-reached-run.true).1

pub loop-place-preserved : goal.loop-place-preserved
loop-place-preserved c =
    let i = c.loop-place.invariant in
    let r = c.reach_in_run-reached.ensures in
    let o = reached_over c.args.ends c.args.encoding c.args.character c.loop-place.left c.loop-place.place
    c.min-end.result c.reach_in_run-reached.result.place c.reach_in_run-reached.result.left c.args.text.now
    (omega arith) (omega arith) i.counts i.left r.value r.left r.within c.if-reached-run.false in
    record { within = omega arith; counts = o.0; left = o.1; fewer = omega arith }
