use Rattle.std.proofs.Common.{sym}
use Rattle.lsp_text.proofs.ColumnLemmas.{plain_by, width_plain}
use Rattle.lsp_text.proofs.columns.width_in_run.Goals as goal

pub returns-then-is_plain-clause-units : goal.returns-then-is_plain-clause-units
returns-then-is_plain-clause-units c = sym (width_plain c.args.ends c.args.encoding c.args.run.now (plain_by c.args.ends
    c.args.run.now (c.is_plain.ensures c.if-is_plain.true))).0

pub returns-then-is_plain-clause-ended : goal.returns-then-is_plain-clause-ended
returns-then-is_plain-clause-ended c = sym (width_plain c.args.ends c.args.encoding c.args.run.now (plain_by c.args.ends
    c.args.run.now (c.is_plain.ensures c.if-is_plain.true))).1
