use Rattle.std.proofs.Common.{sym}
use Rattle.lsp_text.proofs.ColumnLemmas.{plain_by, column_plain}
use Rattle.lsp_text.proofs.columns.reach_in_run.Goals as goal

pub returns-then-is_plain-clause-value : goal.returns-then-is_plain-clause-value
returns-then-is_plain-clause-value c = sym (column_plain c.args.ends c.args.encoding c.args.character c.args.run.now
    (plain_by c.args.ends c.args.run.now (c.is_plain.ensures c.if-is_plain.true)) c.if-count-character.true).0

pub returns-then-is_plain-clause-left : goal.returns-then-is_plain-clause-left
returns-then-is_plain-clause-left c = sym (column_plain c.args.ends c.args.encoding c.args.character c.args.run.now
    (plain_by c.args.ends c.args.run.now (c.is_plain.ensures c.if-is_plain.true)) c.if-count-character.true).1
