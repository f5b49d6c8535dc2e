use Rattle.std.proofs.Common.{◌≡◌, ◌+◌, ◌≤◌, drop}
use Rattle.lsp_text.specs.Columns.{column_len, column_left}
use Rattle.lsp_text.proofs.columns.reach_by_bytes.Given as goal

abbrev pub invariant-loop-i : goal.invariant-loop-i
invariant-loop-i l = record {
  counts : column_len l.ends l.encoding l.character l.text ≡ l.i + column_len l.ends l.encoding l.left
      (drop l.i l.text);
  left : column_left l.ends l.encoding l.character l.text ≡ column_left l.ends l.encoding l.left (drop l.i l.text);
  fewer : l.left ≤ l.character;
}
