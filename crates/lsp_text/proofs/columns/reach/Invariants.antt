use Rattle.std.proofs.Common.{◌≡◌, ◌+◌, ◌-◌, ◌≤◌, drop, length}
use Rattle.lsp_text.specs.Columns.{column_len, column_left}
use Rattle.lsp_text.proofs.columns.reach.Given as goal

abbrev pub invariant-loop-place : goal.invariant-loop-place
invariant-loop-place l = record {
  within : l.place ≤ length l.text;
  counts : column_len l.ends l.encoding l.character l.text ≡ l.place + column_len l.ends l.encoding l.left
      (drop l.place l.text);
  left : column_left l.ends l.encoding l.character l.text ≡ column_left l.ends l.encoding l.left (drop l.place l.text);
  fewer : l.left ≤ l.character;
}

abbrev pub decreases-loop-place : goal.decreases-loop-place
decreases-loop-place l = length l.text - l.place
