use Rattle.std.proofs.Common.{◌≡◌, ◌+◌, ◌*◌, ◌≤◌, drop}
use Rattle.lsp_text.specs.Columns.{width, has_end}
use Rattle.lsp_text.proofs.columns.width_by_bytes.Given as goal

abbrev pub invariant-loop-i : goal.invariant-loop-i
invariant-loop-i l = record {
  counts : width l.ends l.encoding l.run ≡ l.units + width l.ends l.encoding (drop l.i l.run);
  ends : has_end l.ends l.run ≡ has_end l.ends (drop l.i l.run);
  small : l.units ≤ 4 * l.i;
}
