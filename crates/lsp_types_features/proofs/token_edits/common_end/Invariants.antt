use Rattle.std.proofs.Common.{◌≡◌, ◌-◌, length, drop}
use Rattle.lsp_types_features.proofs.token_edits.common_end.Given as goal

abbrev pub invariant-loop-i : goal.invariant-loop-i
invariant-loop-i l = record {
  same : drop (length l.before - l.i) l.before ≡ drop (length l.after - l.i) l.after;
}
