use Rattle.std.proofs.Common.{◌≡◌, take}
use Rattle.lsp_types_features.proofs.token_edits.common_start.Given as goal

abbrev pub invariant-loop-i : goal.invariant-loop-i
invariant-loop-i l = record { same : take l.i l.before ≡ take l.i l.after }
