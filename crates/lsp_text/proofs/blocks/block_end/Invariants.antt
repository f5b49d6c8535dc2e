use Rattle.std.proofs.Common.{◌≤◌}
use Rattle.lsp_text.proofs.blocks.block_end.Given as goal

abbrev pub invariant-loop-i : goal.invariant-loop-i
invariant-loop-i l = record { behind : l.at ≤ l.i }
