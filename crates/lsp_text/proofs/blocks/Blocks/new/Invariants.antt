use Rattle.std.proofs.Common.{◌≡◌, ◌-◌, ◌≤◌, length, take, [], ◌∷◌, ◌++◌}
use Rattle.std.specs.String.Boundary.{IsSplitPoint}
use Rattle.lsp_text.specs.Lines.{LinedText}
use Rattle.lsp_text.specs.Blocks.{joined, AreBlocks}
use Rattle.lsp_text.proofs.blocks.Blocks.new.Given as goal

abbrev pub invariant-loop-end : goal.invariant-loop-end
invariant-loop-end l = record {
  whole : (t : LinedText) → t.ends ≡ l.ends → AreBlocks l.ends (l.blocks.items ++ (t ∷ []));
  joined : joined l.blocks.items ≡ take l.at l.text;
  within : l.at ≤ length l.text;
  boundary : IsSplitPoint l.text l.at;
}

abbrev pub decreases-loop-end : goal.decreases-loop-end
decreases-loop-end l = length l.text - l.at
