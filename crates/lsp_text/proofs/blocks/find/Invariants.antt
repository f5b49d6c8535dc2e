use Rattle.std.proofs.Common.{◌≡◌, ◌-◌, ◌<◌, ◌≤◌, length, take}
use Rattle.lsp_text.specs.Blocks.{joined, ends_in}
use Rattle.lsp_text.proofs.blocks.find.Given as goal

abbrev pub invariant-loop-index : goal.invariant-loop-index
invariant-loop-index l = record {
  within : l.index < length l.blocks;
  before : l.before ≡ ends_in l.fn.ends (joined (take l.index l.blocks));
  begins : l.before ≤ l.line;
}

abbrev pub decreases-loop-index : goal.decreases-loop-index
decreases-loop-index l = length l.blocks - l.index
