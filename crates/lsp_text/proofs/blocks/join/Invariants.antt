use Rattle.std.proofs.Common.{◌≡◌, ◌++◌, drop}
use Rattle.std.specs.String.{string_bytes}
use Rattle.lsp_text.specs.Blocks.{joined}
use Rattle.lsp_text.proofs.blocks.join.Given as goal

abbrev pub invariant-loop-block : goal.invariant-loop-block
invariant-loop-block l = record {
  joined : string_bytes l.text ++ joined (drop l.block-index l.blocks) ≡ joined l.blocks;
}
