use Rattle.std.proofs.Common.{◌≡◌, ◌<◌, ℕ, true, false, slice_index}
use Rattle.lsp_text.specs.declared.line_ends.LineEnds.TheVariants.{Standard}
use Rattle.lsp_text.specs.Lines.{is_break}
use Rattle.lsp_text.proofs.columns.is_plain.Given as goal

abbrev pub invariant-loop-i : goal.invariant-loop-i
invariant-loop-i l = l.plain ≡ true → (k : ℕ) → k < l.i → (slice_index l.run k < 128)
    × (is_break Standard (slice_index l.run k) ≡ false)
