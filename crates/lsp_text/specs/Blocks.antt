-- A text in blocks of whole lines.
use Rattle.std.specs.Prelude.{◌≡◌, ℕ, ◌<◌, ⊤, List, [], ◌∷◌, ◌++◌, length}
use Rattle.std.specs.List.{slice_range, splice}
use Rattle.lsp_text.specs.declared.line_ends.LineEnds.{LineEnds}
use Rattle.lsp_text.specs.Lines.{LinedText, lined, starts_in}

-- the text of the blocks, one after another
abbrev pub joined : List LinedText → List ℕ
joined [] = []
joined (b ∷ bs) = b.bytes ++ joined bs

-- how many lines end within bytes that no byte follows
abbrev pub ends_in : LineEnds → List ℕ → ℕ
ends_in ends bs = length (starts_in ends 0 bs 0)

-- the last byte, or b if there is none
abbrev pub last_or : ℕ → List ℕ → ℕ
last_or b [] = b
last_or b (x ∷ xs) = last_or x xs

-- the bytes are whole lines: the last byte is '\n', or there is none. Then no byte that follows changes where lines end
abbrev pub AreLines : List ℕ → Type 0
AreLines bs = last_or 10 bs ≡ 10

-- each block has whole lines, except the last block
abbrev pub AreBlocks : LineEnds → List LinedText → Type 0
AreBlocks ends [] = ⊤
AreBlocks ends (b ∷ bs) = (b.ends ≡ ends) × ((0 < length bs → AreLines b.bytes) × AreBlocks ends bs)

-- the blocks from one place up to another joined in one
abbrev pub merged : LineEnds → List LinedText → ℕ → ℕ → List LinedText
merged ends bs i j = splice bs i j (lined ends (joined (slice_range bs i j)) ∷ [])
