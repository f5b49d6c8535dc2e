-- The units of an encoding, counted by characters (LSP 3.17, "PositionEncodingKind"). A character is a Unicode scalar
-- value.
use Rattle.std.specs.Prelude.{ℕ, ◌+◌, ◌-◌, cond, ◌||◌, nat_lt, List, [], ◌∷◌, length, codes}
use Rattle.std.specs.Char.{encode_utf8}
use Rattle.std.specs.Char.Escape.{encode_utf16}
use Rattle.lsp_text.specs.declared.line_ends.LineEnds.{LineEnds}
use Rattle.lsp_text.specs.declared.position.PositionEncoding.{PositionEncoding}
use Rattle.lsp_text.specs.declared.position.PositionEncoding.TheVariants.{Utf8, Utf16, Utf32}
use Rattle.lsp_text.specs.Lines.{is_break}

-- the name of an encoding in the protocol
abbrev pub encoding_name : PositionEncoding → List ℕ
encoding_name Utf8 = codes "utf-8"
encoding_name Utf16 = codes "utf-16"
encoding_name Utf32 = codes "utf-32"

-- how many units a character takes: the code units that write it
abbrev pub character_units : PositionEncoding → ℕ → ℕ
character_units Utf8 c = length (encode_utf8 c)
character_units Utf16 c = length (encode_utf16 c)
character_units Utf32 c = 1

-- the characters of the first line of a text that stand before n units
abbrev pub characters_before : LineEnds → PositionEncoding → ℕ → List ℕ → List ℕ
characters_before ends e n [] = []
characters_before ends e n (c ∷ cs) =
    cond (is_break ends c || nat_lt n (character_units e c)) []
    (c ∷ characters_before ends e (n - character_units e c) cs)

-- how many units the first line of a text has
abbrev pub line_units : LineEnds → PositionEncoding → List ℕ → ℕ
line_units ends e [] = 0
line_units ends e (c ∷ cs) = cond (is_break ends c) 0 (character_units e c + line_units ends e cs)
