-- What edits make of a text (LSP 3.17, "TextDocumentContentChangeEvent" and "DidChangeTextDocumentParams").
use Rattle.std.specs.Prelude.{ℕ, Bool, false, cond, ◌||◌, nat_lt, Option, Some, None, List, [], ◌∷◌, length, drop}
use Rattle.std.specs.Prelude.{slice_index, min, max}
use Rattle.std.specs.List.{replace_range}
use Rattle.lsp_text.specs.declared.position.PositionEncoding.{PositionEncoding}
use Rattle.lsp_text.specs.declared.position.Range.{Range}
use Rattle.lsp_text.specs.declared.position.Position.{Position}
use Rattle.lsp_text.specs.Lines.{LinedText, lined, starts_of}
use Rattle.lsp_text.specs.Columns.{offset_of, width}
use Rattle.lsp_text.specs.Documents.{Change}

-- the beginning up to the range, the new text, and the rest from the range's end on; with no range, the new text. A
-- range whose end stands before its start is taken the other way round
abbrev pub edited : PositionEncoding → LinedText → Option Range → List ℕ → LinedText
edited e t None new = lined t.ends new
edited e t (Some range) new =
    let start = offset_of e t range.start.line range.start.character in
    let end = offset_of e t range.end.line range.end.character in
    lined t.ends (replace_range t.bytes (min start end) (max start end) new)

-- the changes of one notification: each applies to what the one before it left
abbrev pub edited_by : PositionEncoding → LinedText → List Change → LinedText
edited_by e t [] = t
edited_by e t (c ∷ cs) = edited_by e (edited e t c.range c.text) cs

-- whether a position lies past its line's end, or past the place behind the last line
abbrev pub is_past_end : PositionEncoding → LinedText → Position → Bool
is_past_end e t p =
    cond (nat_lt p.line (length (starts_of t)))
    (nat_lt (width t.ends e (drop (slice_index (starts_of t) p.line) t.bytes)) p.character)
    (nat_lt (length (starts_of t)) p.line || nat_lt 0 p.character)

-- whether one of a range does
abbrev pub past_in : PositionEncoding → LinedText → Option Range → Bool
past_in e t None = false
past_in e t (Some range) = is_past_end e t range.start || is_past_end e t range.end

-- whether one of a notification's changes does, in the text that the change before it left
abbrev pub past_by : PositionEncoding → LinedText → List Change → Bool
past_by e t [] = false
past_by e t (c ∷ cs) = past_in e t c.range || past_by e (edited e t c.range c.text) cs
