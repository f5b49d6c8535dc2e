-- How many lines an open document has, without its text (LSP 3.17, "Text Documents"). A text is the list of the
-- bytes of its UTF-8.
use Rattle.std.specs.Prelude.{ℕ, ◌+◌, ◌-◌, ◌^◌, min, nat_lt, Bool, false, not, ◌&&◌, ◌||◌, ◌==◌, List, [], ◌∷◌}
use Rattle.std.specs.Prelude.{Option, Some, None, option_and_then, count_by, slice_index_or, if◌then◌else◌, codes}
use Rattle.serde_json.specs.Data.{Data, array, Items, no_items, item}
use Rattle.serde_json.specs.Find.{get, as_str}
use Rattle.lsp_model.specs.Spans.{number_in, span_of}
use Rattle.lsp_model.specs.declared.spans.Span.{Span}

-- ---- the line ends of a text

-- a carriage return that no line feed follows
abbrev pub has_lone_return : List ℕ → Bool
has_lone_return [] = false
has_lone_return (b ∷ bs) = (b == 13 && not (slice_index_or bs 0 0 == 10)) || has_lone_return bs

-- The line ends of a text. They are not known if it has a lone carriage return: an edit may put a line feed after one.
abbrev pub breaks_in : List ℕ → Option ℕ
breaks_in bs = if has_lone_return bs then None else Some (count_by (λ b. b == 10) bs)

-- a number of lines of 64 bits
abbrev pub in_64_bits : ℕ → Option ℕ
in_64_bits n = if nat_lt n (2 ^ 64) then Some n else None

-- the lines of a text: one more than line ends
abbrev pub lines_of : List ℕ → Option ℕ
lines_of bs = option_and_then (λ breaks. in_64_bits (breaks + 1)) (breaks_in bs)

-- ---- an edit

-- the line of a position: past the last line it is the last one
abbrev pub line_within : ℕ → ℕ → ℕ
line_within lines line = min line (lines - 1)

-- The lines of a text after text with so many line ends has replaced a range. They are not known if the range is
-- reversed.
abbrev pub after_edit : ℕ → Span → ℕ → Option ℕ
after_edit lines span breaks =
    if nat_lt span.end.line span.start.line then None
    else in_64_bits (lines - (line_within lines span.end.line - line_within lines span.start.line) + breaks)

abbrev pub after_span : Option ℕ → Option Span → Option ℕ → Option ℕ
after_span None span breaks = None
after_span (Some lines) None breaks = None
after_span (Some lines) (Some span) None = None
after_span (Some lines) (Some span) (Some breaks) = after_edit lines span breaks

abbrev pub text_in : Data → Option (List ℕ)
text_in d = option_and_then as_str (get (codes "text") d)

-- a change with a range edits the text, and one without is the whole text (LSP 3.17, "TextDocumentContentChangeEvent")
abbrev pub after_part : Option ℕ → Option Data → Option (List ℕ) → Option ℕ
after_part lines None text = option_and_then lines_of text
after_part lines (Some range) text = after_span lines (span_of range) (option_and_then breaks_in text)

abbrev pub after_change : Option ℕ → Data → Option ℕ
after_change lines d = after_part lines (get (codes "range") d) (text_in d)

-- the changes are made one after the other
abbrev pub after_changes : Option ℕ → Items → Option ℕ
after_changes lines no_items = lines
after_changes lines (item d ds) = after_changes (after_change lines d) ds

-- ---- folding ranges

-- not known where it is missing
abbrev pub is_past : ℕ → Option ℕ → Bool
is_past lines None = false
is_past lines (Some line) = not (nat_lt line lines)

-- a line of a folding range is no line of its document (LSP 3.17, "FoldingRange")
abbrev pub is_fold_outside : ℕ → Data → Bool
is_fold_outside lines d =
    is_past lines (number_in (codes "startLine") d) || is_past lines (number_in (codes "endLine") d)

abbrev pub any_fold_outside : ℕ → Items → Bool
any_fold_outside lines no_items = false
any_fold_outside lines (item d ds) = is_fold_outside lines d || any_fold_outside lines ds

-- the result of a `textDocument/foldingRange`
abbrev pub is_outside : ℕ → Data → Bool
is_outside lines (array ds) = any_fold_outside lines ds
is_outside lines d = false
