-- Ranges of a text, as JSON has them (LSP 3.17, "Position" and "Range").
use Rattle.std.specs.Prelude.{ℕ, suc, Bool, true, false, not, ◌&&◌, ◌||◌, ◌==◌, nat_lt, List, Option, Some, None, codes}
use Rattle.std.specs.Prelude.{option_and_then, option_map, if◌then◌else◌}
use Rattle.serde_json.specs.Data.{Data, Items, no_items, item}
use Rattle.serde_json.specs.Find.{get, as_number, as_u64}
use Rattle.lsp_model.specs.declared.spans.Place.{Place}
use Rattle.lsp_model.specs.declared.spans.Span.{Span}

abbrev pub number_in : List ℕ → Data → Option ℕ
number_in key d = option_and_then as_u64 (option_and_then as_number (get key d))

abbrev pub place_of : Data → Option Place
place_of d = option_and_then (λ line. option_map (λ character. record { line = line; character = character })
    (number_in (codes "character") d)) (number_in (codes "line") d)

-- the position at a key of an object
abbrev pub place_in : List ℕ → Data → Option Place
place_in key d = option_and_then place_of (get key d)

abbrev pub span_of : Data → Option Span
span_of d = option_and_then (λ start. option_map (λ end. record { start = start; end = end })
    (place_in (codes "end") d)) (place_in (codes "start") d)

-- the range at a key of an object
abbrev pub span_in : List ℕ → Data → Option Span
span_in key d = option_and_then span_of (get key d)

abbrev pub is_before : Place → Place → Bool
is_before a b = nat_lt a.line b.line || (a.line == b.line && nat_lt a.character b.character)

-- an empty range overlaps only what begins before it and ends after it
abbrev pub overlap : Option Span → Option Span → Bool
overlap None other = false
overlap (Some one) None = false
overlap (Some one) (Some other) = is_before one.start other.end && is_before other.start one.end

abbrev pub earlier : Place → Place → Place
earlier a b = if is_before b a then b else a

abbrev pub later : Place → Place → Place
later a b = if is_before a b then b else a

-- The range from the first start to the last end of two ranges. One that can't be read has no part in it.
abbrev pub hull : Option Span → Option Span → Option Span
hull None other = other
hull (Some one) None = Some one
hull (Some one) (Some other) = Some (record { start = earlier one.start other.start; end = later one.end other.end })

-- it is not known of what can't be read
abbrev pub is_within : Option Span → Option Span → Bool
is_within None part = true
is_within (Some whole) None = true
is_within (Some whole) (Some part) = not (is_before part.start whole.start) && not (is_before whole.end part.end)

-- a range ends before it starts (LSP 3.17, "Range")
abbrev pub ends_before_start : Option Span → Bool
ends_before_start None = false
ends_before_start (Some span) = is_before span.end span.start

abbrev pub is_reversed : Data → Bool
is_reversed d = ends_before_start (span_of d)

-- one number is less than another; it is not known where one of them is missing
abbrev pub comes_before : Option ℕ → Option ℕ → Bool
comes_before None other = false
comes_before (Some one) None = false
comes_before (Some one) (Some other) = nat_lt one other

abbrev pub is_same : Option ℕ → Option ℕ → Bool
is_same None other = false
is_same (Some one) None = false
is_same (Some one) (Some other) = one == other

-- A folding range ends before it starts (LSP 3.17, "FoldingRange"). A column that is missing is the end of its line.
abbrev pub is_fold_reversed : Data → Bool
is_fold_reversed d = comes_before (number_in (codes "endLine") d) (number_in (codes "startLine") d)
    || (is_same (number_in (codes "endLine") d) (number_in (codes "startLine") d)
    && comes_before (number_in (codes "endCharacter") d) (number_in (codes "startCharacter") d))

-- an edit overlaps one of others
abbrev pub overlaps_one : Data → Items → Bool
overlaps_one d no_items = false
overlaps_one d (item e es) = overlap (span_in (codes "range") d) (span_in (codes "range") e) || overlaps_one d es

-- two edits overlap (LSP 3.17, "TextEdit[]")
abbrev pub any_overlap : Items → Bool
any_overlap no_items = false
any_overlap (item d ds) = overlaps_one d ds || any_overlap ds

abbrev pub count : Items → ℕ
count no_items = 0
count (item d ds) = suc (count ds)
