-- The names of the keys of a text.
use Rattle.std.specs.Prelude.{ℕ, zero, suc, Bool, not, ◌&&◌, nat_le, nat_lt, if◌then◌else◌, List, [], ◌∷◌, ◌++◌}
use Rattle.std.specs.Prelude.{length, slice_get, slice_index, slice_range, take, Option, None, Some, option_and_then}
use Rattle.toml_parser.specs.Lexical.{dot}
use Rattle.toml_outline.specs.declared.outline.Span.{Span}
use Rattle.toml_outline.specs.Keys.{Key}

-- A character begins at this place, or the text ends there.
abbrev pub is_boundary : List ℕ → ℕ → Bool
is_boundary text at =
    nat_le at (length text) && not (nat_le 128 (slice_index text at) && nat_lt (slice_index text at) 192)

-- What stands at a part of a text. It is empty, if the text has no such part.
unfoldable pub written : List ℕ → Span → List ℕ
written text span =
    if (nat_le span.start span.end && is_boundary text span.start) && is_boundary text span.end
    then slice_range text span.start span.end else []

-- A dot stands before each part of a name but the first.
abbrev pub add_part : List ℕ → List ℕ → List ℕ
add_part [] part = part
add_part (c ∷ name) part = ((c ∷ name) ++ dot ∷ []) ++ part

-- the name with these parts
abbrev pub name_with : List ℕ → List ℕ → List Span → List ℕ
name_with text name [] = name
name_with text name (part ∷ parts) = name_with text (add_part name (written text part)) parts

-- the parts of a key, after those of the keys around it
abbrev pub after_above : (Option ℕ → List Span) → Option Key → List Span
after_above above None = []
after_above above (Some key) = above key.parent ++ key.parts

-- those of a key and of at most n around it
unfoldable pub parts_above : List Key → ℕ → Option ℕ → List Span
parts_above keys zero at = []
parts_above keys (suc n) at = after_above (parts_above keys n) (option_and_then (slice_get keys) at)

-- the first parts of a key, after those of the keys around it
abbrev pub parts_to : List Key → ℕ → Option Key → List Span
parts_to keys count None = []
parts_to keys count (Some key) = parts_above keys (length keys) key.parent ++ take count key.parts

abbrev pub name_to : List ℕ → List Key → ℕ → ℕ → List ℕ
name_to text keys at count = name_with text [] (parts_to keys count (slice_get keys at))

-- The name of a key has all parts of the keys around it and of its own, as they are written in the text.
abbrev pub name_of : List ℕ → List Key → ℕ → List ℕ
name_of text keys at = name_with text [] (after_above (parts_above keys (length keys)) (slice_get keys at))
