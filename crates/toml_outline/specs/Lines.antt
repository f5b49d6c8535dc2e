-- How a text is read, a line at a time, and which keys it has.
use Rattle.std.specs.Prelude.{ℕ, zero, suc, ◌*◌, Bool, ◌&&◌, ◌||◌, ◌==◌, if◌then◌else◌, List, [], ◌∷◌, ◌++◌}
use Rattle.std.specs.Prelude.{length, drop, slice_index, Option, None, Some}
use Rattle.toml_parser.specs.Lexical.{first, hash, left_bracket, line_feed, right_bracket, skip_blank, skip_ws}
use Rattle.toml_parser.specs.Lexical.{starts_newline}
use Rattle.toml.specs.Parse.{skip_bom}
use Rattle.toml_outline.specs.declared.outline.Kind.{Kind}
use Rattle.toml_outline.specs.declared.outline.Kind.TheVariants.{ArrayOfTables, Table}
use Rattle.toml_outline.specs.declared.outline.Span.{Span}
use Rattle.toml_outline.specs.declared.scanner.Awaited.TheVariants.{Value}
use Rattle.toml_outline.specs.Keys.{Key, Step, and_then, fails, goes, dotted_key, key_equals, or_fails, part}
use Rattle.toml_outline.specs.Values.{turns}

-- what a line is: no line, a line that can be read, or one with a fault. The last header stands beside the keys.
pub data Line : Type 0 where
  ends : Line
  reads : Option ℕ → List ℕ → List Key → Line
  faults : Option ℕ → List Key → Line

-- after one such bracket, or two
abbrev pub after_brackets : ℕ → Bool → List ℕ → Option (List ℕ)
after_brackets bracket is_double text =
    if first text == bracket
    then (if is_double then (if slice_index text 1 == bracket then Some (drop 2 text) else None)
    else Some (drop 1 text))
    else None

abbrev pub begins_array : List ℕ → Bool
begins_array text = first text == left_bracket && slice_index text 1 == left_bracket

-- the line is over, but for a comment
abbrev pub ends_line : List ℕ → Bool
ends_line text = (length text == 0 || first text == hash) || starts_newline text

-- what a header begins
abbrev pub header_kind : Bool → Kind
header_kind is_array = if is_array then ArrayOfTables else Table

-- after the brackets that open a header
abbrev pub after_opening : Bool → List ℕ → List ℕ
after_opening is_array text = drop (if is_array then 2 else 1) text

-- What follows must end the line. The header for the next line is known.
abbrev pub to_end : Option ℕ → Step (Option ℕ) → Line
to_end above (fails keys) = faults above keys
to_end above (goes header rest keys) =
    if ends_line (skip_ws rest) then reads header (skip_ws rest) keys else faults header keys

-- after the line in which a place stands
abbrev pub after_newline : List ℕ → List ℕ
after_newline [] = []
after_newline (c ∷ text) = if c == line_feed then text else after_newline text

module _ (text : List ℕ) where
  -- a header that names the table, or the table of an array, for the keys under it
  abbrev pub close_header : Bool → List ℕ → List Key → List Span × List ℕ × List ℕ → Step (Unit {0})
  close_header is_array start keys read = or_fails keys (after_brackets right_bracket is_array read.2) (λ rest.
      let new : Key = record {
        parent = None;
        parts = read.0;
        kind = header_kind is_array;
        place = part text start rest;
      } in
      goes tt rest (keys ++ new ∷ []))

  unfoldable pub header : List ℕ → List Key → Step (Unit {0})
  header start keys =
      let is_array = begins_array start in
      let inner = skip_ws (after_opening is_array start) in
      or_fails keys (dotted_key text inner) (close_header is_array start keys)

  -- a value, and the keys in its inline tables
  abbrev pub value : ℕ → List ℕ → List Key → Step (Unit {0})
  value owner rest keys =
      and_then (turns text (suc (2 * length rest)) (Some ([], Value (Some owner))) rest keys) (λ _. goes tt)

  -- a header, or a key with its value, under a header
  unfoldable pub content : Option ℕ → List ℕ → List Key → Step (Option ℕ)
  content above start keys =
      if first start == left_bracket then and_then (header start keys) (λ _. goes (Some (length keys)))
      else and_then (and_then (key_equals text above start keys) value) (λ _. goes above)

  -- the next line
  unfoldable pub line : Option ℕ → List ℕ → List Key → Line
  line above rest keys =
      let start = skip_blank rest in
      if length start == 0 then ends else to_end above (content above start keys)

  -- After a fault the reading goes on at the line after it. These are the places of the faults.
  abbrev pub follow : (Option ℕ → List ℕ → List Key → List ℕ → List Key) → List Key → Line → List ℕ → List Key
  follow go keys ends places = keys
  follow go keys (reads above rest more) places = go above rest more places
  follow go keys (faults above more) [] = more
  follow go keys (faults above more) (place ∷ places) = go above (after_newline (drop place text)) more places

  -- the keys of at most n more lines
  unfoldable pub keys_from : ℕ → Option ℕ → List ℕ → List Key → List ℕ → List Key
  keys_from zero above rest keys places = keys
  keys_from (suc n) above rest keys places = follow (keys_from n) keys (line above rest keys) places

  -- The keys of a text, in order, if its faults stand at these places.
  abbrev pub keys_in : List ℕ → List Key
  keys_in places = keys_from (suc (length text)) None (skip_bom text) [] places
