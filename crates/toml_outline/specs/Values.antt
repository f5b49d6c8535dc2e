-- How the value of a key is read. Brackets that are open are kept in a list, the innermost last.
use Rattle.std.specs.Prelude.{ℕ, zero, suc, ◌-◌, Bool, nat_le, ◌||◌, ◌==◌, if◌then◌else◌, List, [], ◌∷◌, ◌++◌, length}
use Rattle.std.specs.Prelude.{take}
use Rattle.std.specs.Prelude.{drop, slice_get, Option, None, Some, option_map, option_and_then}
use Rattle.toml_parser.specs.Lexical.{comma, first, left_brace, left_bracket, right_brace, right_bracket, skip_blank}
use Rattle.toml_parser.specs.Numbers.{unquoted}
use Rattle.toml_parser.specs.Strings.{recursion_limit, quoted, starts_string}
use Rattle.toml_parser.specs.declared.scalar.Scalar as scalars
use Rattle.toml_outline.specs.declared.outline.Kind.{Kind}
use Rattle.toml_outline.specs.declared.outline.Kind.TheVariants as kinds
use Rattle.toml_outline.specs.declared.scanner.Awaited.{Awaited}
use Rattle.toml_outline.specs.declared.scanner.Awaited.TheVariants.{Value, Item, Member, End}
use Rattle.toml_outline.specs.declared.scanner.Frame.{Frame}
use Rattle.toml_outline.specs.Keys.{Key, Step, and_then, fails, goes, key_equals, offset, or_fails}

-- what a scalar is
abbrev pub kind_of : scalars.Scalar → Kind
kind_of (scalars.TheVariants.Boolean b) = kinds.Boolean
kind_of (scalars.TheVariants.Integer n) = kinds.Integer
kind_of (scalars.TheVariants.Float x) = kinds.Float
kind_of (scalars.TheVariants.Datetime d) = kinds.DateTime

-- a string or a scalar, and the rest
unfoldable pub scalar : List ℕ → Option (Kind × List ℕ)
scalar rest =
    if starts_string rest then option_map (λ p. (kinds.String, p.1)) (quoted rest)
    else option_map (λ p. (kind_of p.0, p.1)) (unquoted rest)

-- the keys where the one of this number has this kind
abbrev pub with_kind : ℕ → Kind → List Key → List Key
with_kind at kind [] = []
with_kind zero kind (key ∷ keys) = record key { kind = kind } ∷ keys
with_kind (suc at) kind (key ∷ keys) = key ∷ with_kind at kind keys

-- the value of a key is read. An item of an array has no key.
abbrev pub settle : Option ℕ → Kind → List Key → List Key
settle None kind keys = keys
settle (Some owner) kind keys = with_kind owner kind keys

-- the innermost bracket, and the others
abbrev pub innermost : List Frame → Option Frame
innermost frames = slice_get frames (length frames - 1)

abbrev pub outer : List Frame → List Frame
outer frames = take (length frames - 1) frames

-- the key that what stands in the innermost bracket stands under
abbrev pub holder : List Frame → Option ℕ
holder frames = option_and_then (λ frame. frame.around) (innermost frames)

-- that of the items of a value, which has this key
abbrev pub around : Option ℕ → List Frame → Option ℕ
around (Some owner) frames = Some owner
around None frames = holder frames

-- an array or an inline table ends
abbrev pub settle_frame : Option Frame → List Key → List Key
settle_frame None keys = keys
settle_frame (Some frame) keys =
    settle frame.owner (if frame.is_table then kinds.InlineTable else kinds.Array) keys

-- what is awaited within which brackets
abbrev pub Inside : Type 0
Inside = List Frame × Awaited

-- at the closing bracket
abbrev pub close : List Frame → List ℕ → List Key → Step Inside
close frames rest keys = goes (outer frames, End) (drop 1 rest) (settle_frame (innermost frames) keys)

-- The reading goes on in brackets.
abbrev pub on : Step Inside → Step (Option Inside)
on step = and_then step (λ inside. goes (Some inside))

-- what is awaited after a comma that stands at an offset
abbrev pub after_comma : Bool → ℕ → Awaited
after_comma is_table comma = if is_table then Member (Some comma) else Item

-- the bracket that closes an inline table or an array
abbrev pub closing : Bool → ℕ
closing is_table = if is_table then right_brace else right_bracket

module _ (text : List ℕ) where
  -- at a value: a bracket that opens, or a scalar
  unfoldable pub begin : Option ℕ → List Frame → List ℕ → List Key → Step Inside
  begin owner frames rest keys =
      let is_table = first rest == left_brace in
      let frame : Frame =
      record { is_table = is_table; owner = owner; around = around owner frames; start = offset text rest } in
      if is_table || first rest == left_bracket
      then (if nat_le recursion_limit (length frames) then fails keys
      else goes (frames ++ frame ∷ [], if is_table then Member None else Item) (drop 1 rest) keys)
      else or_fails keys (scalar rest) (λ read. goes (frames, End) read.1 (settle owner read.0 keys))

  -- at a key of an inline table, or its end
  unfoldable pub next_member : List Frame → List ℕ → List Key → Step Inside
  next_member frames rest keys =
      let start = skip_blank rest in
      if first start == right_brace then close frames start keys
      else and_then (key_equals text (holder frames) start keys) (λ owner. goes (frames, Value (Some owner)))

  -- at an item of an array, or its end
  unfoldable pub next_item : List Frame → List ℕ → List Key → Step Inside
  next_item frames rest keys =
      let start = skip_blank rest in
      if first start == right_bracket then close frames start keys else goes (frames, Value None) start keys

  -- at the comma or bracket after an item or member
  unfoldable pub separator : Frame → List Frame → List ℕ → List Key → Step Inside
  separator frame frames rest keys =
      let start = skip_blank rest in
      if first start == comma
      then goes (frames, after_comma frame.is_table (offset text start)) (drop 1 start) keys
      else if first start == closing frame.is_table then close frames start keys
      else fails keys

  -- after a value, which ends the reading where no bracket is open
  abbrev pub after_value : Option Frame → List Frame → List ℕ → List Key → Step (Option Inside)
  after_value None frames rest keys = goes None rest keys
  after_value (Some frame) frames rest keys = on (separator frame frames rest keys)

  abbrev pub turn : Awaited → List Frame → List ℕ → List Key → Step (Option Inside)
  turn (Value owner) frames rest keys = on (begin owner frames rest keys)
  turn Item frames rest keys = on (next_item frames rest keys)
  turn (Member _) frames rest keys = on (next_member frames rest keys)
  turn End frames rest keys = after_value (innermost frames) frames rest keys

  -- at most n turns
  unfoldable pub turns : ℕ → Option Inside → List ℕ → List Key → Step (Option Inside)
  turns zero inside rest keys = goes inside rest keys
  turns (suc n) None rest keys = goes None rest keys
  turns (suc n) (Some inside) rest keys = and_then (turn inside.1 inside.0 rest keys) (turns n)
