-- The keys of a text, and how one is read.
use Rattle.std.specs.Prelude.{ℕ, zero, suc, ◌-◌, Bool, not, ◌&&◌, ◌==◌, if◌then◌else◌, List, [], ◌∷◌, ◌++◌, length}
use Rattle.std.specs.Prelude.{drop}
use Rattle.std.specs.Prelude.{slice_index, Option, None, Some, option_map, option_and_then}
use Rattle.toml_parser.specs.Lexical.{equals, dot, first, is_bare, skip_ws}
use Rattle.toml_parser.specs.Strings.{quoted, recursion_limit, starts_string}
use Rattle.toml_outline.specs.declared.outline.Entry.{Entry}
use Rattle.toml_outline.specs.declared.outline.Kind.{Kind}
use Rattle.toml_outline.specs.declared.outline.Kind.TheVariants.{Unreadable}
use Rattle.toml_outline.specs.declared.outline.Span.{Span}

-- A header, or a key with its value: the number of the key that it stands under, the parts of its dotted key, what it
-- names, and where it stands.
pub record Key : Type 0 where
  pub parent : Option ℕ
  pub parts : List Span
  pub kind : Kind
  pub place : Span

-- the key of an entry
abbrev pub key_of : Entry → Key
key_of entry = record { parent = entry.parent; parts = entry.parts.items; kind = entry.kind; place = entry.key }

infixl 10 ◌>>=◌
abbrev ◌>>=◌ : {A B : Type 0} → Option A → (A → Option B) → Option B
o >>= f = option_and_then f o

-- A step reads on in a text. It leaves a rest and the keys so far, or it finds a fault after these keys.
pub data Step (A : Type 0) : Type 0 where
  goes : A → List ℕ → List Key → Step A
  fails : List Key → Step A

-- the step after another
abbrev pub and_then : {A B : Type 0} → Step A → (A → List ℕ → List Key → Step B) → Step B
and_then (goes a rest keys) next = next a rest keys
and_then (fails keys) next = fails keys

-- the step after what can be read, if it can
abbrev pub or_fails : {A B : Type 0} → List Key → Option A → (A → Step B) → Step B
or_fails keys None next = fails keys
or_fails keys (Some a) next = next a

-- after the bare key at the front
abbrev pub skip_bare : List ℕ → List ℕ
skip_bare [] = []
skip_bare (c ∷ text) = if is_bare c then skip_bare text else c ∷ text

-- Three quotes begin a string of several lines.
abbrev pub has_lines : List ℕ → Bool
has_lines text = slice_index text 1 == first text && slice_index text 2 == first text

-- after the string at the front
abbrev pub skip_string : List ℕ → Option (List ℕ)
skip_string text = option_map (λ p. p.1) (quoted text)

-- after a part of a key: a string in one line, or a bare key
unfoldable pub skip_part : List ℕ → Option (List ℕ)
skip_part text =
    if starts_string text && not (has_lines text) then skip_string text
    else if is_bare (first text) then Some (skip_bare text)
    else None

module _ (text : List ℕ) where
  -- how many bytes of the text stand before the rest
  abbrev pub offset : List ℕ → ℕ
  offset rest = length text - length rest

  -- from one rest to another
  abbrev pub part : List ℕ → List ℕ → Span
  part from to = record { start = offset from; end = offset to }

  -- at most n more parts of a dotted key, then where the last part ends, and what follows the spaces after it
  unfoldable pub parts_from : ℕ → List Span → List ℕ → Option (List Span × List ℕ × List ℕ)
  parts_from zero found rest = None
  parts_from (suc n) found rest = do
    end ← skip_part rest
    let parts = found ++ part rest end ∷ []
    let after = skip_ws end
    if first after == dot then parts_from n parts (skip_ws (drop 1 after)) else Some (parts, end, after)

  abbrev pub dotted_key : List ℕ → Option (List Span × List ℕ × List ℕ)
  dotted_key rest = parts_from recursion_limit [] rest

  -- a new key, and the `=` after it
  abbrev pub equals_after : Option ℕ → List ℕ → List Key → List Span × List ℕ × List ℕ → Step ℕ
  equals_after parent rest keys read =
      let new : Key = record { parent = parent; parts = read.0; kind = Unreadable; place = part rest read.1 } in
      let more = keys ++ new ∷ [] in
      if first read.2 == equals then goes (length keys) (skip_ws (drop 1 read.2)) more else fails more

  unfoldable pub key_equals : Option ℕ → List ℕ → List Key → Step ℕ
  key_equals parent rest keys = or_fails keys (dotted_key rest) (equals_after parent rest keys)
