-- What the outline of a text is.
use Rattle.std.specs.Prelude.{◌≡◌, ◌↔◌, ◌⊎◌, ℕ, suc, Bool, if◌then◌else◌, List, [], ◌++◌, IsSome, length}
use Rattle.toml.specs.Parse.{parse_document}
use Rattle.toml_outline.specs.declared.outline.Outline.{Outline}
use Rattle.toml_outline.specs.declared.reader.Reader.{Reader}
use Rattle.toml_outline.specs.Lines.{keys_in}
use Rattle.toml_outline.specs.Scanned.{keys_left, keys_of, places_of}

-- A reader of a text has at most n lines left.
pub record HasRead (text : List ℕ) (n : ℕ) (reader : Reader) : Type 0 where
  pub same : reader.text.now ≡ text
  pub outlined : reader.scanner.outline.text.now ≡ text
  pub keys : (later : List ℕ) → keys_in text (places_of reader.scanner.outline ++ later)
      ≡ keys_left reader.scanner n later

-- It has read one more line, if there was one.
abbrev pub ReadsOn : Reader → Reader → Bool → Type 0
ReadsOn old new there = (text : List ℕ) (n : ℕ) → HasRead text (suc n) old
    → HasRead text (if there then n else 0) new

-- These are the places of the faults of a text. They are those of the problems, where the text is no document. But
-- then there may be no line with a fault, and one problem.
abbrev pub AreFaults : List ℕ → Outline → List ℕ → Type 0
AreFaults text outline places = IsSome (parse_document text) ⊎ (places ≡ places_of outline)
    ⊎ ((places ≡ []) × (length outline.problems.items ≡ 1))

-- An outline has the keys of a text in order, as they are read where these are the faults.
pub record HasKeysOf (text : List ℕ) (outline : Outline) : Type 0 where
  pub same : outline.text.now ≡ text
  pub faults : List ℕ
  pub are : AreFaults text outline faults
  pub keys : keys_of outline ≡ keys_in text faults

-- The outline of a text has its keys. It has no problems exactly if the text is a document of TOML 1.1.
pub record IsOutlineOf (text : List ℕ) (outline : Outline) : Type 0 where
  pub read : HasKeysOf text outline
  pub document : outline.problems.items ≡ [] ↔ IsSome (parse_document text)
