-- What passes from a reader to a writer.
use Rattle.std.specs.Io.KnownBytes.{Consumes, Appends, IsAtEnd}
use Rattle.std.specs.Prelude.{◌≡◌, ℕ, List, ◌++◌, Option, Bool, true, false, Result, Ok, Err}
use Rattle.lsp_proxy.specs.declared.passing.Ended.{Ended}
use Rattle.lsp_proxy.specs.declared.passing.Ended.TheVariants.{All, Unread, Unwritten}

-- The writer took what the reader gave, byte for byte and in order: the reader had and has this left, and the writer
-- held and holds this.
pub record Carries (had has held holds : Option (List ℕ)) : Type 0 where
  pub bytes : List ℕ
  pub given : Consumes had has bytes
  pub taken : Appends held holds bytes

-- the writer took the first of these bytes, and not the rest
pub record TakesPart (held holds : Option (List ℕ)) (bytes : List ℕ) : Type 0 where
  pub first : List ℕ
  pub rest : List ℕ
  pub parts : bytes ≡ first ++ rest
  pub taken : Appends held holds first

-- the writer took a prefix of what the reader gave
pub record CarriesPart (had has held holds : Option (List ℕ)) : Type 0 where
  pub bytes : List ℕ
  pub given : Consumes had has bytes
  pub part : TakesPart held holds bytes

-- after all, nothing is left
abbrev pub CarriesSo : Ended → Option (List ℕ) → Option (List ℕ) → Option (List ℕ) → Option (List ℕ) → Type 0
CarriesSo All had has held holds = Carries had has held holds × IsAtEnd has
CarriesSo Unread had has held holds = Carries had has held holds
CarriesSo Unwritten had has held holds = CarriesPart had has held holds

-- one piece, or an end
abbrev pub PassesPiece : Result Bool Ended → Option (List ℕ) → Option (List ℕ) → Option (List ℕ) → Option (List ℕ)
    → Type 0
PassesPiece (Ok true) had has held holds = Carries had has held holds
PassesPiece (Ok false) had has held holds = CarriesSo All had has held holds
PassesPiece (Err ended) had has held holds = CarriesSo ended had has held holds

-- a piece was written whole, or the first bytes of it
abbrev pub WritesSo : Result Unit Ended → Option (List ℕ) → Option (List ℕ) → List ℕ → Type 0
WritesSo (Ok done) held holds piece = Appends held holds piece
WritesSo (Err ended) held holds piece = (ended ≡ Unwritten) × TakesPart held holds piece
