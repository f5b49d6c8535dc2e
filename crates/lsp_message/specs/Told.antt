-- What was taken from a reader, part after part, as a trace has it. This is said of each reader, whether or not its
-- bytes are known.
use Rattle.std.specs.List.{concat}
use Rattle.std.specs.Prelude.{◌≡◌, ℕ, Bool, true, false, List, [], ◌∷◌, ◌++◌, Option, Some, OnSome, Result, Ok, Err}
use Rattle.std.specs.Io.KnownBytes.{Appends, Consumes, IsAtEnd}
use Rattle.lsp_message.specs.Message.{Message}
use Rattle.lsp_message.specs.Reading.{Reading, Answers}
use Rattle.lsp_message.specs.Written.{IsFrameOf}
use Rattle.lsp_message.specs.declared.frame.ReadFault.{ReadFault}
use Rattle.lsp_message.specs.declared.frame.WriteFault.{WriteFault}
use Rattle.lsp_message.specs.declared.frame.WriteFault.TheVariants.{Output, Memory}

-- the parts of a trace
abbrev pub Parts : Type 0
Parts = List (List ℕ)

abbrev pub is_nothing : List ℕ → Bool
is_nothing [] = true
is_nothing (byte ∷ bytes) = false

-- The last part is empty: of parts that were taken, the reader showed its end; of parts that were given, the writer was
-- flushed after all of them.
abbrev pub shows_end : Parts → Bool
shows_end [] = false
shows_end (part ∷ []) = is_nothing part
shows_end (part ∷ next ∷ more) = shows_end (next ∷ more)

-- These parts were taken, and added to the trace. If the reader's bytes are known, they were the first of them, and
-- it showed its end only where none are left.
pub record Takes (parts before after : Parts) (known left : Option (List ℕ)) : Type 0 where
  pub added : after ≡ before ++ parts
  pub consumed : Consumes known left (concat parts)
  pub at_end : shows_end parts ≡ true → OnSome known (IsAtEnd left)

-- parts were taken of which this holds
abbrev pub Told : (Parts → Type 0) → Parts → Parts → Option (List ℕ) → Option (List ℕ) → Type 0
Told P before after known left = (parts : Parts) × Takes parts before after known left × P parts

-- What may follow the parts that were taken for an answer: after a message anything; else nothing, if the reader showed
-- its end.
abbrev pub MayFollow : {X : Type 0} → Result (Option X) ReadFault → Parts → List ℕ → Type 0
MayFollow (Ok (Some x)) parts rest = Unit {0}
MayFollow result parts rest = shows_end parts ≡ true → rest ≡ []

-- The answer is that of the parts that were taken, whatever follows them, and the parts are its own bytes and no
-- others.
abbrev pub IsOfParts : {X A : Type 0} → (X → A) → (List ℕ → Reading A) → Result (Option X) ReadFault
    → Parts → Type 0
IsOfParts view reading result parts = (rest : List ℕ) → MayFollow result parts rest
    → Answers view result (Some rest) (reading (concat parts ++ rest))

-- These parts were given to a writer, and added to the trace. If what the writer holds is known, it grew by them.
pub record Gives (parts before after : Parts) (old new : Option (List ℕ)) : Type 0 where
  pub added : after ≡ before ++ parts
  pub appended : Appends old new (concat parts)

-- parts were given of which this holds
abbrev pub Given : (Parts → Type 0) → Parts → Parts → Option (List ℕ) → Option (List ℕ) → Type 0
Given P before after old new = (parts : Parts) × Gives parts before after old new × P parts

-- the parts are the text; or a prefix of it, if the writer failed; or nothing, if memory ran out
abbrev pub GivesText : List ℕ → Result (Unit {0}) WriteFault → Parts → Type 0
GivesText text (Ok done) parts = text ≡ concat parts
GivesText text (Err (Output kind)) parts = (missing : List ℕ) × (text ≡ concat parts ++ missing)
GivesText text (Err Memory) parts = concat parts ≡ []

-- the same, and a text that was written whole was flushed
abbrev pub WritesText : List ℕ → Result (Unit {0}) WriteFault → Parts → Type 0
WritesText text (Ok done) parts = (text ≡ concat parts) × (shows_end parts ≡ true)
WritesText text failed parts = GivesText text failed parts

-- the same of a frame of a message, which was flushed if it was written whole
abbrev pub WritesParts : Message → Result (Unit {0}) WriteFault → Parts → Type 0
WritesParts m (Ok done) parts = IsFrameOf m (concat parts) × (shows_end parts ≡ true)
WritesParts m (Err (Output kind)) parts = (missing : List ℕ) × IsFrameOf m (concat parts ++ missing)
WritesParts m (Err Memory) parts = concat parts ≡ []
