-- What is said of the bytes that were taken from a reader and given to a writer, of whatever reader and writer.
use Rattle.std.specs.Prelude.{◌≡◌, ◌⊎◌, ℕ, true, List, [], ◌++◌, length, Option, Some}
use Rattle.std.specs.List.{concat}
use Rattle.lsp_message.specs.Failures.{FailsFor}
use Rattle.lsp_message.specs.Told.{Parts, shows_end, Gives, Takes}
use Rattle.lsp_message.specs.declared.frame.WriteFault.{WriteFault}
use Rattle.lsp_message.specs.declared.frame.WriteFault.TheVariants.{Output}
use Rattle.lsp_message.specs.declared.frame.byte_trace.ByteTrace.{ByteTrace}
use Rattle.lsp_session.specs.SessionFailures.{fault_of}
use Rattle.lsp_session.specs.declared.loops.ReadEnd.{ReadEnd}

-- This holds of each text that begins with the bytes that were taken. If the reader showed its end, there is just one.
abbrev pub OfTaken : Parts → (List ℕ → Type 0) → Type 0
OfTaken taken F = (rest : List ℕ) → (shows_end taken ≡ true → rest ≡ []) → F (concat taken ++ rest)

-- If the reader's bytes are known, the parts that were taken are the first of them, and it showed its end only where
-- none are left.
abbrev pub TakenFrom : Option (List ℕ) → Parts → Type 0
TakenFrom known taken = (left : Option (List ℕ)) × Takes taken [] taken known left

-- If what the writer holds is known, it grew by the parts that were given.
abbrev pub GivenTo : Option (List ℕ) → Parts → Option (List ℕ) → Type 0
GivenTo old given new = Gives given [] given old new

-- the same, of the parts that a trace has more
abbrev pub GivesMore : Parts → Parts → Option (List ℕ) → Option (List ℕ) → Type 0
GivesMore before after old new = (parts : Parts) × Gives parts before after old new

-- what a writer holds that began empty and was given these bytes
abbrev pub noted : ByteTrace → Option (List ℕ)
noted trace = Some (concat trace.parts)

-- All that was given was flushed: a flush came last, or nothing was given.
abbrev pub IsFlushed : Parts → Type 0
IsFlushed given = (given ≡ []) ⊎ (shows_end given ≡ true)

-- the same, unless a write or a flush failed
abbrev pub IsFlushedUnless : Option WriteFault → Parts → Type 0
IsFlushedUnless (Some (Output kind)) given = Unit {0}
IsFlushedUnless fault given = IsFlushed given

-- All failures of the reader are in the trace, and they fit how the reading ended.
abbrev pub ReadingFails : ReadEnd → ByteTrace → Type 0
ReadingFails end taken = FailsFor (fault_of (Some end)) (length (concat taken.parts)) taken.failed
