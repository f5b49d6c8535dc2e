-- The failures of a reader or a writer, as a trace has them: the kinds of its errors, in order.
use Rattle.std.specs.List.{concat}
use Rattle.std.specs.Prelude.{◌≡◌, ◌⊎◌, ℕ, ◌+◌, ◌-◌, ◌^◌, ◌≤◌, List, [], ◌∷◌, ◌++◌, length, All, Option, Some}
use Rattle.std.specs.declared.io.ErrorKind.{ErrorKind}
use Rattle.std.specs.declared.io.ErrorKind.TheVariants.{Interrupted, Other}
use Rattle.lsp_message.specs.Told.{Parts}
use Rattle.lsp_message.specs.declared.frame.ReadFault.{ReadFault}
use Rattle.lsp_message.specs.declared.frame.ReadFault.TheVariants.{Input, HeaderTooLong}
use Rattle.lsp_message.specs.declared.frame.WriteFault.{WriteFault}
use Rattle.lsp_message.specs.declared.frame.WriteFault.TheVariants.{Output}
use Rattle.lsp_message.specs.declared.frame.byte_trace.ByteTrace.{ByteTrace}

-- the failures of a trace
abbrev pub Kinds : Type 0
Kinds = List ErrorKind

-- The reader was only interrupted. It was called again each time.
abbrev pub AreInterrupted : Kinds → Type 0
AreInterrupted kinds = All (λ kind. kind ≡ Interrupted) kinds

-- The reader was perhaps interrupted, and then it failed with this kind. It was not called again.
abbrev pub EndIn : ErrorKind → Kinds → Type 0
EndIn kind kinds = (tried : Kinds) × AreInterrupted tried × (kinds ≡ tried ++ kind ∷ [])

-- How the reader failed in a call that took so many bytes and reports this fault, or none. A call that reports that the
-- reader failed reports the last failure, by its kind. It may also give up, with the kind `Other`, after 2^64 - 1
-- bytes, where each interruption counts as a byte. A call that reports anything else saw no failure but interruptions.
-- This has one exception: a header part above its bound is reported in place of a failure.
abbrev pub FailsFor : Option ReadFault → ℕ → Kinds → Type 0
FailsFor (Some (Input kind)) bytes kinds =
    EndIn kind kinds ⊎ ((kind ≡ Other) × AreInterrupted kinds × (2 ^ 64 - 1 ≤ bytes + length kinds))
FailsFor (Some HeaderTooLong) bytes kinds = Unit {0}
FailsFor fault bytes kinds = AreInterrupted kinds

-- A call that reports this fault, or none, added these parts and these failures of the reader to the trace.
abbrev pub ReaderFails : Option ReadFault → ByteTrace → ByteTrace → Type 0
ReaderFails fault old new = (parts : Parts) × (kinds : Kinds) × (new.parts ≡ old.parts ++ parts)
    × (new.failed ≡ old.failed ++ kinds) × FailsFor fault (length (concat parts)) kinds

-- A call reports that the writer failed, by its kind, exactly if it did, and the trace has that. A writer that took no
-- byte of those that it was offered has failed with the kind `WriteZero`.
abbrev pub WriterFails : Option WriteFault → ByteTrace → ByteTrace → Type 0
WriterFails (Some (Output kind)) old new = new.failed ≡ old.failed ++ kind ∷ []
WriterFails fault old new = new.failed ≡ old.failed
