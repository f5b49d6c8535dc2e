-- How the reader and the writer of a session failed, as its transcript has it.
use Rattle.std.specs.List.{concat}
use Rattle.std.specs.Prelude.{◌≡◌, ◌⊎◌, ℕ, ◌-◌, ◌^◌, ◌≤◌, [], ◌∷◌, ◌++◌, length, Option, Some, None, Result, Ok, Err}
use Rattle.std.specs.declared.io.ErrorKind.TheVariants.{Other}
use Rattle.lsp_message.specs.Failures.{Kinds, AreInterrupted, FailsFor, ReaderFails}
use Rattle.lsp_message.specs.Told.{Parts}
use Rattle.lsp_message.specs.declared.frame.ReadFault.{ReadFault}
use Rattle.lsp_message.specs.declared.frame.ReadFault.TheVariants.{Input}
use Rattle.lsp_message.specs.declared.frame.WriteFault.{WriteFault}
use Rattle.lsp_message.specs.declared.frame.WriteFault.TheVariants.{Output}
use Rattle.lsp_message.specs.declared.frame.byte_trace.ByteTrace.{ByteTrace}
use Rattle.lsp_session.specs.Account.{gave}
use Rattle.lsp_session.specs.ActBytes.{bytes_taken}
use Rattle.lsp_session.specs.Event.{Event}
use Rattle.lsp_session.specs.Transcripts.{notes_of, reads_failed, writes_failed}
use Rattle.lsp_session.specs.declared.loops.ReadEnd.{ReadEnd}
use Rattle.lsp_session.specs.declared.loops.ReadEnd.TheVariants.{Fault}
use Rattle.lsp_session.specs.declared.loops.handler.SessionEnd.{SessionEnd}
use Rattle.lsp_session.specs.declared.loops.stream_session.SessionFault.{SessionFault}
use Rattle.lsp_session.specs.declared.loops.stream_session.SessionFault.TheVariants.{Read, Write}
use Rattle.lsp_session.specs.declared.loops.transcript.Transcript.{Transcript}

-- the fault that ended the messages, if one did
abbrev pub fault_of : Option ReadEnd → Option ReadFault
fault_of (Some (Fault fault)) = Some fault
fault_of end = None

-- How the reader failed in waits that took so many bytes, before and after which the messages had these ends. Once they
-- have ended, nothing is read.
abbrev pub WaitFails : Option ReadEnd → Option ReadEnd → ℕ → Kinds → Type 0
WaitFails None end bytes kinds = FailsFor (fault_of end) bytes kinds
WaitFails (Some before) end bytes kinds = (end ≡ Some before) × (kinds ≡ [])

-- the failures of the writer, if its writes failed so
abbrev pub write_failures : Option WriteFault → Kinds
write_failures (Some (Output kind)) = kind ∷ []
write_failures fault = []

-- How the writer failed in sends before and after which the writes had failed so. Once one has failed, nothing is
-- written.
abbrev pub SendFails : Option WriteFault → Option WriteFault → Kinds → Type 0
SendFails None new kinds = kinds ≡ write_failures new
SendFails (Some fault) new kinds = (new ≡ Some fault) × (kinds ≡ [])

-- ---- one act, by its trace

abbrev pub FailsInWait : Option ReadEnd → Option ReadEnd → ByteTrace → ByteTrace → Type 0
FailsInWait before after old new = (parts : Parts) × (kinds : Kinds) × (new.parts ≡ old.parts ++ parts)
    × (new.failed ≡ old.failed ++ kinds) × WaitFails before after (length (concat parts)) kinds

-- For a private clause: the same of one read. A fault has not ended the messages yet.
abbrev pub FailsInRead : {X : Type 0} → Option ReadEnd → Result X ReadFault → Option ReadEnd → ByteTrace → ByteTrace
    → Type 0
FailsInRead before (Ok next) after old new = FailsInWait before after old new
FailsInRead before (Err fault) after old new = (before ≡ None) × ReaderFails (Some fault) old new

abbrev pub FailsInSend : Option WriteFault → Option WriteFault → ByteTrace → ByteTrace → Type 0
FailsInSend before after old new = (kinds : Kinds) × (new.failed ≡ old.failed ++ kinds) × SendFails before after kinds

-- ---- one act, by the transcript

-- A wait gave this event, and its bytes and failures were added.
abbrev pub AddsReads : Event → Option ReadEnd → Option ReadEnd → Transcript → Transcript → Type 0
AddsReads event before after old new = (parts : Parts) × (kinds : Kinds)
    × (notes_of new ≡ notes_of old ++ (gave event, parts) ∷ []) × (reads_failed new ≡ reads_failed old ++ kinds)
    × (writes_failed new ≡ writes_failed old) × WaitFails before after (length (concat parts)) kinds

-- a send added its failures
abbrev pub AddsWrites : Option WriteFault → Option WriteFault → Transcript → Transcript → Type 0
AddsWrites before after old new = (kinds : Kinds) × (writes_failed new ≡ writes_failed old ++ kinds)
    × (reads_failed new ≡ reads_failed old) × SendFails before after kinds

-- ---- a session

-- A session that reports that its reader failed reports the last failure of the transcript, by its kind. It may also
-- give up, with the kind `Other`: after 2^64 - 1 bytes, where each interruption counts as a byte, or after 2^64 - 1
-- acts.
abbrev pub ReportsReader : Result SessionEnd SessionFault → Transcript → Type 0
ReportsReader (Err (Read fault)) t =
    FailsFor (Some fault) (length (bytes_taken (notes_of t))) (reads_failed t)
    ⊎ ((fault ≡ Input Other) × AreInterrupted (reads_failed t) × (2 ^ 64 - 1 ≤ length (notes_of t)))
ReportsReader result t = Unit {0}

-- A session reports that its writer failed, by its kind, exactly if it did. It failed once.
abbrev pub ReportsWriter : Result SessionEnd SessionFault → Transcript → Type 0
ReportsWriter (Err (Write fault)) t = writes_failed t ≡ write_failures (Some fault)
ReportsWriter result t = writes_failed t ≡ []
