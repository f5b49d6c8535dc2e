-- What is written of the messages of a text.
use Rattle.std.specs.Io.KnownBytes.{Keeps}
use Rattle.std.specs.Prelude.{◌≡◌, ◌⊎◌, ℕ, List, [], Option, Some, None, Result, Ok, Err}
use Rattle.lsp_message.specs.Faults.{read_fault_text, write_fault_text}
use Rattle.lsp_message.specs.Messages.{exited, ended, failed}
use Rattle.lsp_message.specs.Message.{Message}
use Rattle.lsp_message.specs.Told.{Parts}
use Rattle.lsp_message.specs.Written.{GetsFrames, GetsFramesAndPart}
use Rattle.lsp_message.specs.declared.frame.ReadFault.TheVariants.{Input, Memory}
use Rattle.lsp_message.specs.declared.frame.WriteFault.TheVariants.{Output, Memory as NoMemory}
use Rattle.lsp_message.specs.declared.frame.WriteFault.{WriteFault}
use Rattle.lsp_message.specs.declared.frame.byte_trace.ByteTrace.{ByteTrace}
use Rattle.lsp_message.specs.declared.frame.limits.Limits.{Limits}
use Rattle.lsp_relay.specs.StartFault.{start_fault_text}
use Rattle.lsp_session.specs.ReadLoop.{Extent, to_end, in_part, up_to, ReadsOver}
use Rattle.lsp_session.specs.SessionFailures.{write_failures}
use Rattle.lsp_session.specs.declared.loops.ReadEnd.{ReadEnd}
use Rattle.lsp_session.specs.declared.loops.ReadEnd.TheVariants.{Exit, End, Fault, Closed, Memory as Full}
use Rattle.lsp_threads.specs.Passing.{IsFlushed, ReadingFails}
use Rattle.lsp_threads.specs.declared.pumping.PumpFault.{PumpFault}
use Rattle.lsp_threads.specs.declared.pumping.PumpFault.TheVariants.{Read, Write, Start}

-- the parts of a frame have at most so many bytes
module _ (limit : Limits) (text : List ℕ) (old new : Option (List ℕ)) where
  -- The writer got frames of the messages of the text so far, in order. The reader is gone, so nothing
  -- is said of what is left.
  abbrev pub PassesOn : Extent → Type 0
  PassesOn extent = ReadsOver limit extent text (λ ms. GetsFrames ms old new) (λ rest. Unit {0})

  -- It got frames of the first messages, and a beginning of a frame of the next.
  abbrev pub BreaksOff : Type 0
  BreaksOff =
      (next : Message)
      × ReadsOver limit (up_to next) text (λ ms. GetsFramesAndPart ms next old new) (λ rest.
      Unit {0})

  abbrev pub Pumps : Result (Unit {0}) PumpFault → Type 0
  Pumps (Ok done) = PassesOn (to_end exited) ⊎ PassesOn (to_end ended)
  Pumps (Err (Read (Input kind))) = PassesOn in_part
  Pumps (Err (Read Memory)) = PassesOn in_part
  Pumps (Err (Read fault)) = PassesOn (to_end (failed fault))
  Pumps (Err (Write (Output kind))) = BreaksOff
  Pumps (Err (Write NoMemory)) = PassesOn in_part
  Pumps (Err (Start fault)) = Keeps old new

-- all that was given was flushed, unless a write or a flush failed
abbrev pub PumpFlushes : Result (Unit {0}) PumpFault → Parts → Type 0
PumpFlushes (Err (Write (Output kind))) given = Unit {0}
PumpFlushes result given = IsFlushed given

-- A pump that reports that its reader failed reports the last failure of the trace, by its kind. It may also give up,
-- with the kind `Other`, after 2^64 - 1 bytes, where each interruption counts as a byte. If a pump reports no fault,
-- its reader was only interrupted.
abbrev pub PumpReportsReader : Result (Unit {0}) PumpFault → ByteTrace → Type 0
PumpReportsReader (Ok done) taken = ReadingFails End taken
PumpReportsReader (Err (Read fault)) taken = ReadingFails (Fault fault) taken
PumpReportsReader (Err (Write fault)) taken = Unit {0}
PumpReportsReader (Err (Start fault)) taken = taken.failed ≡ []

-- A pump reports that its writer failed, by its kind, exactly if it did. It failed once.
abbrev pub PumpReportsWriter : Result (Unit {0}) PumpFault → ByteTrace → Type 0
PumpReportsWriter (Err (Write fault)) given = given.failed ≡ write_failures (Some fault)
PumpReportsWriter result given = given.failed ≡ []

-- A fault of writing comes before one of reading. A frame that could not be made ends the reading. For private clauses:
-- reading never ends at a closed outbox.
abbrev pub pump_answer : ReadEnd → Option WriteFault → Result (Unit {0}) PumpFault
pump_answer end (Some fault) = Err (Write fault)
pump_answer Exit None = Ok tt
pump_answer End None = Ok tt
pump_answer (Fault fault) None = Err (Read fault)
pump_answer Closed None = Ok tt
pump_answer Full None = Err (Write NoMemory)

-- what a fault prints
abbrev pub pump_fault_text : PumpFault → Option (List ℕ)
pump_fault_text (Read fault) = read_fault_text fault
pump_fault_text (Write fault) = write_fault_text fault
pump_fault_text (Start fault) = start_fault_text fault
