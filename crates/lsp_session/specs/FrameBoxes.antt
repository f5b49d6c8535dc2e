-- What an outbox over a writer does (LSP 3.17, "Base Protocol").
use Rattle.std.specs.Io.KnownBytes.{Keeps}
use Rattle.std.specs.Prelude.{◌≡◌, ℕ, List, Option, Some, None, Result, Ok, Err, MatchOption}
use Rattle.lsp_message.specs.Message.{Message}
use Rattle.lsp_message.specs.Written.{Writes}
use Rattle.lsp_message.specs.declared.frame.WriteFault.{WriteFault}
use Rattle.lsp_message.specs.declared.frame.WriteFault.TheVariants.{Output, Memory as NoMemory}
use Rattle.lsp_session.specs.declared.lifecycle.SendFault.{SendFault}
use Rattle.lsp_session.specs.declared.lifecycle.SendFault.TheVariants.{Closed, Memory}
use Rattle.lsp_session.specs.declared.loops.frame_outbox.FrameOutbox.{FrameOutbox}

-- a write whose answer is kept: nothing while all went well, then its fault
abbrev pub kept_write : Option WriteFault → Result (Unit {0}) WriteFault
kept_write None = Ok tt
kept_write (Some fault) = Err fault

-- what a sender learns about a write
abbrev pub Told : Result (Unit {0}) SendFault → Option WriteFault → Type 0
Told (Ok done) None = Unit {0}
Told (Err (Closed back)) (Some (Output kind)) = Unit {0}
Told (Err (Memory back)) (Some NoMemory) = Unit {0}
Told outcome fault = ⊥

-- the outbox was closed already
abbrev pub IsClosed : Result (Unit {0}) SendFault → Type 0
IsClosed (Err (Closed back)) = Unit {0}
IsClosed outcome = ⊥

module _ {W : Type 0} (contents : W → Option (List ℕ)) where
  -- While no write has failed, the message is written, and a fault is kept. After one the outbox is closed and writes
  -- nothing more. It keeps the writer that it was lent.
  abbrev pub FrameOutboxSends : FrameOutbox W → Message → Result (Unit {0}) SendFault
      → FrameOutbox W → Type 0
  FrameOutboxSends old m outcome new =
      MatchOption old.fault
      (Writes m (contents old.writer.now) (kept_write new.fault) (contents new.writer.now)
      × Told outcome new.fault)
      (λ fault. IsClosed outcome × (new.fault ≡ Some fault)
      × Keeps (contents old.writer.now) (contents new.writer.now))
      × (new.writer.ghost_name ≡ old.writer.ghost_name)
