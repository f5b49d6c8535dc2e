-- Replies as texts of frames on a relay: the outbox that gathers them, and what is written of all that it was offered.
use Rattle.std.specs.Prelude.{◌≡◌, ℕ, Bool, true, false, List, ◌++◌, Option, Some, None, Result, Ok, Err}
use Rattle.lsp_message.specs.Message as plain
use Rattle.lsp_message.specs.Written.{GetsFrames, IsFrameOf}
use Rattle.lsp_message.specs.declared.frame.WriteFault.{WriteFault}
use Rattle.lsp_message.specs.declared.frame.WriteFault.TheVariants.{Output, Memory as NoMemory}
use Rattle.lsp_relay.specs.Relay.{Relay}
use Rattle.lsp_session.specs.Session.{Stop, refused}
use Rattle.lsp_session.specs.declared.lifecycle.SendFault.{SendFault}
use Rattle.lsp_session.specs.declared.lifecycle.SendFault.TheVariants.{Closed, Memory}
use Rattle.lsp_threads.specs.Threads.{BreaksOffWithin, GetsFirst}
use Rattle.lsp_threads.specs.Writes.{Mark}
use Rattle.lsp_threads.specs.declared.frame_text.FrameText.{FrameText}

-- an outbox that makes frames, as callers see it: the bytes that were sent, and whether a message was refused
pub record Replying : Type 0 where
  pub relay : Relay FrameText
  pub bytes : List ℕ
  pub failed : Bool

-- The same, of one that gathers frames: the last of these bytes, which are held and not handed over yet; and what had
-- been taken when the last frame of each text was made.
pub record Gathered : Type 0 where
  pub replies : Replying
  pub held : List ℕ
  pub marks : List Mark

-- For private clauses: these bytes were sent, and no message was refused.
abbrev pub AddsBytes : Replying → List ℕ → Replying → Type 0
AddsBytes old bytes new = new ≡ record old { bytes = old.bytes ++ bytes }

-- The outbox sends a frame of each message, up to the first that it finds no memory for. That one and all after it are
-- refused. It is never closed.
abbrev pub RepliesSend : Replying → plain.Message → Result (Unit {0}) SendFault → Replying → Type 0
RepliesSend old m (Ok done) new =
    (new.relay ≡ old.relay) × (old.failed ≡ false) × (new.failed ≡ false)
    × ((frame : List ℕ) × IsFrameOf m frame × (new.bytes ≡ old.bytes ++ frame))
RepliesSend old m (Err (Closed back)) new = ⊥
RepliesSend old m (Err (Memory back)) new = new ≡ record old { failed = true }

-- For private clauses: the first fault of the output, of the thread that writes or of the outbox.
abbrev pub reply_fault : Option WriteFault → Bool → Option WriteFault
reply_fault (Some fault) failed = Some fault
reply_fault None true = Some NoMemory
reply_fault None false = None

-- no message was refused
abbrev pub IsWhole : Stop → Type 0
IsWhole (refused fault) = ⊥
IsWhole stop = Unit {0}

-- For private clauses: what the writer got of all that was sent, by the first fault. If there is none, no message was
-- refused.
abbrev pub WritesReplies : Stop → List plain.Message → Option WriteFault → Option (List ℕ)
    → Option (List ℕ) → Type 0
WritesReplies stop sends None old new = IsWhole stop × GetsFrames sends old new
WritesReplies stop sends (Some (Output kind)) old new = BreaksOffWithin sends old new
WritesReplies stop sends (Some NoMemory) old new = GetsFirst sends old new
