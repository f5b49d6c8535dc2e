-- The frames that a session has to send.
use Rattle.std.specs.Prelude.{◌≡◌, ◌++◌, ◌∷◌, ℕ, List, drop, Result, Ok, Err}
use Rattle.lsp_message.specs.Message.{Message}
use Rattle.lsp_message.specs.Written.{IsFrameOf, AreFramesOf}
use Rattle.lsp_session.specs.declared.lifecycle.SendFault.{SendFault}
use Rattle.lsp_session.specs.declared.lifecycle.SendFault.TheVariants.{Closed, Memory}
use Rattle.lsp_session.specs.declared.loops.pending_output.PendingOutput.{PendingOutput}

-- the bytes that were not sent yet
abbrev pub waiting : PendingOutput → List ℕ
waiting output = drop output.sent output.bytes.items

-- a frame of the message was added at the end, or nothing if memory ran out
abbrev pub AddsFrame : {E : Type 0} → Message → List ℕ → Result (Unit {0}) E → List ℕ → Type 0
AddsFrame m old (Ok done) new = (frame : List ℕ) × IsFrameOf m frame × (new ≡ old ++ frame)
AddsFrame m old (Err fault) new = new ≡ old

-- One send adds a frame of the message, unless memory runs out. The output is never closed.
abbrev pub PendingSends : PendingOutput → Message → Result (Unit {0}) SendFault → PendingOutput → Type 0
PendingSends old m (Ok done) new = (frame : List ℕ) × IsFrameOf m frame × (waiting new ≡ waiting old ++ frame)
PendingSends old m (Err (Memory back)) new = waiting new ≡ waiting old
PendingSends old m (Err (Closed back)) new = ⊥

-- Frames of these messages are added, in order. If memory runs out, frames of the first of them are added, and nothing
-- of the others.
pub record AddsSome (old : List ℕ) (ms : List Message) (new : List ℕ) : Type 0 where
  pub part : List Message
  pub unsent : Message
  pub more : List Message
  pub cut : ms ≡ part ++ unsent ∷ more
  pub frames : List ℕ
  pub are_frames : AreFramesOf part frames
  pub added : new ≡ old ++ frames

abbrev pub AddsFrames : {E : Type 0} → List ℕ → List Message → Result (Unit {0}) E → List ℕ → Type 0
AddsFrames old ms (Ok done) new = (frames : List ℕ) × AreFramesOf ms frames × (new ≡ old ++ frames)
AddsFrames old ms (Err fault) new = AddsSome old ms new
