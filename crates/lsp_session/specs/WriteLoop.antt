-- What a loop over an inbox's messages writes (LSP 3.17, "Base Protocol").
use Rattle.std.specs.List.{FoldsTo}
use Rattle.std.specs.Prelude.{◌≡◌, ◌⊎◌, ◌-◌, ◌^◌, ℕ, List, [], ◌∷◌, ◌++◌, length, map, Option}
use Rattle.lsp_message.specs.Message.{Message}
use Rattle.lsp_message.specs.Written.{GetsFrames, GetsFramesAndPart}
use Rattle.lsp_message.specs.declared.frame.WriteFault.{WriteFault}
use Rattle.lsp_message.specs.declared.frame.WriteFault.TheVariants.{Output, Memory}
use Rattle.lsp_session.specs.Boxes.{Sends, Receives, Offers, WaitsFor}
use Rattle.lsp_session.specs.Event.{message, closed}
use Rattle.lsp_session.specs.declared.loops.write.WriteEnd.{WriteEnd}
use Rattle.lsp_session.specs.declared.loops.write.WriteEnd.TheVariants.{Closed, Fault}

module _ {I : Type 0} (receives : Receives I) where
  -- the inbox gave these messages, one after another, and timeouts
  abbrev pub GivesAll : I → List Message → I → Type 0
  GivesAll old ms new = FoldsTo (WaitsFor receives) old (map message ms) new

  -- the inbox gave these messages and then was closed, or these are as many as are received at most
  abbrev pub GivesToEnd : I → List Message → I → Type 0
  GivesToEnd old ms new = FoldsTo (WaitsFor receives) old (map message ms ++ closed ∷ []) new
      ⊎ (GivesAll old ms new × (length ms ≡ 2 ^ 64 - 1))

-- each of these messages was offered once, in order, whatever the outbox answered
abbrev pub OffersAll : {O : Type 0} → Sends O → O → List Message → O → Type 0
OffersAll sends = FoldsTo (λ old m new. Offers sends m old new)

-- The writer got frames of these messages, in order, and of one more, whose write failed with this fault, a prefix of
-- its frame or nothing.
abbrev pub BreaksOffAt : List Message → Message → WriteFault → Option (List ℕ) → Option (List ℕ)
    → Type 0
BreaksOffAt ms m (Output kind) old new = GetsFramesAndPart ms m old new
BreaksOffAt ms m Memory old new = GetsFrames ms old new

module _ {I O : Type 0} (receives : Receives I) (sends : Sends O) where
  -- All that was received was written and offered; at a fault the last message was offered too, and its write is the
  -- one that failed.
  abbrev pub WritesOut : I × Option (List ℕ) × O → WriteEnd → I × Option (List ℕ) × O → Type 0
  WritesOut old Closed new =
      (ms : List Message) × GivesToEnd receives old.0 ms new.0 × GetsFrames ms old.1 new.1
      × OffersAll sends old.2 ms new.2
  WritesOut old (Fault fault) new =
      (ms : List Message) × (m : Message) × GivesAll receives old.0 (ms ++ m ∷ []) new.0
      × BreaksOffAt ms m fault old.1 new.1 × OffersAll sends old.2 (ms ++ m ∷ []) new.2
