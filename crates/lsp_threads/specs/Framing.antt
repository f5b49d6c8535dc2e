-- Frames that a relay carries as texts, several in one parcel.
use Rattle.std.specs.Prelude.{◌≡◌, ◌<◌, ℕ, List, [], ◌∷◌, ◌++◌, length, Option, Some, None, Result, Ok, Err}
use Rattle.std.specs.Prelude.{string_bytes}
use Rattle.std.specs.Io.KnownBytes.{Appends}
use Rattle.lsp_message.specs.Message as plain
use Rattle.lsp_message.specs.Told.{Parts}
use Rattle.lsp_message.specs.Written.{AppendsBeginning, IsFrameOf, IsOutput}
use Rattle.lsp_message.specs.declared.frame.WriteFault.{WriteFault}
use Rattle.lsp_message.specs.declared.frame.limits.Limits.{Limits}
use Rattle.lsp_session.specs.ReadLoop.{Hands}
use Rattle.lsp_session.specs.declared.lifecycle.SendFault.{SendFault}
use Rattle.lsp_session.specs.declared.lifecycle.SendFault.TheVariants.{Closed, Memory}
use Rattle.lsp_session.specs.declared.loops.ReadEnd.{ReadEnd}
use Rattle.lsp_relay.specs.Relay.{Relay, ended, Sending}
use Rattle.lsp_relay.specs.declared.ends.Parcel.{Parcel}
use Rattle.lsp_relay.specs.declared.ends.Parcel.TheVariants as parcel
use Rattle.lsp_threads.specs.Passing.{OfTaken, TakenFrom}
use Rattle.lsp_threads.specs.declared.frame_text.FrameText.{FrameText}

-- the bytes of the parcels, in order
abbrev pub parcel_bytes : List (Parcel FrameText) → List ℕ
parcel_bytes [] = []
parcel_bytes (parcel.Message t ∷ rest) = string_bytes t.text ++ parcel_bytes rest
parcel_bytes (parcel.End ∷ rest) = parcel_bytes rest

-- an outbox that gathers frames, as callers see it: the bytes that were sent, and those that wait to be sent
pub record Framing : Type 0 where
  pub relay : Relay FrameText
  pub bytes : List ℕ

-- the outbox adds a frame of each message; if an allocation fails, nothing; it is never closed
abbrev pub FramingSends : Framing → plain.Message → Result (Unit {0}) SendFault → Framing → Type 0
FramingSends old m (Ok done) new = (new.relay ≡ old.relay)
    × ((frame : List ℕ) × IsFrameOf m frame × (new.bytes ≡ old.bytes ++ frame))
FramingSends old m (Err (Closed back)) new = ⊥
FramingSends old m (Err (Memory back)) new = new ≡ old

-- texts were sent, and then End
abbrev pub AreEnded : List (Parcel FrameText) → Type 0
AreEnded sent = (texts : List FrameText) × (sent ≡ ended texts)

-- a loop over the messages of the text, whose content parts have at most so many bytes, hands on frames
abbrev pub HandsSome : Limits → List ℕ → Framing → Framing → ReadEnd → Type 0
HandsSome limit text old new end = (left : Option (List ℕ))
    × Hands limit FramingSends text old new left end

-- what was sent is those frames, and then End
abbrev pub HandsFrames : Limits → List ℕ → Sending FrameText → ReadEnd → Sending FrameText
    → Type 0
HandsFrames limit text old end new = (mid : Framing) × (left : Option (List ℕ))
    × Hands limit FramingSends text (record { relay = old.relay; bytes = [] }) mid left end
    × (parcel_bytes new.sent ≡ mid.bytes) × AreEnded new.sent

-- they are those of the bytes that were taken
abbrev pub TellsFrames : Limits → Option (List ℕ) → Sending FrameText → ReadEnd → Parts
    → Sending FrameText → Type 0
TellsFrames limit known old end taken new =
    OfTaken taken (λ text. HandsFrames limit text old end new) × TakenFrom known taken

-- the bytes were written, or a write failed so after a beginning of them
abbrev pub WritesBytes : List ℕ → Option WriteFault → Option (List ℕ) → Option (List ℕ) → Type 0
WritesBytes bytes None old new = Appends old new bytes
WritesBytes bytes (Some fault) old new = IsOutput fault × (0 < length bytes)
    × AppendsBeginning old new bytes

-- the bytes were written, unless a write had failed before
abbrev pub WritesUnlessFailed : Option WriteFault → List ℕ → Option WriteFault → Option (List ℕ)
    → Option (List ℕ) → Type 0
WritesUnlessFailed None bytes fault old new = WritesBytes bytes fault old new
WritesUnlessFailed (Some before) bytes fault old new = (fault ≡ Some before) × (new ≡ old)

-- For private clauses: the first of these bytes were written, unless a write had failed before, and the last ones are
-- left.
abbrev pub Gathers : Option WriteFault → List ℕ → List ℕ → Option WriteFault → Option (List ℕ)
    → Option (List ℕ) → Type 0
Gathers before bytes left fault old new = (done : List ℕ) × (bytes ≡ done ++ left)
    × WritesUnlessFailed before done fault old new

-- texts and then End were taken, and written
abbrev pub WritesParcels : List (Parcel FrameText) → Option WriteFault → Option (List ℕ)
    → Option (List ℕ) → Type 0
WritesParcels taken fault old new = AreEnded taken × WritesBytes (parcel_bytes taken) fault old new
