-- Where each write of a thread began: what had been taken from the reader by then, and what had been given to the
-- writer.
use Rattle.std.specs.List.{concat}
use Rattle.std.specs.Prelude.{◌≡◌, ◌⊎◌, ◌<◌, ℕ, List, [], ◌∷◌, ◌++◌, length, Option, None, string_bytes}
use mathlib.Core.List.{IsPrefix}
use Rattle.lsp_message.specs.Told.{Parts}
use Rattle.lsp_message.specs.declared.frame.WriteFault.{WriteFault}
use Rattle.lsp_relay.specs.declared.ends.Parcel.{Parcel}
use Rattle.lsp_relay.specs.declared.ends.Parcel.TheVariants as parcel
use Rattle.lsp_threads.specs.Framing.{parcel_bytes, Framing}
use Rattle.lsp_threads.specs.Passing.{IsFlushed}
use Rattle.lsp_threads.specs.declared.frame_text.FrameText.{FrameText}

-- A write began when this had been taken and this had been given.
pub record Begun : Type 0 where
  pub taken : Parts
  pub given : Parts

-- what had been given when the first of these writes began, or in all if there is none
abbrev pub given_before : List Begun → Parts → Parts
given_before [] given = given
given_before (write ∷ writes) given = write.given

-- what is said of a write: of what had been taken when it began, and of all that had been given when it ended
module _ (P : Parts → List ℕ → Type 0) where
  -- It is said of each of these writes, and when each began, all that had been given was flushed.
  abbrev pub EachWrite : List Begun → Parts → Type 0
  EachWrite [] given = Unit {0}
  EachWrite (write ∷ writes) given = P write.taken (concat (given_before writes given)) × IsFlushed write.given
      × EachWrite writes given

  -- These are all writes: before the first one nothing was given.
  abbrev pub AllWrites : List Begun → Parts → Type 0
  AllWrites writes given = (given_before writes given ≡ []) × EachWrite writes given

-- ---- for private clauses: what had been taken when the last frame of a text was made

pub record Mark : Type 0 where
  pub taken : Parts
  -- all bytes up to the end of the text
  pub bytes : List ℕ

-- the marks of the texts, which follow these bytes
abbrev pub marks_after : List ℕ → List (Parcel FrameText) → List Mark
marks_after before [] = []
marks_after before (parcel.Message t ∷ rest) =
    let now = before ++ string_bytes t.text in (record { taken = t.taken.parts; bytes = now } ∷ marks_after now rest)
marks_after before (parcel.End ∷ rest) = marks_after before rest

abbrev pub marks_of : List (Parcel FrameText) → List Mark
marks_of parcels = marks_after [] parcels

-- the same, and that of bytes that are held after them
abbrev pub all_marks : List (Parcel FrameText) → Parts → List ℕ → List Mark
all_marks sent taken held = marks_of sent ++ record { taken = taken; bytes = parcel_bytes sent ++ held } ∷ []

-- A batch of frames, as callers see it: the bytes that were sent; the last of them, which are held and not handed over
-- yet; and what had been taken when the last frame of each text was made.
pub record Batch : Type 0 where
  pub framing : Framing
  pub held : List ℕ
  pub marks : List Mark

abbrev pub IsAmong : Mark → List Mark → Type 0
IsAmong mark [] = ⊥
IsAmong mark (first ∷ rest) = (mark ≡ first) ⊎ IsAmong mark rest

-- no mark is new
abbrev pub KeepsMarks : List Mark → List Mark → Type 0
KeepsMarks old new = (mark : Mark) → IsAmong mark new → IsAmong mark old

-- no mark is new but this one
abbrev pub AddsMark : List Mark → Parts → List ℕ → List Mark → Type 0
AddsMark old taken bytes new =
    (mark : Mark) → IsAmong mark new → IsAmong mark old ⊎ (mark ≡ record { taken = taken; bytes = bytes })

-- A write began when this had been taken, and gave bytes of texts up to the one with this mark.
abbrev pub EndsAtMark : List Mark → Parts → List ℕ → Type 0
EndsAtMark marks taken given = (bytes : List ℕ) × IsAmong (record { taken = taken; bytes = bytes }) marks
    × IsPrefix given bytes

-- Nothing was given, and no write began. Or no write had failed, one began when this had been taken, and it gave the
-- text or a beginning of it.
abbrev pub NotesWrite : Option WriteFault → List ℕ → Parts → Parts → Parts → List Begun → List Begun → Type 0
NotesWrite before text taken old new writes writes' =
    ((new ≡ old) × (writes' ≡ writes))
    ⊎ ((before ≡ None) × (0 < length text) × (writes' ≡ writes ++ record { taken = taken; given = old } ∷ [])
    × ((part : List ℕ) × IsPrefix part text × (concat new ≡ concat old ++ part)))
