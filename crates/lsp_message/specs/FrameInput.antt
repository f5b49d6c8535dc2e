-- What a push reader of frames returns for the bytes that it was given (LSP 3.17, "Base Protocol").
use Rattle.std.specs.Prelude.{◌≡◌, ◌≢◌, ◌⊎◌, ◌++◌, ◌∷◌, ℕ, List, [], Option, Some, None, Result, Ok, Err}
use Rattle.std.specs.List.{concat}
use Rattle.lsp_message.specs.Frame.{content_within, header_under}
use Rattle.lsp_message.specs.FramePlace.{IsHeader}
use Rattle.lsp_message.specs.Front.{front_of}
use Rattle.lsp_message.specs.Reading.{StopsBefore}
use Rattle.lsp_message.specs.declared.frame.Front.TheVariants.{More}
use Rattle.lsp_message.specs.declared.frame.ReadFault.{ReadFault}
use Rattle.lsp_message.specs.declared.frame.ReadFault.TheVariants.{Memory, HeaderTooLong, TooLong}
use Rattle.lsp_message.specs.declared.frame.input.Frame.{Frame}
use Rattle.lsp_message.specs.declared.frame.limits.Limits.{Limits}

-- the bytes are the frame of this content part, whatever follows them
abbrev pub IsFrameRead : Limits → List ℕ → List ℕ → Type 0
IsFrameRead limits content frame = (rest : List ℕ)
    → content_within limits (frame ++ rest) ≡ record { outcome = Ok (Some content); rest = rest }

-- No frame is whole, and no limit is exceeded: more bytes of the first frame have to come. Whatever these are, a reader
-- takes all bytes of the text for its first answer.
pub record AwaitsMore (limits : Limits) (text : List ℕ) : Type 0 where
  pub more : front_of text ≡ More
  pub header_fits : (content_within limits text).outcome ≢ Err HeaderTooLong
  pub content_fits : (content_within limits text).outcome ≢ Err TooLong
  pub within : (rest : List ℕ) → (read : List ℕ) × (rest ≡ read ++ (content_within limits (text ++ rest)).rest)

-- The bytes are those that a reader takes to find this fault: whatever follows them, it answers with the fault, and
-- leaves what follows. If memory ran out, that is no fault of the bytes: a reader takes all of them for its first
-- answer.
abbrev pub BeginsWithFault : Limits → List ℕ → ReadFault → Type 0
BeginsWithFault limits text Memory = (rest : List ℕ)
    → (read : List ℕ) × (rest ≡ read ++ (content_within limits (text ++ rest)).rest)
BeginsWithFault limits text fault = (more : List ℕ)
    → content_within limits (text ++ more) ≡ record { outcome = Err fault; rest = more }

-- The bytes are those of the frame, and none of them is held any longer. Without a frame all of them are held.
abbrev pub ReadsContent : Limits → List ℕ → Result (Option Frame) ReadFault → List ℕ → Type 0
ReadsContent limits text (Ok (Some frame)) left = IsFrameRead limits frame.content.items text × (left ≡ [])
    × (concat frame.bytes.parts ≡ text)
ReadsContent limits text (Ok None) left = left ≡ text
ReadsContent limits text (Err fault) left = (left ≡ text) × BeginsWithFault limits text fault

-- Memory ran out: the text is a header part, and there is no room for its content part; or no byte was added to a
-- header part that has not ended.
abbrev pub RanOut : Limits → List ℕ → ℕ → Type 0
RanOut limits text count = ((size : ℕ) × IsHeader limits size text)
    ⊎ ((count ≡ 0) × ((byte : ℕ) (more : List ℕ)
    → StopsBefore (Some (byte ∷ more)) (header_under limits.header (text ++ byte ∷ more))))

-- What a reader answers if the input ends after these bytes: no message, at the start of a header line, or this fault.
-- It has taken all bytes. If memory ran out for the content part, the bytes are the header part.
abbrev pub IsEndOf : Limits → List ℕ → Option ReadFault → Type 0
IsEndOf limits text None = content_within limits text ≡ record { outcome = Ok None; rest = [] }
IsEndOf limits text (Some Memory) = (size : ℕ) × IsHeader limits size text
IsEndOf limits text (Some fault) = content_within limits text ≡ record { outcome = Err fault; rest = [] }
