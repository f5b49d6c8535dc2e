-- A message as it is written (LSP 3.17, "Base Protocol").
use Rattle.serde_json.specs.Read.{max_depth}
use Rattle.std.specs.Prelude.{◌≡◌, ◌≤◌, ℕ, List, [], ◌∷◌, ◌++◌, length, codes, Option, Result, Ok, Err}
use Rattle.std.specs.Fmt.{decimal}
use Rattle.std.specs.Io.KnownBytes.{Keeps, Appends}
use Rattle.lsp_message.specs.Frame.{body_means}
use Rattle.lsp_message.specs.Message.{Message}
use Rattle.lsp_message.specs.Ranges.{nesting}
use Rattle.lsp_message.specs.Text.{IsBodyOf}
use Rattle.lsp_message.specs.Tree.{without_null_details}
use Rattle.lsp_message.specs.declared.frame.WriteFault.{WriteFault}
use Rattle.lsp_message.specs.declared.frame.WriteFault.TheVariants.{Output, Memory}

-- the frame of a body: the count of its bytes, a blank line, and the body
abbrev pub frame_text : List ℕ → List ℕ
frame_text body = codes "Content-Length: " ++ (decimal (length body) ++ 13 ∷ 10 ∷ 13 ∷ 10 ∷ body)

-- a content part that means the message, if that nests at most 127 levels
abbrev pub MeansAgain : Message → List ℕ → Type 0
MeansAgain m body = nesting m ≤ max_depth → body_means body ≡ Ok (without_null_details m)

-- a frame of a message, which is read back; there is one, but for the digits of numbers with fractions
abbrev pub IsFrameOf : Message → List ℕ → Type 0
IsFrameOf m text = (body : List ℕ) × IsBodyOf m body × (text ≡ frame_text body) × MeansAgain m body

-- frames of these messages, in order, and nothing else
abbrev pub AreFramesOf : List Message → List ℕ → Type 0
AreFramesOf [] text = text ≡ []
AreFramesOf (m ∷ ms) text = (first : List ℕ) × (more : List ℕ) × IsFrameOf m first
    × AreFramesOf ms more × (text ≡ first ++ more)

-- the writer got a beginning of the text
abbrev pub AppendsBeginning : Option (List ℕ) → Option (List ℕ) → List ℕ → Type 0
AppendsBeginning old new text = (part : List ℕ) × (rest : List ℕ) × (text ≡ part ++ rest)
    × Appends old new part

-- the writer got frames of these messages, in order, and nothing else
abbrev pub GetsFrames : List Message → Option (List ℕ) → Option (List ℕ) → Type 0
GetsFrames ms old new = (text : List ℕ) × AreFramesOf ms text × Appends old new text

-- the writer got frames of these messages, in order, and a beginning of a frame of one more
pub record GetsFramesAndPart (whole : List Message) (next : Message) (old new : Option (List ℕ)) :
    Type 0 where
  pub frames : List ℕ
  pub frames_of_whole : AreFramesOf whole frames
  pub frame : List ℕ
  pub frame_of_next : IsFrameOf next frame
  pub part : List ℕ
  pub missing : List ℕ
  pub split : frame ≡ part ++ missing
  pub got : Appends old new (frames ++ part)

-- what one write of a message does: a frame of it, or a beginning of one, or nothing
abbrev pub Writes : Message → Option (List ℕ) → Result (Unit {0}) WriteFault → Option (List ℕ)
    → Type 0
Writes m old (Ok done) new = (text : List ℕ) × IsFrameOf m text × Appends old new text
Writes m old (Err (Output kind)) new = (text : List ℕ) × IsFrameOf m text
    × AppendsBeginning old new text
Writes m old (Err Memory) new = Keeps old new

-- the writer failed
abbrev pub IsOutput : WriteFault → Type 0
IsOutput (Output kind) = Unit {0}
IsOutput Memory = ⊥
