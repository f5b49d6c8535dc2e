-- A message on the wire (LSP 3.17, "Base Protocol"): what the frame at the front of a text comes to.
use Rattle.serde_json.specs.Data.{Data, array}
use Rattle.serde_json.specs.Read.{read}
use Rattle.std.specs.Option.{ok_or}
use Rattle.std.specs.Prelude.{◌≡◌, ◌≢◌, ◌⊎◌, ℕ, ◌≤◌, List, [], length, take, drop, Option, Some, None, Result, Ok, Err}
use Rattle.std.specs.Prelude.{nat_lt, if◌then◌else◌}
use Rattle.std.specs.Str.{is_utf8}
pub use Rattle.lsp_message.specs.Limits.{of_content, most_content, no_limit, header_under}
use Rattle.lsp_message.specs.Meaning.{meaning}
use Rattle.lsp_message.specs.Message.{Message}
use Rattle.lsp_message.specs.Reading.{Reading, found, StopsBefore}
use Rattle.lsp_message.specs.declared.frame.ReadFault.{ReadFault}
use Rattle.lsp_message.specs.declared.frame.ReadFault.TheVariants.{ShortBody, BodyNotText, NoJson, NoMessage, TooLong}
use Rattle.lsp_message.specs.declared.frame.ReadFault.TheVariants.{Batch}
use Rattle.lsp_message.specs.declared.frame.limits.Limits.{Limits}

-- ---- what a content part means: JSON in UTF-8 (LSP 3.17, "Content Part"), which is a message of JSON-RPC 2.0

-- why a tree that means nothing is refused: a list is a batch (JSON-RPC 2.0, section 6)
abbrev pub no_message : Data → ReadFault
no_message (array items) = Batch
no_message tree = NoMessage

-- the tree that a text is, if it is JSON, means a message or none
abbrev pub tree_means : Option Data → Result Message ReadFault
tree_means None = Err NoJson
tree_means (Some tree) = ok_or (meaning tree) (no_message tree)

abbrev pub body_means : List ℕ → Result Message ReadFault
body_means body = if is_utf8 body then tree_means (read body) else Err BodyNotText

-- ---- a frame, over what its content part is taken for: a message (`body_means`), or its bytes

module _ {M : Type 0} (means : List ℕ → Result M ReadFault) where
  -- the content part, of n bytes
  abbrev pub body_of : ℕ → List ℕ → Reading M
  body_of n text = if nat_lt (length text) n then record { outcome = Err ShortBody; rest = [] }
      else record { outcome = found (means (take n text)); rest = drop n text }

  -- what follows a header part that gave this; a content part of more bytes than the limit is not read
  abbrev pub content_of : ℕ → Result (Option ℕ) ReadFault → List ℕ → Reading M
  content_of limit (Err fault) rest = record { outcome = Err fault; rest = rest }
  content_of limit (Ok None) rest = record { outcome = Ok None; rest = rest }
  content_of limit (Ok (Some n)) rest =
      if nat_lt limit n then record { outcome = Err TooLong; rest = rest } else body_of n rest

  -- the frame that a text begins with, within limits
  abbrev pub frame_of : Limits → List ℕ → Reading M
  frame_of limit text =
      content_of limit.content (header_under limit.header text).outcome
      (header_under limit.header text).rest

-- ---- a message

-- The message at the front of a text, whose parts have at most so many bytes: the message, a fault or the end, and the
-- bytes that are left.
abbrev pub reading_within : Limits → List ℕ → Reading Message
reading_within limit text = frame_of body_means limit text

-- the same of the bytes of the content part, whatever they mean
abbrev pub content_within : Limits → List ℕ → Reading (List ℕ)
content_within limit text = frame_of Ok limit text

-- the same with parts of any length
abbrev pub reading_of : List ℕ → Reading Message
reading_of text = reading_within no_limit text

-- the text begins with a frame that means this message, and the rest follows it
abbrev pub Begins : Limits → List ℕ → Message → List ℕ → Type 0
Begins limit text m rest = reading_within limit text ≡ record { outcome = Ok (Some m); rest = rest }

-- Memory ran out in the header part; or if the room for a content part within the limit was reserved, and none of it
-- was taken.
abbrev pub RunsOutBefore : Limits → List ℕ → Option (List ℕ) → Type 0
RunsOutBefore limit text left =
    StopsBefore left (header_under limit.header text)
    ⊎ ((n : ℕ) × ((header_under limit.header text).outcome ≡ Ok (Some n)) × (n ≤ limit.content)
    × (left ≡ Some (header_under limit.header text).rest))

-- Memory ran out: in the header part; or if the room for a content part within the limit was reserved, and none of it
-- was taken; or after the whole content part was taken.
abbrev pub RunsOut : Limits → List ℕ → Option (List ℕ) → Type 0
RunsOut limit text left =
    StopsBefore left (header_under limit.header text)
    ⊎ ((n : ℕ) × ((header_under limit.header text).outcome ≡ Ok (Some n)) × (n ≤ limit.content)
    × ((left ≡ Some (header_under limit.header text).rest)
    ⊎ ((left ≡ Some (reading_within limit text).rest)
    × ((reading_within limit text).outcome ≢ Err ShortBody))))
