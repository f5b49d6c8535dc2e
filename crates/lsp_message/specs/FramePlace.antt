-- The place in a frame after the bytes that have arrived (LSP 3.17, "Base Protocol").
use Rattle.std.specs.Prelude.{◌≡◌, ◌≢◌, ◌<◌, ◌≤◌, ◌+◌, ◌-◌, ◌++◌, ◌∷◌, ℕ, List, [], length, take, drop, slice_index}
use Rattle.std.specs.Prelude.{Option, Some, None, option_map, Result, Ok, Err, nat_lt, if◌then◌else◌}
use Rattle.std.specs.Result.{result_err}
use Rattle.lsp_message.specs.Frame.{content_within, header_under}
use Rattle.lsp_message.specs.Front.{front_of, at_header_end}
use Rattle.lsp_message.specs.HeaderPart.{lines, fields, after_fields, content_length, or_else}
use Rattle.lsp_message.specs.declared.frame.ReadFault.{ReadFault}
use Rattle.lsp_message.specs.declared.frame.ReadFault.TheVariants.{Memory, NoLength, TooLong}
use Rattle.lsp_message.specs.declared.frame.header.HeaderLine.{HeaderLine}
use Rattle.lsp_message.specs.declared.frame.header.HeaderLine.TheVariants.{Blank, Length, Other}
use Rattle.lsp_message.specs.declared.frame.limits.Limits.{Limits}
use Rattle.lsp_message.specs.declared.frame.input.Next.{Next}
use Rattle.lsp_message.specs.declared.frame.input.Next.TheVariants.{Header, Content}

-- no byte is a line feed
abbrev pub HasNoFeed : List ℕ → Type 0
HasNoFeed text = (k : ℕ) → k < length text → slice_index text k ≢ 10

-- a whole line, with its line feed
pub record IsLine (text : List ℕ) : Type 0 where
  pub stem : List ℕ
  pub plain : HasNoFeed stem
  pub whole : text ≡ stem ++ 10 ∷ []

-- the room that is left after this many bytes, if it is bounded
abbrev pub less_of : Option ℕ → ℕ → Option ℕ
less_of room count = option_map (λ most. most - count) room

-- What follows a line of the header part. The lines before it give this length.
abbrev pub next_of : Limits → Option ℕ → Result HeaderLine ReadFault → Result Next ReadFault
next_of limits given (Err fault) = Err fault
next_of limits given (Ok (Length size)) = Ok (Header (Some size))
next_of limits given (Ok Other) = Ok (Header given)
next_of limits None (Ok Blank) = Err NoLength
next_of limits (Some size) (Ok Blank) = if nat_lt limits.content size then Err TooLong else Ok (Content size)

-- The text is good fields of a header part, whatever follows it. The last length in it is the given one.
abbrev pub AreFields : Option ℕ → List ℕ → Type 0
AreFields given text = (more : List ℕ) → (after_fields (lines (text ++ more)) ≡ after_fields (lines more))
    × (content_length (fields (lines (text ++ more))) ≡ or_else (content_length (fields (lines more))) given)

-- The header part has not ended: fields with the given length, and then a line without its end.
pub record InHeader (limits : Limits) (text : List ℕ) (line : ℕ) (given : Option ℕ) : Type 0 where
  pub begun : line ≤ length text
  pub fields : AreFields given (take line text)
  pub unended : HasNoFeed (drop line text)
  pub fits : (most : ℕ) → limits.header ≡ Some most → length text ≤ most

-- the text is a header part that gives this length
pub record IsHeader (limits : Limits) (size : ℕ) (text : List ℕ) : Type 0 where
  pub allowed : size ≤ limits.content
  pub header : (more : List ℕ) → header_under limits.header (text ++ more)
      ≡ record { outcome = Ok (Some size); rest = more }
  pub front : (more : List ℕ) → front_of (text ++ more)
      ≡ at_header_end (length (text ++ more)) (Ok (Some size)) (length more)

-- the header part ended, and some of the content part is missing
pub record InContent (limits : Limits) (text : List ℕ) (start size : ℕ) : Type 0 where
  pub begun : start ≤ length text
  pub short : length text < start + size
  pub header : IsHeader limits size (take start text)

-- The text is what a reader takes to find this fault of its bytes. Whatever follows the text is left.
pub record IsFaultOf (limits : Limits) (text : List ℕ) (fault : ReadFault) : Type 0 where
  pub of_bytes : fault ≢ Memory
  pub answer : (more : List ℕ) → result_err (content_within limits (text ++ more)).outcome ≡ Some fault
  pub left : (more : List ℕ) → (content_within limits (text ++ more)).rest ≡ more

-- The text is in its header part, which may have `room` more bytes, and ends with this line, which has not ended.
pub record AtHeader (limits : Limits) (text : List ℕ) (room given : Option ℕ) (tail : List ℕ) : Type 0 where
  pub here : InHeader limits text (length text - length tail) given
  pub line : drop (length text - length tail) text ≡ tail
  pub left : room ≡ less_of limits.header (length text)

-- the text is in its content part, and ends with these bytes of it
pub record AtContent (limits : Limits) (text : List ℕ) (size : ℕ) (tail part : List ℕ) : Type 0 where
  pub here : InContent limits text (length text - length part) size
  pub content : drop (length text - length part) text ≡ part
  pub no_line : tail ≡ []
