-- A session over a reader and a writer: bytes in to bytes out (LSP 3.17, "Base Protocol" and "Server lifecycle").
use Rattle.std.specs.List.{FoldsTo}
use Rattle.std.specs.Option.{option_or}
use Rattle.std.specs.Prelude.{◌≡◌, ◌⊎◌, ℕ, List, [], ◌∷◌, ◌++◌, Option, Some, None, Result, Ok, Err}
use Rattle.lsp_message.specs.Frame.{Begins, reading_within}
use Rattle.lsp_message.specs.Message.{Message}
use Rattle.lsp_message.specs.Reading.{StopsWithin}
use Rattle.lsp_message.specs.Written.{GetsFrames, GetsFramesAndPart, IsOutput}
use Rattle.lsp_message.specs.declared.frame.ReadFault.TheVariants.{Input, Memory as NoMemoryToRead}
use Rattle.lsp_message.specs.declared.frame.limits.Limits.{Limits}
use Rattle.lsp_session.specs.Session.{SessionAnswer, SessionPart, Exchange, came_of, sends_of, Stop, decided, no_more}
use Rattle.lsp_session.specs.Session.{timed_out, refused}
use Rattle.lsp_session.specs.declared.loops.handler.SessionEnd.{SessionEnd}
use Rattle.lsp_session.specs.declared.loops.stream_session.SessionFault.{SessionFault}
use Rattle.lsp_session.specs.declared.loops.stream_session.SessionFault.TheVariants.{Protocol, Read, Write, Memory}

-- The first frame of the text, whose parts have at most so many bytes, is this message, and the rest follows it. A
-- reader brings no wake.
abbrev pub ReadsMessage : Limits → List ℕ → Option Message → List ℕ → Type 0
ReadsMessage limit text (Some m) rest = Begins limit text m rest
ReadsMessage limit text None rest = ⊥

-- the message that the outbox refused, if there is one
abbrev pub lost_of : List Exchange → Option Message
lost_of [] = None
lost_of (x ∷ xs) = option_or x.not_sent (lost_of xs)

-- A session whose messages and wake-ups are read from a text, one after another, as `reads` says of each. `Ends` is
-- about its end and the rest of the text, `Wrote` about the bytes that were written. A session in threads has three
-- tables of its own for this record.
pub record SessionOver {At : Type 0} (reads : At → Option Message → At
    → Type 0) (P : SessionPart) (text : At)
    (Ends : SessionAnswer → Stop → At → Type 0) (Wrote : Stop → List Exchange → Type 0) : Type 0 where
  pub exchanges : List Exchange
  pub at : At
  pub read : FoldsTo reads text (came_of exchanges) at
  pub stop : Stop
  pub answer : SessionAnswer
  pub part : P exchanges stop answer
  pub ends : Ends answer stop at
  pub wrote : Wrote stop exchanges

-- What follows the last message is left, if that one decided. If the text ended instead, what follows its end is left:
-- nothing. A session over bytes has no timeout, and its failures stand below.
abbrev pub LeftAfter : Limits → Stop → List ℕ → Option (List ℕ) → Type 0
LeftAfter limit decided at left = left ≡ Some at
LeftAfter limit no_more at left = (rest : List ℕ)
    × (reading_within limit at ≡ record { outcome = Ok None; rest = rest }) × (left ≡ Some rest)
LeftAfter limit stop at left = ⊥

-- The bytes that are left if a write or an allocation failed. If the last message decided, or the outbox refused a
-- message that was sent for it, all bytes after that message are left. Otherwise a part of the next message may be
-- taken, and nothing after it.
abbrev pub LeftWithin : Limits → Stop → List ℕ → Option (List ℕ) → Type 0
LeftWithin limit decided at left = left ≡ Some at
LeftWithin limit (refused refusal) at left = left ≡ Some at
LeftWithin limit timed_out at left = ⊥
LeftWithin limit stop at left = StopsWithin left (reading_within limit at)

-- For what a session over bytes answers: the answer by the lifecycle, and what is left of the text, of which `at`
-- follows the last message that was used. The first row that fits counts.
abbrev pub Ends : Limits → Option (List ℕ) → Result SessionEnd SessionFault → SessionAnswer → Stop
    → List ℕ → Type 0
Ends limit left (Ok end) answer stop at = (answer ≡ Ok end)
    × LeftAfter limit stop at left
Ends limit left (Err (Protocol fault)) answer stop at = (answer ≡ Err fault)
    × LeftAfter limit stop at left
Ends limit left (Err (Read (Input kind))) answer stop at = (stop ≡ no_more)
    × StopsWithin left (reading_within limit at)
Ends limit left (Err (Read NoMemoryToRead)) answer stop at = ⊥
Ends limit left (Err (Read fault)) answer stop at =
    (stop ≡ no_more) × (rest : List ℕ)
    × (reading_within limit at ≡ record { outcome = Err fault; rest = rest })
    × (left ≡ Some rest)
Ends limit left (Err (Write fault)) answer stop at = LeftWithin limit stop at left
Ends limit left (Err Memory) answer stop at = LeftWithin limit stop at left

-- The bytes that the writer got: frames of all messages that were sent; or, if a write failed, frames of all except the
-- last one, which was refused, and a prefix of a frame of that one; or, if an allocation failed, frames of all, or of
-- all except the last one, which was refused.
abbrev pub Wrote : Option (List ℕ) → Option (List ℕ) → Result SessionEnd SessionFault → Stop
    → List Exchange → Type 0
Wrote old new (Err (Write fault)) stop exchanges =
    IsOutput fault × (whole : List Message) × (last : Message) × (lost_of exchanges ≡ Some last)
    × (sends_of exchanges ≡ whole ++ last ∷ []) × GetsFramesAndPart whole last old new
Wrote old new (Err Memory) stop exchanges = GetsFrames (sends_of exchanges) old new
    ⊎ ((whole : List Message) × (last : Message) × (lost_of exchanges ≡ Some last)
    × (sends_of exchanges ≡ whole ++ last ∷ []) × GetsFrames whole old new)
Wrote old new result stop exchanges = GetsFrames (sends_of exchanges) old new

-- bytes in to bytes out
abbrev pub Gives : Limits → SessionPart → List ℕ → Option (List ℕ) → Option (List ℕ) → Option (List ℕ)
    → Result SessionEnd SessionFault → Type 0
Gives limit P text left old new result =
    SessionOver (ReadsMessage limit) P text (Ends limit left result) (Wrote old new result)
