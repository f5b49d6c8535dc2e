-- A session between bytes and bytes (LSP 3.17, "Base Protocol" and "Server lifecycle"): what it took, and what it has
-- to send.
use Rattle.std.specs.List.{FoldsTo}
use Rattle.std.specs.Prelude.{◌≡◌, ◌≢◌, ◌⊎◌, ◌≤◌, ◌++◌, ◌∷◌, ℕ, List, [], length, Option, Some, None, Ok, Err}
use Rattle.lsp_message.specs.Frame.{Begins, reading_within}
use Rattle.lsp_message.specs.FrameInput.{IsFrameRead as IsContentRead, RanOut as RanOutBefore}
use Rattle.lsp_message.specs.Message.{Message}
use Rattle.lsp_message.specs.Written.{AreFramesOf}
use Rattle.lsp_message.specs.declared.frame.ReadFault.{ReadFault}
use Rattle.lsp_message.specs.declared.frame.ReadFault.TheVariants.{Memory}
use Rattle.lsp_message.specs.declared.frame.limits.Limits.{Limits}
use Rattle.lsp_session.specs.Event.{Event, message, closed}
use Rattle.lsp_session.specs.Machine.{Advances, IsAwaited}
use Rattle.lsp_session.specs.ProtocolError.{out_of_memory}
use Rattle.lsp_session.specs.Session.{Behavior}
use Rattle.lsp_session.specs.SessionOutcome.{served_by}
use Rattle.lsp_session.specs.declared.loops.ReadEnd.{ReadEnd}
use Rattle.lsp_session.specs.declared.loops.ReadEnd.TheVariants.{End as AtEnd, Fault as AtFault}
use Rattle.lsp_session.specs.declared.loops.machine.Stage.{Stage}
use Rattle.lsp_session.specs.declared.loops.machine.Stage.TheVariants.{Ended}
use Rattle.lsp_session.specs.declared.loops.session_outcome.StopReason.TheVariants.{NoMore}

-- these bytes are the frame of the message, whatever follows them
abbrev pub IsFrameRead : Limits → Message → List ℕ → Type 0
IsFrameRead limits m frame = (rest : List ℕ) → Begins limits (frame ++ rest) m rest

-- Memory ran out at these bytes: for a line of a header part that has not ended; for the room of the content part, of
-- which no byte was taken; or for the message of a content part that is whole. So it never runs out in the middle of a
-- content part. Whatever follows the bytes, a reader takes all of them for its first answer.
pub record RanOut (limits : Limits) (text : List ℕ) : Type 0 where
  pub place : ((count : ℕ) × RanOutBefore limits text count) ⊎ ((content : List ℕ) × IsContentRead limits content text)
  pub within : (rest : List ℕ) → (read : List ℕ) × (rest ≡ read ++ (reading_within limits (text ++ rest)).rest)

-- The bytes are those that a reader takes to find this fault: whatever follows them, it answers with the fault, and
-- leaves what follows. A want of memory is no fault of the bytes.
abbrev pub BeginsWithFault : Limits → List ℕ → ReadFault → Type 0
BeginsWithFault limits text Memory = RanOut limits text
BeginsWithFault limits text fault = (more : List ℕ)
    → reading_within limits (text ++ more) ≡ record { outcome = Err fault; rest = more }

-- What a reader has where these bytes end: the end of the input, at the start of a header line, or this fault. It has
-- taken all bytes.
abbrev pub IsEndOf : Limits → List ℕ → ReadEnd → Type 0
IsEndOf limits text AtEnd = reading_within limits text ≡ record { outcome = Ok None; rest = [] }
IsEndOf limits text (AtFault Memory) = RanOut limits text
IsEndOf limits text (AtFault fault) = reading_within limits text ≡ record { outcome = Err fault; rest = [] }
IsEndOf limits text end = ⊥

-- the session goes on, or it ended for another reason than the end of the messages
abbrev pub StopsOtherwise : Stage → Type 0
StopsOtherwise (Ended outcome) = outcome.stop ≢ NoMore
StopsOtherwise stage = Unit {0}

-- the bytes that are read for an event: a message has its frame, and the other events have no bytes
abbrev pub IsReadFor : Limits → Event → List ℕ → Type 0
IsReadFor limits (message m) read = IsFrameRead limits m read
IsReadFor limits event read = read ≡ []

-- where a session stands: the stage of its machine, its service, and the bytes that it has to send
pub record Standing (S : Type 0) : Type 0 where
  pub stage : Stage
  pub service : S
  pub pending : List ℕ

-- Memory ran out when the frames of these messages were made. Frames of the first of them are written, and the session
-- has ended.
pub record RunsOut (sent : List Message) (written : List ℕ) (stage : Stage) : Type 0 where
  pub part : List Message
  pub unsent : Message
  pub more : List Message
  pub cut : sent ≡ part ++ unsent ∷ more
  pub are_frames : AreFramesOf part written
  pub over : stage ≡ Ended (served_by (Err out_of_memory))

-- What is written for the messages of a turn, after which the session goes to this stage: their frames, in order.
abbrev pub WritesTurn : List Message → List ℕ → Stage → Stage → Type 0
WritesTurn sent written gone stage = ((stage ≡ gone) × AreFramesOf sent written) ⊎ RunsOut sent written stage

module _ {S : Type 0} (may : Behavior S) where
  -- the session takes an event, and these bytes are written for it
  pub record Answers (old : Standing S) (event : Event) (written : List ℕ) (new : Standing S) : Type 0 where
    pub sent : List Message
    pub gone : Stage
    pub advances : Advances may (old.stage, old.service) event sent (gone, new.service)
    pub writes : WritesTurn sent written gone new.stage
    pub pending : new.pending ≡ old.pending ++ written

  -- an event that the session does not await changes nothing
  abbrev pub Comes : Standing S → Event → Standing S → Type 0
  Comes old event new = (IsAwaited old.stage event × (written : List ℕ) × Answers old event written new)
      ⊎ ((IsAwaited old.stage event → ⊥) × (new ≡ old))

-- an event that a session took, the bytes that were read for it, and those that are written for it
pub record Exchanged : Type 0 where
  pub event : Event
  pub read : List ℕ
  pub written : List ℕ

-- all bytes that were read, and all that were written
abbrev pub reads_of : List Exchanged → List ℕ
reads_of [] = []
reads_of (x ∷ xs) = x.read ++ reads_of xs

abbrev pub writes_of : List Exchanged → List ℕ
writes_of [] = []
writes_of (x ∷ xs) = x.written ++ writes_of xs

abbrev pub IsMessage : Event → Type 0
IsMessage (message m) = Unit {0}
IsMessage event = ⊥

-- Bytes bring messages, and no other event, and what is reported as the end of the messages stays. Or the last event is
-- the end of the messages, and the report is a fault with which the bytes that are left begin.
abbrev pub BringMessages : Limits → Option ReadEnd → List Exchanged → List ℕ → Option ReadEnd → Type 0
BringMessages limits was [] left end = end ≡ was
BringMessages limits was (x ∷ xs) left end = (IsMessage x.event × BringMessages limits was xs left end)
    ⊎ ((x.event ≡ closed) × (xs ≡ [])
    × ((fault : ReadFault) × (end ≡ Some (AtFault fault)) × BeginsWithFault limits left fault))

module _ (limits : Limits) (most : ℕ) {S : Type 0} (may : Behavior S) where
  -- one exchange of a session, which it has only while at most so many bytes are pending
  pub record Exchanges (old : Standing S) (x : Exchanged) (new : Standing S) : Type 0 where
    pub awaited : IsAwaited old.stage x.event
    pub read : IsReadFor limits x.event x.read
    pub room : length old.pending ≤ most
    pub answers : Answers may old x.event x.written new

  -- What a session did for bytes: its exchanges, one after another. The bytes that were unread and those that came are
  -- what was read for the exchanges, and then what is unread now. What was pending and what was written for the
  -- exchanges is pending now, in this order. Nothing wakes the service, and no time passes. Only a fault of the bytes
  -- ends the messages, and it is reported.
  pub record Goes (old : Standing S) (unread : List ℕ) (was : Option ReadEnd) (came : List ℕ) (new : Standing S)
      (left : List ℕ) (end : Option ReadEnd) : Type 0 where
    pub exchanges : List Exchanged
    pub taken : FoldsTo Exchanges old exchanges new
    pub events : BringMessages limits was exchanges left end
    pub read : unread ++ came ≡ reads_of exchanges ++ left
    pub written : new.pending ≡ old.pending ++ writes_of exchanges
