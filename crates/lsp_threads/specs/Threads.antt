-- A session whose reader and writer run in threads of their own: bytes in to bytes out (LSP 3.17, "Base Protocol" and
-- "Server lifecycle").
use Rattle.std.specs.Prelude.{◌≡◌, ◌⊎◌, Bool, true, false, ℕ, ◌-◌, ◌^◌, ◌≤◌, List, [], ◌∷◌, ◌++◌, length, Option}
use Rattle.std.specs.Prelude.{Some, None, Result, Err}
use Rattle.std.specs.declared.io.ErrorKind.TheVariants.{Other}
use Rattle.lsp_message.specs.Frame.{Begins}
use Rattle.lsp_message.specs.Message.{Message}
use Rattle.lsp_message.specs.Told.{Parts}
use Rattle.lsp_message.specs.Written.{GetsFrames, GetsFramesAndPart, IsOutput}
use Rattle.lsp_message.specs.declared.frame.ReadFault.{ReadFault}
use Rattle.lsp_message.specs.declared.frame.ReadFault.TheVariants.{Input}
use Rattle.lsp_message.specs.declared.frame.byte_trace.ByteTrace.{ByteTrace}
use Rattle.lsp_message.specs.declared.frame.limits.Limits.{Limits}
use Rattle.lsp_session.specs.PassingBytes.{HearsLast, PassesOver}
use Rattle.lsp_session.specs.Session.{Exchange, sends_of, SessionAnswer, SessionPart, Stop}
use Rattle.lsp_session.specs.SessionBytes.{Ends, SessionOver}
use Rattle.lsp_session.specs.SessionFailures.{write_failures}
use Rattle.lsp_session.specs.declared.loops.ReadEnd.{ReadEnd}
use Rattle.lsp_session.specs.declared.loops.ReadEnd.TheVariants.{Fault}
use Rattle.lsp_session.specs.declared.loops.handler.SessionEnd.{SessionEnd}
use Rattle.lsp_session.specs.declared.loops.stream_session.SessionFault.{SessionFault}
use Rattle.lsp_session.specs.declared.loops.stream_session.SessionFault.TheVariants.{Read, Write, Memory}
use Rattle.lsp_threads.specs.Passing.{IsFlushed, ReadingFails}

-- the writer got frames of the first of these messages, and a beginning of a frame of the next
abbrev pub BreaksOffWithin : List Message → Option (List ℕ) → Option (List ℕ) → Type 0
BreaksOffWithin ms old new =
    (whole : List Message) × (next : Message) × (unwritten : List Message)
    × (ms ≡ whole ++ next ∷ unwritten) × GetsFramesAndPart whole next old new

-- the writer got frames of the first of these messages, and nothing of the others
abbrev pub GetsFirst : List Message → Option (List ℕ) → Option (List ℕ) → Type 0
GetsFirst ms old new = (sent : List Message) × (unsent : List Message) × (ms ≡ sent ++ unsent)
    × GetsFrames sent old new

-- The first frame of the text is this message, and the rest follows it; or others woke the session, if they can, and
-- nothing was read.
abbrev pub ReadsOrWakes : Bool → Limits → List ℕ → Option Message → List ℕ → Type 0
ReadsOrWakes wakeable limit text (Some m) rest = Begins limit text m rest
ReadsOrWakes wakeable limit text None rest = (wakeable ≡ true) × (rest ≡ text)

-- For what a session in threads answers: as one over bytes ends, whatever is left of the text, since the reader is
-- gone.
abbrev pub EndsInThreads : Limits → Result SessionEnd SessionFault → SessionAnswer → Stop
    → List ℕ → Type 0
EndsInThreads limit result answer stop at = (left : Option (List ℕ)) × Ends limit left result answer stop at

-- What the writer got of all that was sent: frames of it; or, if a write failed, frames of the first messages and a
-- beginning of the next; or, if an allocation failed, frames of the first messages.
abbrev pub WroteInThreads : Option (List ℕ) → Option (List ℕ) → Result SessionEnd SessionFault
    → Stop → List Exchange → Type 0
WroteInThreads old new (Err (Write fault)) stop exchanges = IsOutput fault
    × BreaksOffWithin (sends_of exchanges) old new
WroteInThreads old new (Err Memory) stop exchanges = GetsFirst (sends_of exchanges) old new
WroteInThreads old new result stop exchanges = GetsFrames (sends_of exchanges) old new

-- all that was given was flushed, unless the session ended with a fault of writing
abbrev pub FlushesInThreads : Result SessionEnd SessionFault → Parts → Type 0
FlushesInThreads (Err (Write fault)) given = Unit {0}
FlushesInThreads result given = IsFlushed given

-- A session that reports that its reader failed reports the last failure of the trace, by its kind. It may also give
-- up, with the kind `Other`: after 2^64 - 1 bytes, where each interruption counts as a byte, or after 2^64 - 1 messages
-- and wakes.
abbrev pub ReportsReader : Result SessionEnd SessionFault → ByteTrace → SessionPart
ReportsReader (Err (Read (Input kind))) taken exchanges stop answer =
    ReadingFails (Fault (Input kind)) taken ⊎ ((kind ≡ Other) × (2 ^ 64 - 1 ≤ length exchanges))
ReportsReader result taken exchanges stop answer = Unit {0}

-- A session reports that its writer failed, by its kind, exactly if it did. It failed once.
abbrev pub ReportsWriter : Result SessionEnd SessionFault → ByteTrace → Type 0
ReportsWriter (Err (Write fault)) given = given.failed ≡ write_failures (Some fault)
ReportsWriter result given = given.failed ≡ []

-- bytes in to bytes out, of a session that passes over nothing, and that others can wake or not
abbrev pub ThreadsGiveOver : Bool → Limits → SessionPart → List ℕ → Option (List ℕ) → Option (List ℕ)
    → Result SessionEnd SessionFault → Type 0
ThreadsGiveOver wakeable limit P text old new result =
    SessionOver (ReadsOrWakes wakeable limit) P text (EndsInThreads limit result)
    (WroteInThreads old new result)

-- nobody can wake the session
abbrev pub ThreadsGive : Limits → SessionPart → List ℕ → Option (List ℕ) → Option (List ℕ)
    → Result SessionEnd SessionFault → Type 0
ThreadsGive = ThreadsGiveOver false

-- of a session that asks a policy at content parts which are no messages, and that others can wake or not
module _ (wakeable : Bool) {L : Type 0} (passes : L → ReadFault → L → Type 0) (limit : Limits) where
  -- The first frame of the text is this message, and the policy passes nothing. Or the session is woken: by others, if
  -- they can, and nothing was read; or since the first frame is passed over, of which the policy passes.
  abbrev pub ReadsFrameOrWakes : List ℕ × L → Option Message → List ℕ × L → Type 0
  ReadsFrameOrWakes old (Some m) new = Begins limit old.0 m new.0 × (new.1 ≡ old.1)
  ReadsFrameOrWakes old None new = ((wakeable ≡ true) × (new ≡ old))
      ⊎ PassesOver passes limit old new

  -- Bytes in to bytes out. Of its end and of what was written the same is said as of a session that passes over
  -- nothing.
  abbrev pub ThreadsTellOver : SessionPart → List ℕ → L → L → Option (List ℕ) → Option (List ℕ)
      → Result SessionEnd SessionFault → Type 0
  ThreadsTellOver P text first last old new result =
      SessionOver ReadsFrameOrWakes P (text, first)
      (λ answer stop at. EndsInThreads limit result answer stop at.0
      × HearsLast passes limit stop at last) (WroteInThreads old new result)

-- nobody can wake the session but for a content part that is passed over
abbrev pub ThreadsTell : {L : Type 0} → (L → ReadFault → L → Type 0) → Limits → SessionPart → List ℕ → L
    → L → Option (List ℕ) → Option (List ℕ) → Result SessionEnd SessionFault → Type 0
ThreadsTell = ThreadsTellOver false

-- What ended the messages of a session whose inbox ended so, or took End so: a reader's end counts if the session came
-- to it. For private clauses.
abbrev pub session_end : Option ReadEnd → Bool → ReadEnd → Option ReadEnd
session_end (Some end) drained read = Some end
session_end None true read = Some read
session_end None false read = None
