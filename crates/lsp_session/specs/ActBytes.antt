-- The bytes of what a transport does, of whatever reader and writer: what it took for an event, and what it gave for a
-- message; and those of a whole session.
use Rattle.std.specs.List.{concat}
use Rattle.lsp_message.specs.Methods.{is_exit}
use Rattle.std.specs.Prelude.{◌≡◌, ℕ, true, if◌then◌else◌, List, [], ◌∷◌, ◌++◌, map, Option, Some, None, Result, Ok}
use Rattle.std.specs.Prelude.{Err}
use Rattle.lsp_message.specs.Frame.{reading_within}
use Rattle.lsp_message.specs.Message.{Message}
use Rattle.lsp_message.specs.Told.{Parts, IsOfParts, WritesParts, shows_end}
use Rattle.std.specs.Io.KnownBytes.{Appends, Consumes}
use Rattle.lsp_message.specs.Written.{IsFrameOf}
use Rattle.lsp_message.specs.declared.frame.ReadFault.{ReadFault}
use Rattle.lsp_message.specs.declared.frame.WriteFault.{WriteFault}
use Rattle.lsp_message.specs.declared.frame.limits.Limits.{Limits}
use Rattle.lsp_session.specs.Account.{Act, gave, took, lost, InOrder}
use Rattle.lsp_session.specs.Event.{Event, message, closed, woken}
use Rattle.lsp_session.specs.Passing.{is_bad_content}
use Rattle.lsp_session.specs.SessionOutcome.{StopsFor}
use Rattle.lsp_session.specs.Session.{Exchange, SessionAnswer, SessionPart, Stop}
use Rattle.lsp_session.specs.SessionFault.{session_answer}
use Rattle.lsp_session.specs.declared.loops.handler.SessionEnd.{SessionEnd}
use Rattle.lsp_session.specs.declared.loops.session_outcome.StopReason.{StopReason}
use Rattle.lsp_session.specs.declared.loops.stream_session.SessionFault.{SessionFault}
use Rattle.lsp_session.specs.declared.loops.ReadEnd.{ReadEnd}
use Rattle.lsp_session.specs.declared.loops.ReadEnd.TheVariants.{Exit, End, Fault}

-- an act, and the parts that passed in it
abbrev pub Note : Type 0
Note = Act × Parts

-- The parts that were given for a message, before and after which the writes had failed so: a frame of it, which was
-- flushed; if it was refused, a prefix of one. Once a write has failed, each message is refused, and nothing is given.
abbrev pub SentParts : Option WriteFault → Act → Option WriteFault → Parts → Type 0
SentParts None (took m) new parts = IsFrameOf m (concat parts) × (shows_end parts ≡ true) × (new ≡ None)
SentParts None (lost m) (Some fault) parts = WritesParts m (Err fault) parts
SentParts (Some fault) (lost m) new parts = (parts ≡ []) × (new ≡ Some fault)
SentParts old act new parts = ⊥

-- the parts of a frame have at most so many bytes
module _ (limit : Limits) where
  -- the parts are those of this outcome of a read
  abbrev pub AreOf : Result (Option Message) ReadFault → Parts → Type 0
  AreOf outcome parts = IsOfParts (λ m. m) (reading_within limit) outcome parts

  -- The parts that were taken in one read of a message, before and after which the messages had these ends. Once they
  -- have ended nothing is taken. For a private clause.
  abbrev pub ReadParts : {X : Type 0} → (X → Message) → Option ReadEnd → Result (Option X) ReadFault → Option ReadEnd
      → Parts → Type 0
  ReadParts view None (Ok None) new parts = (new ≡ Some End) × AreOf (Ok None) parts
  ReadParts view None outcome new parts = IsOfParts view (reading_within limit) outcome parts
  ReadParts view (Some end) outcome new parts = (outcome ≡ Ok None) × (new ≡ Some end) × (parts ≡ [])

  -- The parts that were taken for an event, before and after which the messages had these ends: those of a message, of
  -- a content part that was skipped, of the end of the input or of a fault. Once the messages have ended nothing is
  -- taken.
  abbrev pub EventParts : Option ReadEnd → Event → Option ReadEnd → Parts → Type 0
  EventParts None (message m) new parts = AreOf (Ok (Some m)) parts
  EventParts None woken new parts = (fault : ReadFault) × (is_bad_content fault ≡ true) × AreOf (Err fault) parts
  EventParts None closed (Some End) parts = AreOf (Ok None) parts
  EventParts None closed (Some (Fault fault)) parts = AreOf (Err fault) parts
  EventParts None event new parts = ⊥
  EventParts (Some end) event new parts = (event ≡ closed) × (parts ≡ [])

  -- What a policy allowed at an event. A wake-up reports a content part that is no message, with a fault that the
  -- policy allows to be skipped. At each other event the policy stays as it is.
  abbrev pub AllowsAt : {L : Type 0} → (L → ReadFault → L → Type 0) → L → Event → L → Parts → Type 0
  AllowsAt passes old woken new parts =
      (fault : ReadFault) × (is_bad_content fault ≡ true) × AreOf (Err fault) parts × passes old fault new
  AllowsAt passes old event new parts = new ≡ old

  -- What is said of the parts that were taken for an event, of what ended the messages and of the policy.
  abbrev pub TakenFor : {L : Type 0} → (L → ReadFault → L → Type 0) → Option ReadEnd × L → Event → Option ReadEnd × L
      → Parts → Type 0
  TakenFor passes old event new parts = EventParts old.0 event new.0 parts × AllowsAt passes old.1 event new.1 parts

  -- Which content parts were skipped, and that the policy allowed each: it went so from old to new, content part after
  -- content part. A policy that counts them has counted just these.
  abbrev pub AsksPolicy : {L : Type 0} → (L → ReadFault → L → Type 0) → L → List Note → L → Type 0
  AsksPolicy passes old [] new = new ≡ old
  AsksPolicy {L} passes old ((gave event, parts) ∷ notes) new = (mid : L) × AllowsAt passes old event mid parts
      × AsksPolicy passes mid notes new
  AsksPolicy passes old ((act, parts) ∷ notes) new = AsksPolicy passes old notes new

  -- what ended the messages after an event, if this did before it
  abbrev pub EndsAfter : Option ReadEnd → Event → Option ReadEnd → Type 0
  EndsAfter None (message m) new = new ≡ (if is_exit m then Some Exit else None)
  EndsAfter None woken new = new ≡ None
  EndsAfter None event new = Unit {0}
  EndsAfter (Some end) event new = new ≡ Some end

  -- What the parts of the acts are, one after another, from what had ended the messages and the writes before them to
  -- what had after them.
  abbrev pub TellsActs : Option ReadEnd × Option WriteFault → List Note → Option ReadEnd × Option WriteFault → Type 0
  TellsActs old [] new = new ≡ old
  TellsActs old ((gave event, parts) ∷ notes) new = (end : Option ReadEnd) × EventParts old.0 event end parts
      × EndsAfter old.0 event end × TellsActs (end, old.1) notes new
  TellsActs old ((act, parts) ∷ notes) new = (fault : Option WriteFault) × SentParts old.1 act fault parts
      × TellsActs (old.0, fault) notes new

-- the acts alone
abbrev pub acts_in : List Note → List Act
acts_in notes = map (λ note. note.0) notes

-- no content part was skipped
abbrev pub SkipsNothing : List Note → Type 0
SkipsNothing [] = Unit {0}
SkipsNothing ((gave woken, parts) ∷ notes) = ⊥
SkipsNothing ((act, parts) ∷ notes) = SkipsNothing notes

-- all bytes that were taken
abbrev pub bytes_taken : List Note → List ℕ
bytes_taken [] = []
bytes_taken ((gave event, parts) ∷ notes) = concat parts ++ bytes_taken notes
bytes_taken ((act, parts) ∷ notes) = bytes_taken notes

-- all bytes that were given
abbrev pub bytes_given : List Note → List ℕ
bytes_given [] = []
bytes_given ((gave event, parts) ∷ notes) = bytes_given notes
bytes_given ((act, parts) ∷ notes) = concat parts ++ bytes_given notes

-- A session in its bytes: the acts are those of the session's exchanges, in order, and the bytes of each are stated.
-- Its result is why it stopped, and what ended the messages and the writes.
pub record ToldSession (limit : Limits) (P : SessionPart) (notes : List Note) (result : Result SessionEnd
    SessionFault) : Type 0 where
  pub exchanges : List Exchange
  pub stop : Stop
  pub answer : SessionAnswer
  pub part : P exchanges stop answer
  pub in_order : InOrder (acts_in notes) exchanges stop answer
  pub end : Option ReadEnd
  pub fault : Option WriteFault
  pub told : TellsActs limit (None, None) notes (end, fault)
  pub reason : StopReason
  pub stops : StopsFor reason exchanges stop answer
  pub is : result ≡ session_answer reason answer end fault

-- These are all bytes that passed: the reader gave those that were taken, and the writer got those that were given, as
-- far as their bytes are known.
abbrev pub Passes : List Note → Option (List ℕ) → Option (List ℕ) → Option (List ℕ) → Option (List ℕ) → Type 0
Passes notes text left before after = Consumes text left (bytes_taken notes) × Appends before after (bytes_given notes)
