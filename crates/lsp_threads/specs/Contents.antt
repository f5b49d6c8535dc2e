-- Content parts that a relay carries as bytes, several in one parcel (LSP 3.17, "Content Part").
use Rattle.std.specs.Bool.{MatchBool}
use Rattle.std.specs.Prelude.{◌≡◌, ◌≤◌, ◌+◌, ◌⊎◌, ◌||◌, ℕ, Bool, true, false, List, [], ◌∷◌, ◌++◌, map, Option, Some}
use Rattle.std.specs.Prelude.{None, is_some, Result, Ok, Err, Vec, if◌then◌else◌}
use Rattle.std.specs.List.{concat, FoldsTo}
use Rattle.std.specs.declared.alloc.Global.{Global}
use mathlib.Core.List.{IsPrefix}
use Rattle.lsp_message.specs.Frame.{body_means, content_within, reading_within}
use Rattle.lsp_message.specs.Message.{Message}
use Rattle.lsp_message.specs.Methods.{is_exit}
use Rattle.lsp_message.specs.ReadingSteps.{Decodes}
use Rattle.lsp_message.specs.Told.{Parts}
use Rattle.lsp_message.specs.declared.frame.ReadFault.{ReadFault}
use Rattle.lsp_message.specs.declared.frame.ReadFault.TheVariants.{Input, Memory as NoMemory}
use Rattle.lsp_message.specs.declared.frame.limits.Limits.{Limits}
use Rattle.lsp_session.specs.Event.{Event, message, closed, woken}
use Rattle.lsp_session.specs.Passing.{ended_at_content, is_bad_content}
use Rattle.lsp_session.specs.PassingBoxes.{MayEnd}
use Rattle.lsp_session.specs.declared.loops.ReadEnd.{ReadEnd}
use Rattle.lsp_session.specs.declared.loops.ReadEnd.TheVariants.{Exit, End, Fault}
use Rattle.lsp_relay.specs.Relay.{Relay, ended, has_end, IsOpen, Sending, Source}
use Rattle.lsp_relay.specs.declared.ends.Parcel.{Parcel}
use Rattle.lsp_relay.specs.declared.ends.Parcel.TheVariants as parcel
use Rattle.lsp_threads.specs.declared.content_batch.Contents as outbox
use Rattle.lsp_threads.specs.declared.content_parts.Next.{Next}
use Rattle.lsp_threads.specs.declared.content_parts.Next.TheVariants as next
use Rattle.lsp_threads.specs.Passing.{OfTaken, TakenFrom}

-- ---- content parts in parcels

-- what one parcel carries
abbrev pub Contents : Type 0
Contents = outbox.Contents

-- the bytes of each content part
abbrev pub bytes_of : List (Vec ℕ Global) → List (List ℕ)
bytes_of contents = map (λ (content : Vec ℕ Global). content.items) contents

-- the content parts that parcels carry, in order
abbrev pub contents_of : List (Parcel Contents) → List (List ℕ)
contents_of [] = []
contents_of (parcel.Message contents ∷ rest) = bytes_of contents.parts.items ++ contents_of rest
contents_of (parcel.End ∷ rest) = contents_of rest

-- the bytes that were taken up to the end of the last parcel, or up to these if there is none
abbrev pub parts_after : Parts → List (Parcel Contents) → Parts
parts_after before [] = before
parts_after before (parcel.Message contents ∷ rest) = parts_after contents.taken.parts rest
parts_after before (parcel.End ∷ rest) = parts_after before rest

abbrev pub parts_of : List (Parcel Contents) → Parts
parts_of parcels = parts_after [] parcels

-- ---- the thread that reads

-- the parts of a frame have at most so many bytes
module _ (limit : Limits) where
  -- Reading may stop so at this text: at its end, or at a frame that can't be read. At a content part that was read to
  -- its end and is no message it may not: that one is handed on, and the session finds what it is. A reader that fails
  -- and an allocation that fails may stop reading anywhere.
  abbrev pub StopsAt : List ℕ → ReadEnd → Type 0
  StopsAt text End = (rest : List ℕ)
      × (reading_within limit text ≡ record { outcome = Ok None; rest = rest })
  StopsAt text (Fault (Input kind)) = Unit {0}
  StopsAt text (Fault NoMemory) = Unit {0}
  StopsAt text (Fault fault) =
      (is_bad_content fault ≡ false) × (rest : List ℕ)
      × (reading_within limit text ≡ record { outcome = Err fault; rest = rest })
  StopsAt text end = ⊥

  -- the text begins with a frame of this content part, and the rest follows it
  abbrev pub BeginsWithContent : List ℕ → List ℕ → List ℕ → Type 0
  BeginsWithContent text content rest =
      content_within limit text ≡ record { outcome = Ok (Some content); rest = rest }

  -- the text begins with frames of these content parts, messages or not, and reading stopped so after them
  abbrev pub ReadsContents : List ℕ → ReadEnd → List (List ℕ) → Type 0
  ReadsContents text end [] = StopsAt text end
  ReadsContents text end (content ∷ more) =
      (rest : List ℕ) × BeginsWithContent text content rest × ReadsContents rest end more

  -- For private clauses: what was sent on a relay is the content parts of the text, up to where reading stopped so, and
  -- then End. No waker was made.
  abbrev pub HandsWhole : List ℕ → Sending Contents → ReadEnd → Sending Contents → Type 0
  HandsWhole text old end new =
      ((parcels : List Contents) × (new.sent ≡ ended parcels))
      × ReadsContents text end (contents_of new.sent) × (new.wakeable ≡ old.wakeable)

  -- No waker was made. If End was sent on a relay, what was sent before it is the content parts of the bytes that were
  -- taken, up to where reading stopped so.
  abbrev pub TellsContents : Option (List ℕ) → Sending Contents → ReadEnd → Parts
      → Sending Contents → Type 0
  TellsContents known old end taken new =
      (new.wakeable ≡ old.wakeable) × TakenFrom known taken
      × (has_end new.sent ≡ true → ((parcels : List Contents) × (new.sent ≡ ended parcels))
      × OfTaken taken (λ text. ReadsContents text end (contents_of new.sent)))

  -- the bytes that were taken are just frames of these content parts
  abbrev pub AreContents : Parts → List (List ℕ) → Type 0
  AreContents taken contents = (rest : List ℕ)
      → FoldsTo BeginsWithContent (concat taken ++ rest) contents rest

-- what content parts are read of: bytes, if they are known, within limits
abbrev pub source_of : Option (List ℕ) → Limits → Source
source_of known limit = (known, (limit.header, limit.content))

abbrev pub limits_of : Source → Limits
limits_of source = record { header = source.1.0; content = source.1.1 }

-- A session's plan: what is sent are content parts of the bytes that were taken up to their end.
abbrev pub BeginsSource : Source → List (List ℕ) → Parts → Type 0
BeginsSource source contents taken = AreContents (limits_of source) taken contents × TakenFrom source.0 taken

abbrev pub MaySend : Source → List (Parcel Contents) → Type 0
MaySend source sent = IsOpen sent → BeginsSource source (contents_of sent) (parts_of sent)

-- the same, if there is a plan
abbrev pub BeginsAny : Option Source → List (List ℕ) → Parts → Type 0
BeginsAny source contents taken = (known : Source) → source ≡ Some known
    → BeginsSource known contents taken

-- the end's plan is of these bytes and these limits
abbrev pub ReadsFor : Option (List ℕ) → Limits → Sending Contents → Type 0
ReadsFor known limit tx = tx.source ≡ Some (source_of known limit)

-- an outbox that gathers content parts, as callers see it: those that were sent, and then those that wait to be sent
pub record Gathering : Type 0 where
  pub relay : Relay Contents × Option Source
  pub contents : List (List ℕ)
  pub wakeable : Bool
  pub closed : Bool

-- Unless the outbox is closed now, it was open, and has these content parts now; and it is an end of the same relay in
-- any case.
abbrev pub Stays : Gathering → List (List ℕ) → Gathering → Type 0
Stays old contents new = (new.relay ≡ old.relay) × (new.wakeable ≡ old.wakeable)
    × (new.closed ≡ false → (old.closed ≡ false) × (new.contents ≡ contents))

-- ---- the caller's inbox

-- which relay it is, what its plan is made of, and whether a waker was made before it had one
abbrev pub Lent : Type 0
Lent = Relay Contents × Option Source × Bool

-- The receiver's end of a relay, as callers see it: the parcels that were taken, the content parts of them that were
-- not given yet, and how many wakes were taken.
pub record Taking : Type 0 where
  pub relay : Lent
  pub taken : List (Parcel Contents)
  pub waiting : List (List ℕ)
  pub wakes : ℕ

-- For private clauses: how a session that takes no more leaves the thread that reads. What was taken is a beginning of
-- what would be sent if reading stopped so.
abbrev pub LeavesReading : Taking → Limits → Sending Contents → Option (List ℕ) → Parts → ReadEnd → Type 0
LeavesReading parts limit tx known taken end =
    (back : Sending Contents) × (parcels : List (Parcel Contents))
    × MatchBool (has_end parts.taken) (parcels ≡ parts.taken)
    ((more : List Contents) × (parcels ≡ parts.taken ++ ended more))
    × IsPrefix parcels back.sent × (back.wakeable ≡ false → parts.wakes ≡ 0)
    × OfTaken taken (λ text. HandsWhole limit text tx end back) × TakenFrom known taken

-- An inbox over it: what the end above has, and what ended the inbox's messages before the relay did.
pub record Receiving : Type 0 where
  pub relay : Lent
  pub taken : List (Parcel Contents)
  pub waiting : List (List ℕ)
  pub end : Option ReadEnd
  pub wakes : ℕ

-- it gives no message more
abbrev pub is_over : Receiving → Bool
is_over inbox = has_end inbox.taken || is_some inbox.end

-- parcels were taken, and these content parts come next then
abbrev pub Collects : List (Parcel Contents) → List (List ℕ) → List (Parcel Contents)
    → List (List ℕ) → Type 0
Collects old_taken old_waiting taken waiting =
    (more : List (Parcel Contents)) × (taken ≡ old_taken ++ more)
    × (old_waiting ++ contents_of more ≡ waiting)

-- For private clauses: what came next from the relay.
abbrev pub NextIs : List (Parcel Contents) → List (List ℕ) → ℕ → Next → List (Parcel Contents)
    → List (List ℕ) → ℕ → Type 0
NextIs old_taken old_waiting old_wakes (next.Content content) taken waiting wakes =
    Collects old_taken old_waiting taken (content.items ∷ waiting) × (has_end taken ≡ false)
    × (wakes ≡ old_wakes)
NextIs old_taken old_waiting old_wakes next.Wake taken waiting wakes =
    Collects old_taken old_waiting taken waiting × (has_end taken ≡ false) × (wakes ≡ old_wakes + 1)
NextIs old_taken old_waiting old_wakes next.End taken waiting wakes =
    Collects old_taken old_waiting taken [] × (has_end taken ≡ true) × (wakes ≡ old_wakes)

-- For private clauses: a content part gives a message, and `exit` is the last one; or it is none, or an allocation
-- failed at it, and no more come.
abbrev pub ArrivesAs : List ℕ → Event → Option ReadEnd → Type 0
ArrivesAs content (message m) end = (body_means content ≡ Ok m)
    × (end ≡ (if is_exit m then Some Exit else None))
ArrivesAs content closed (Some (Fault fault)) =
    Decodes (λ (m : Message). m) (Err fault) (body_means content)
ArrivesAs content event end = ⊥

module _ (old new : Receiving) where
  -- the next content part came
  abbrev pub TakesContent : List ℕ → Type 0
  TakesContent content = Collects old.taken old.waiting new.taken (content ∷ new.waiting)
      × (has_end new.taken ≡ false)

  -- it gave this event
  abbrev pub GivesContent : Event → Type 0
  GivesContent event = (content : List ℕ) × TakesContent content × ArrivesAs content event new.end

  -- all content parts were given, and then End was taken
  abbrev pub Drains : Type 0
  Drains = Collects old.taken old.waiting new.taken [] × (has_end new.taken ≡ true)
      × (new.end ≡ None)

  -- a wake of the relay came, and no content part was given
  abbrev pub TakesWake : Type 0
  TakesWake = Collects old.taken old.waiting new.taken new.waiting × (has_end new.taken ≡ false)
      × (new.end ≡ None) × (new.wakes ≡ old.wakes + 1)

-- of an inbox and its policy
module _ {L : Type 0} (passes : L → ReadFault → L → Type 0) where
  -- The next content part is no message. The policy is asked about it, and the messages go on. No wake of the relay was
  -- taken.
  abbrev pub PassesPart : Receiving × L → Receiving × L → Type 0
  PassesPart old new =
      (content : List ℕ) × (fault : ReadFault) × TakesContent old.0 new.0 content
      × (new.0.end ≡ None) × (new.0.wakes ≡ old.0.wakes)
      × (is_bad_content fault ≡ true) × (body_means content ≡ Err fault) × passes old.1 fault new.1

  -- Of an open inbox: it gives the message that the next content part is. It gives a wake for one of the relay, or for
  -- a content part that was passed over, and the policy passes nothing but of such a part. After `exit`, after a
  -- content part that is no message and was not passed over, and once End was taken it is over.
  abbrev pub OpenGives : Receiving × L → Event → Receiving × L → Type 0
  OpenGives old (message m) new = GivesContent old.0 new.0 (message m) × (new.1 ≡ old.1)
  OpenGives old closed new = (Drains old.0 new.0 ⊎ GivesContent old.0 new.0 closed)
      × (new.1 ≡ old.1)
  OpenGives old woken new = (TakesWake old.0 new.0 × (new.1 ≡ old.1)) ⊎ PassesPart old new
  OpenGives old event new = ⊥

  -- Once it is over it gives `closed`, and nothing changes. Wakes of the relay may be passed over before an event that
  -- is none.
  abbrev pub ContentsGive : Receiving × L → Event → Receiving × L → Type 0
  ContentsGive old event new =
      (new.0.relay ≡ old.0.relay) × (old.0.wakes ≤ new.0.wakes)
      × MatchBool (is_over old.0) ((event ≡ closed) × (new ≡ old)) (OpenGives old event new)

-- no wake of the relay is passed over; of a wake that is given the clause above says which it is
abbrev pub CountsWakes : Event → ℕ → ℕ → Type 0
CountsWakes woken old new = new ≤ old + 1
CountsWakes event old new = new ≡ old

-- A wait for wakes too passes over none, and the messages end at a content part that is no message only if the policy
-- may end them.
abbrev pub ContentsListen : {L : Type 0} → (L → ReadFault → Type 0) → Receiving × L → Event
    → Receiving × L → Type 0
ContentsListen ends old event new =
    CountsWakes event old.0.wakes new.0.wakes
    × (ended_at_content new.0.end ≡ true → (new.0.end ≡ old.0.end) ⊎ MayEnd ends old.1 new.0.end)

-- For private clauses: a policy that is not asked passes nothing.
abbrev pub HearsNothing : {L : Type 0} → L → ReadFault → L → Type 0
HearsNothing old fault new = ⊥

-- For private clauses: what comes next, before the policy is asked. At a fault a content part came that is no
-- message, or an allocation failed at it, and nothing has ended yet.
abbrev pub ComesNext : {L : Type 0} → Receiving × L → Result Event ReadFault → Receiving × L
    → Type 0
ComesNext old (Ok event) new =
    ContentsGive HearsNothing old event new × CountsWakes event old.0.wakes new.0.wakes
    × (ended_at_content new.0.end ≡ true → new.0.end ≡ old.0.end)
ComesNext old (Err fault) new =
    (is_over old.0 ≡ false)
    × ((content : List ℕ) × TakesContent old.0 new.0 content
    × Decodes (λ (m : Message). m) (Err fault) (body_means content))
    × (new.0.end ≡ None) × (new.0.wakes ≡ old.0.wakes) × (new.0.relay ≡ old.0.relay)
    × (new.1 ≡ old.1)
