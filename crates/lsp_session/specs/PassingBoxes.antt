-- An inbox on a reader that may skip content parts which are no messages, as contracts see it.
use Rattle.std.specs.Prelude.{◌≡◌, ◌⊎◌, ℕ, List, true, Option, Some, None, Result, Ok, Err}
use Rattle.lsp_message.specs.declared.frame.ReadFault.{ReadFault}
use Rattle.lsp_message.specs.Message.{Message}
use Rattle.lsp_session.specs.Event.{Event, message, closed}
use Rattle.lsp_session.specs.Streams.{Stream, StreamGives, Reads}
use Rattle.lsp_session.specs.Passing.{ended_at_content, TolerantGives}
use Rattle.lsp_session.specs.declared.loops.ReadEnd.{ReadEnd}
use Rattle.lsp_session.specs.declared.loops.ReadEnd.TheVariants.{Fault}
use Rattle.lsp_session.specs.declared.loops.tolerant_inbox.TolerantInbox.{TolerantInbox}

-- A call ended the messages at no content part that is no message. For a private clause.
abbrev pub NeverEndsAtContent : {R L : Type 0} → TolerantInbox R L → TolerantInbox R L → Type 0
NeverEndsAtContent old new = ended_at_content new.end ≡ true → new.end ≡ old.end

-- the policy may end the messages so
abbrev pub MayEnd : {L : Type 0} → (L → ReadFault → Type 0) → L → Option ReadEnd → Type 0
MayEnd ends l (Some (Fault fault)) = ends l fault
MayEnd ends l end = ⊥

-- A call ended the messages at a content part that is no message only if the policy may end them.
abbrev pub EndsAtContent : {R L : Type 0} → (L → ReadFault → Type 0) → TolerantInbox R L
    → TolerantInbox R L → Type 0
EndsAtContent ends old new = ended_at_content new.end ≡ true → (new.end ≡ old.end)
    ⊎ MayEnd ends old.policy.now new.end

-- what a read gives that did not fail, if this says which message was read
abbrev pub next_view : {X : Type 0} → (X → Message) → Option X → Event
next_view view (Some x) = message (view x)
next_view view None = closed

module _ {R L : Type 0} (remaining : R → Option (List ℕ)) where
  -- what is seen of the inbox's reader
  abbrev pub stream_of : TolerantInbox R L → Stream
  stream_of inbox = record { remaining = remaining inbox.reader.now; end = inbox.end }

  -- the reader and the policy that were lent are kept, and the limit
  abbrev pub KeepsLent : TolerantInbox R L → TolerantInbox R L → Type 0
  KeepsLent old new =
      (new.reader.ghost_name ≡ old.reader.ghost_name)
      × (new.policy.ghost_name ≡ old.policy.ghost_name) × (new.limits ≡ old.limits)

  -- One read returns a message, or that the messages ended, or a fault that ends nothing yet. The policy allows nothing
  -- to be skipped. For a private clause.
  abbrev pub ReadsNext : {X : Type 0} → (X → Message) → TolerantInbox R L → Result (Option X) ReadFault
      → TolerantInbox R L → Type 0
  ReadsNext view old (Ok next) new =
      StreamGives old.limits (stream_of old) (next_view view next) (stream_of new)
      × (new.policy.now ≡ old.policy.now) × KeepsLent old new
  ReadsNext view old (Err fault) new =
      Reads old.limits (remaining old.reader.now) (Err fault) (remaining new.reader.now)
      × (old.end ≡ None) × (new.end ≡ None)
      × (new.policy.now ≡ old.policy.now) × KeepsLent old new

  -- one receive
  abbrev pub TolerantInboxGives : (L → ReadFault → L → Type 0) → TolerantInbox R L → Event
      → TolerantInbox R L → Type 0
  TolerantInboxGives passes old event new =
      TolerantGives passes old.limits (stream_of old, old.policy.now) event
      (stream_of new, new.policy.now) × KeepsLent old new
