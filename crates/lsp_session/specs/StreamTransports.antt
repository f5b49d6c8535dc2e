-- A transport over a reader and a writer, as contracts see it.
use Rattle.std.specs.Prelude.{◌≡◌, ℕ, List, [], ◌∷◌, ◌++◌, Option, None, IfSome, Result}
use Rattle.lsp_message.specs.Message.{Message}
use Rattle.lsp_message.specs.declared.frame.ReadFault.{ReadFault}
use Rattle.lsp_message.specs.Told.{Parts, Takes, Gives}
use Rattle.lsp_session.specs.Account.{Act, gave, sending, InOrder}
use Rattle.lsp_session.specs.ActBytes.{Note, AsksPolicy, TakenFor, SentParts, Passes, ToldSession, acts_in}
use Rattle.lsp_session.specs.Event.{Event}
use Rattle.lsp_session.specs.FrameBoxes.{FrameOutboxSends}
use Rattle.lsp_session.specs.PassingBoxes.{EndsAtContent, TolerantInboxGives}
use Rattle.lsp_session.specs.PassingBytes.{GivesAndTells}
use Rattle.lsp_session.specs.Session.{SessionPart, Phase, starting, replied, asked}
use Rattle.lsp_session.specs.SessionFailures.{AddsReads, AddsWrites}
use Rattle.lsp_session.specs.SessionLaws.{Both}
use Rattle.lsp_session.specs.Transcripts.{notes_of}
use Rattle.lsp_session.specs.declared.lifecycle.SendFault.{SendFault}
use Rattle.lsp_session.specs.declared.loops.frame_outbox.FrameOutbox.{FrameOutbox}
use Rattle.lsp_session.specs.declared.loops.handler.SessionEnd.{SessionEnd}
use Rattle.lsp_session.specs.declared.loops.stream_session.SessionFault.{SessionFault}
use Rattle.lsp_session.specs.declared.loops.stream_transport.StreamTransport.{StreamTransport}
use Rattle.lsp_session.specs.declared.loops.tolerant_inbox.TolerantInbox.{TolerantInbox}

-- The session stopped while it served its client, or since a message decided or was refused.
abbrev pub StopsServing : Phase → Type 0
StopsServing starting = ⊥
StopsServing replied = ⊥
StopsServing (asked i) = ⊥
StopsServing phase = Unit {0}

module _ {R W L : Type 0} where
  -- the transport as an inbox
  abbrev pub inbox_of : StreamTransport R W L → TolerantInbox R L
  inbox_of t = record { alloc = t.alloc; reader = t.reader; policy = t.policy; limits = t.limits; end = t.end }

  -- the transport as an outbox
  abbrev pub outbox_of : StreamTransport R W L → FrameOutbox W
  outbox_of t = record { alloc = t.alloc; writer = t.writer; fault = t.fault }

  -- what the transport did, in order
  abbrev pub account_of : StreamTransport R W L → List Act
  account_of t = acts_in (notes_of t.transcript.now)

  -- it read and wrote nothing yet
  abbrev pub IsUnused : StreamTransport R W L → Type 0
  IsUnused t = (t.end ≡ None) × (t.fault ≡ None) × (notes_of t.transcript.now ≡ [])

  -- It reads from the same reader, writes to the same writer, asks the same policy, and adds to the same transcript.
  abbrev pub KeepsEnds : StreamTransport R W L → StreamTransport R W L → Type 0
  KeepsEnds old new =
      (new.reader.ghost_name ≡ old.reader.ghost_name) × (new.writer.ghost_name ≡ old.writer.ghost_name)
      × (new.policy.ghost_name ≡ old.policy.ghost_name)
      × (new.transcript.ghost_name ≡ old.transcript.ghost_name)

  -- One receive reads as an inbox over the reader does, writes nothing, and is added to the transcript with the bytes
  -- that were taken for it, and with the failures of the reader.
  abbrev pub StreamTransportGives : (R → Option (List ℕ)) → (L → ReadFault → L → Type 0)
      → StreamTransport R W L → Event → StreamTransport R W L → Type 0
  StreamTransportGives remaining passes old event new =
      TolerantInboxGives remaining passes (inbox_of old) event (inbox_of new)
      × (outbox_of new ≡ outbox_of old) × (new.transcript.ghost_name ≡ old.transcript.ghost_name)
      × ((parts : Parts) × (notes_of new.transcript.now ≡ notes_of old.transcript.now ++ (gave event, parts) ∷ [])
      × Takes parts [] parts (remaining old.reader.now) (remaining new.reader.now)
      × TakenFor old.limits passes (old.end, old.policy.now) event (new.end, new.policy.now) parts)
      × AddsReads event old.end new.end old.transcript.now new.transcript.now

  -- A wait that also gives wakes ended the messages at a content part that is no message only if the policy may end
  -- them.
  abbrev pub StreamTransportListens : (L → ReadFault → Type 0) → StreamTransport R W L → Event
      → StreamTransport R W L → Type 0
  StreamTransportListens ends old event new = EndsAtContent ends (inbox_of old) (inbox_of new)

  -- One send writes as an outbox over the writer does, reads nothing, and is added to the transcript with the bytes
  -- that were given for it, and with the failures of the writer.
  abbrev pub StreamTransportSends : (W → Option (List ℕ)) → StreamTransport R W L → Message
      → Result (Unit {0}) SendFault → StreamTransport R W L → Type 0
  StreamTransportSends contents old m outcome new =
      FrameOutboxSends contents (outbox_of old) m outcome (outbox_of new)
      × (inbox_of new ≡ inbox_of old) × (new.transcript.ghost_name ≡ old.transcript.ghost_name)
      × ((parts : Parts) × (notes_of new.transcript.now ≡ notes_of old.transcript.now ++ (
        sending m outcome,
        parts,
      ) ∷ [])
      × Gives parts [] parts (contents old.writer.now) (contents new.writer.now)
      × SentParts old.fault (sending m outcome) new.fault parts)
      × AddsWrites old.fault new.fault old.transcript.now new.transcript.now

  -- A session on a transport that was not used yet: the transcript has it, byte for byte, and the transport has the
  -- ends that it had. Each content part that was skipped is no message, and the policy allowed that.
  pub record Serves (passes : L → ReadFault → L → Type 0) (P : SessionPart) (old : StreamTransport R W L)
      (result : Result SessionEnd SessionFault) (new : StreamTransport R W L) : Type 0 where
    pub told : ToldSession old.limits P (notes_of new.transcript.now) result
    pub same_ends : KeepsEnds old new
    pub asked : AsksPolicy old.limits passes old.policy.now (notes_of new.transcript.now) new.policy.now

  -- the bytes of these notes are all that passed
  abbrev pub PassesBetween : (R → Option (List ℕ)) → (W → Option (List ℕ)) → List Note → StreamTransport R W L
      → StreamTransport R W L → Type 0
  PassesBetween remaining contents notes old new =
      Passes notes (remaining old.reader.now) (remaining new.reader.now) (contents old.writer.now)
      (contents new.writer.now)

  -- A session over a transport, bytes in to bytes out, if the reader's bytes are known.
  abbrev pub GivesBetween : (R → Option (List ℕ)) → (L → ReadFault → L → Type 0)
      → (W → Option (List ℕ)) → SessionPart → StreamTransport R W L → Result SessionEnd SessionFault
      → StreamTransport R W L → Type 0
  GivesBetween remaining passes contents P old result new =
      IfSome (remaining old.reader.now) (λ text.
      GivesAndTells passes old.limits P text (remaining new.reader.now)
      old.policy.now new.policy.now (contents old.writer.now)
      (contents new.writer.now) result)

  -- A session over a transport, bytes in to bytes out; and what the transport did is in order, for the same exchanges.
  abbrev pub GivesInOrder : (R → Option (List ℕ)) → (L → ReadFault → L → Type 0)
      → (W → Option (List ℕ)) → SessionPart → StreamTransport R W L → Result SessionEnd SessionFault
      → StreamTransport R W L → Type 0
  GivesInOrder remaining passes contents P old result new =
      GivesBetween remaining passes contents (Both P (InOrder (account_of new))) old result new
