-- The caller's ends of a session in threads as one value, as contracts see it: the inbox over content parts, and the
-- outbox, of which nothing is held when the inbox waits.
use Rattle.std.specs.Prelude.{◌≡◌, [], ◌∷◌, None, Some, Result, Ok, Err}
use Rattle.lsp_calls.specs.declared.call_text.CallContent.{CallContent}
use Rattle.lsp_message.specs.declared.frame.ReadFault.{ReadFault}
use Rattle.lsp_relay.specs.Relay.{IsLearned, Source}
use Rattle.lsp_session.specs.Boxes.{Sends}
use Rattle.lsp_session.specs.Event.{Event, arrival_view}
use Rattle.lsp_session.specs.Session.{SessionPart}
use Rattle.lsp_session.specs.declared.lifecycle.Arrival.{Arrival}
use Rattle.lsp_session.specs.declared.lifecycle.Arrival.TheVariants as arrives
use Rattle.lsp_threads.specs.Contents.{ComesNext, ContentsGive, ContentsListen, limits_of, MaySend, parts_of, Receiving}
use Rattle.lsp_threads.specs.Order.{MarksAnswer}
use Rattle.lsp_threads.specs.Replies.{RepliesSend}
use Rattle.lsp_threads.specs.Writes.{AddsMark, KeepsMarks}
use Rattle.lsp_threads.specs.declared.thread_ends.ThreadEnds.{ThreadEnds}

-- For a private clause: what arrived is no content part.
abbrev pub IsNoCall : Result Arrival ReadFault → Type 0
IsNoCall arrived = (content : CallContent) → arrived ≡ Ok (arrives.Call content) → ⊥

module _ {R L : Type 0} where
  -- what is seen of the inbox, and its policy
  abbrev pub seen_of : ThreadEnds R L → Receiving × L
  seen_of inbox =
      let parts = inbox.parts.now in (
        record {
          relay = parts.relay;
          taken = parts.taken;
          waiting = parts.waiting;
          end = inbox.end;
          wakes = parts.wakes;
        },
        inbox.policy.now,
      )

  -- the relay's end, the policy and the outbox that were lent are kept
  abbrev pub KeepsLent : ThreadEnds R L → ThreadEnds R L → Type 0
  KeepsLent old new = (new.parts.ghost_name ≡ old.parts.ghost_name)
      × (new.policy.ghost_name ≡ old.policy.ghost_name)
      × (new.outbox.ghost_name ≡ old.outbox.ghost_name)

  -- nothing that was sent is held, unless a content part is at hand
  abbrev pub IsReadyToWait : ThreadEnds R L → Type 0
  IsReadyToWait ends = ends.parts.now.waiting ≡ [] → ends.outbox.now.held ≡ []

  -- One receive. It sends nothing, and if no content part was at hand, nothing that was sent is held.
  abbrev pub EndsGive : (L → ReadFault → L → Type 0) → ThreadEnds R L → Event → ThreadEnds R L → Type 0
  EndsGive passes old event new = ContentsGive passes (seen_of old) event (seen_of new)
      × (new.outbox.now.replies ≡ old.outbox.now.replies)
      × (old.parts.now.waiting ≡ [] → new.outbox.now.held ≡ [])
      × KeepsMarks old.outbox.now.marks new.outbox.now.marks × KeepsLent old new

  -- a wait for wakes too
  abbrev pub EndsListen : (L → ReadFault → Type 0) → ThreadEnds R L → Event → ThreadEnds R L → Type 0
  EndsListen ends old event new = ContentsListen ends (seen_of old) event (seen_of new)

  -- What is sent now is marked with what had been taken, of which the relay's plan is known.
  abbrev pub MarksTaken : ThreadEnds R L → ThreadEnds R L → Type 0
  MarksTaken old new =
      AddsMark old.outbox.now.marks (parts_of (seen_of old).0.taken) new.outbox.now.replies.bytes new.outbox.now.marks
      × IsLearned MaySend (seen_of old).0.relay.1 (seen_of old).0.relay.2 (seen_of old).0.taken (seen_of old).0.wakes

  -- one send, which takes nothing
  abbrev pub EndsSend : Sends (ThreadEnds R L)
  EndsSend old m outcome new = RepliesSend old.outbox.now.replies m outcome new.outbox.now.replies
      × (seen_of new ≡ seen_of old) × MarksTaken old new × KeepsLent old new

  -- nothing was taken or sent yet
  abbrev pub IsFresh : ThreadEnds R L → Type 0
  IsFresh ends = ((seen_of ends).0.taken ≡ []) × ((seen_of ends).0.waiting ≡ []) × ((seen_of ends).0.end ≡ None)
      × (ends.outbox.now.replies.bytes ≡ [])
      × (ends.outbox.now.marks ≡ record { taken = []; bytes = [] } ∷ [])

  -- of a session: what was sent answers what had been taken by then
  abbrev pub EndsInOrder : (L → ReadFault → L → Type 0) → ThreadEnds R L → ThreadEnds R L → SessionPart
  EndsInOrder passes old new exchanges stop answer =
      (source : Source) → (seen_of old).0.relay.1 ≡ Some source
      → MarksAnswer (seen_of old).0.relay.2 passes (limits_of source) source.0 (seen_of old).1 new.outbox.now.marks
      exchanges stop answer

  -- ---- for private clauses: what comes next, once all was handed over that had to be

  -- nothing is sent, and nothing handed over
  abbrev pub LeavesOutbox : ThreadEnds R L → ThreadEnds R L → Type 0
  LeavesOutbox old new = (new.outbox.now ≡ old.outbox.now) × KeepsLent old new

  abbrev pub GivesNext : (L → ReadFault → L → Type 0) → ThreadEnds R L → Event → ThreadEnds R L → Type 0
  GivesNext passes old event new = ContentsGive passes (seen_of old) event (seen_of new)
      × LeavesOutbox old new

  -- before the policy is asked
  abbrev pub ReadsNext : ThreadEnds R L → Result Arrival ReadFault → ThreadEnds R L → Type 0
  ReadsNext old (Ok arrival) new = ComesNext (seen_of old) (Ok (arrival_view arrival)) (seen_of new)
      × LeavesOutbox old new
  ReadsNext old (Err fault) new = ComesNext (seen_of old) (Err fault) (seen_of new)
      × LeavesOutbox old new
