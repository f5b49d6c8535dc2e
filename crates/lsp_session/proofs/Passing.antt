-- A session over a reader and a writer that passes over content parts, as its contract says it.
use Rattle.lsp_message.proofs.Contents.{frame_unread}
use Rattle.lsp_message.specs.Frame.{body_means, reading_within}
use Rattle.lsp_message.specs.Messages.{is_exit}
use Rattle.lsp_message.specs.Message.{Message}
use Rattle.lsp_message.specs.Reading.{Reading, StopsWithin}
use Rattle.lsp_message.specs.Written.{GetsFrames}
use Rattle.lsp_message.specs.declared.frame.ReadFault.TheVariants.{BodyNotText, NoJson, NoMessage, Batch}
use Rattle.lsp_message.specs.declared.frame.ReadFault.{ReadFault}
use Rattle.lsp_message.specs.declared.frame.WriteFault.TheVariants.{Output, Memory as NoMemory}
use Rattle.lsp_message.specs.declared.frame.WriteFault.{WriteFault}
use Rattle.lsp_message.specs.declared.frame.limits.Limits.{Limits}
use Rattle.lsp_session.proofs.Handing.{begins}
use Rattle.lsp_session.proofs.Lending.{over_as}
use Rattle.lsp_session.proofs.SessionGives.{no_timeout as stream_no_timeout, reads_within, closed_ends, decided_ends}
use Rattle.lsp_session.proofs.SessionGives.{EndsSo, NotRefused, GetsPart, gets_written, gets_keeps}
use Rattle.lsp_session.proofs.Waiting.{FoldsTo-split}
use Rattle.lsp_session.specs.Event.{Event, closed, message, timeout, woken}
use Rattle.lsp_session.specs.FrameBoxes.{FrameOutboxSends}
use Rattle.lsp_session.specs.Session.{Exchange, came_of, messages_of, sends_of, SessionAnswer, SessionPart, Stop}
use Rattle.lsp_session.specs.Session.{decided, no_more, timed_out, refused, exhausted, starting}
use Rattle.lsp_session.specs.SessionBytes.{ReadsMessage, LeftWithin, Ends, Wrote, Gives as SessionGives}
use Rattle.lsp_session.specs.SessionOutcome.{is_no_exit, StopsAtExit, reason_of, StopsFor}
use Rattle.lsp_session.specs.SessionFault.{session_answer}
use Rattle.lsp_session.proofs.Brought.{came_in, is_open, Brings, brought_by, Brought as Heard}
use Rattle.lsp_session.proofs.Got.{Got, got_by}
use Rattle.lsp_session.specs.SessionRun.{Runs}
use Rattle.lsp_session.specs.Streams.{Stream, StreamReads, Reads}
use Rattle.lsp_session.specs.declared.loops.ReadEnd.TheVariants.{Exit}
use Rattle.lsp_session.specs.declared.loops.ReadEnd.{ReadEnd}
use Rattle.lsp_session.specs.declared.loops.frame_outbox.FrameOutbox.{FrameOutbox}
use Rattle.lsp_session.specs.declared.loops.handler.SessionEnd.{SessionEnd}
use Rattle.lsp_session.specs.declared.loops.session_outcome.StopReason.{StopReason}
use Rattle.lsp_session.specs.declared.loops.stream_session.SessionFault.TheVariants.{Write, Memory}
use Rattle.lsp_session.specs.declared.loops.stream_session.SessionFault.{SessionFault}
use Rattle.lsp_session.specs.Passing.{is_bad_content, TolerantGives}
use Rattle.lsp_session.specs.PassingBoxes.{stream_of, TolerantInboxGives}
use Rattle.lsp_session.specs.PassingBytes.{SkipsNoContent, PassesOver, ReadsFrame, HearsLast, GivesAndTells}
use Rattle.lsp_session.specs.declared.loops.tolerant_inbox.TolerantInbox.{TolerantInbox}
use Rattle.std.proofs.Common.{◌≡◌, refl, sym, ◌∙◌, ap, subst, inl, inr, ◌⊎◌, ℕ, Bool, true, false, List, [], ◌∷◌, ◌++◌}
use Rattle.std.proofs.Common.{append-nil, Some, None, Option, IfSome}
use Rattle.std.proofs.lemmas.List.Elements.{filter_map-append}
use Rattle.std.specs.List.{FoldsTo, list_all, filter_map}
use Rattle.std.specs.Prelude.{Result, Ok, Err, MatchOption, if◌then◌else◌}

-- the first frame of a text is a message, or is passed over; or others woke the session, if they can, and nothing was
-- read
abbrev pub ReadsFrameOr : (others : Type 0) {L : Type 0} (passes : L → ReadFault → L → Type 0) (limit : Limits) → List ℕ
    × L → Option Message → List ℕ × L → Type 0
ReadsFrameOr others passes limit old (Some m) new = ReadsFrame passes limit old (Some m) new
ReadsFrameOr others passes limit old None new = (others × (new ≡ old)) ⊎ PassesOver passes limit old new

-- what an inbox gives that passes over content parts, and that others wake, if they can
abbrev pub GivesOr : (others : Type 0) {L : Type 0} (passes : L → ReadFault → L → Type 0) (limit : Limits) → Stream × L
    → Event → Stream × L → Type 0
GivesOr others passes limit old woken new = (others × (old.0.end ≡ None) × (new ≡ old)) ⊎ TolerantGives passes limit old
    woken new
GivesOr others passes limit old event new = TolerantGives passes limit old event new

-- the first frames of a text, one after another
abbrev pub ReadsFrames : (others : Type 0) {L : Type 0} (passes : L → ReadFault → L → Type 0) (limit : Limits) → List ℕ
    × L → List (Option Message) → List ℕ × L → Type 0
ReadsFrames others passes limit = FoldsTo (ReadsFrameOr others passes limit)

-- the messages of what came
abbrev messages_in : List (Option Message) → List Message
messages_in came = filter_map (λ (c : Option Message). c) came

module _ (others : Type 0) {L : Type 0} (passes : L → ReadFault → L → Type 0) (limit : Limits) where
  abbrev Gives : Stream × L → Event → Stream × L → Type 0
  Gives = GivesOr others passes limit

  -- what one that nobody wakes gives
  given : (event : Event) (old new : Stream × L) → TolerantGives passes limit old event new → Gives old event new
  given woken old new gives = inr gives
  given event old new gives = gives

  -- receives from an inbox, as they are seen, and the reader that it was lent
  seen_all : {R : Type 0} (remaining : R → Option (List ℕ)) (events : List Event) (old new : TolerantInbox R L)
      → old.limits ≡ limit
      → FoldsTo (TolerantInboxGives remaining passes) old events new
      → FoldsTo Gives (stream_of remaining old, old.policy.now) events (stream_of remaining new, new.policy.now)
      × (new.reader.ghost_name ≡ old.reader.ghost_name) × (new.policy.ghost_name ≡ old.policy.ghost_name)
  seen_all remaining [] old new limited run = (
    ap (λ (s : TolerantInbox _ L). (stream_of remaining s, s.policy.now))
        run,
    rw run refl,
    rw run refl,
  )
  seen_all remaining (event ∷ events) old new limited run =
      let rest = seen_all remaining events run.0 new (run.1.1.2 ∙ limited) run.2 in
      let mid : Stream × L = (stream_of remaining run.0, run.0.policy.now) in
      let first = given event (stream_of remaining old, old.policy.now) mid (rw limited at run.1.0) in
      ((mid, first, rest.0), rest.1 ∙ run.1.1.0, rest.2 ∙ run.1.1.1)

  unread : (fault : ReadFault) (text : List ℕ) → (reading_within limit text).outcome ≡ Err fault
      → reading_within limit text ≡ record { outcome = Err fault; rest = (reading_within limit text).rest }
  unread fault text is = ap (λ o. record { outcome = o; rest = (reading_within limit text).rest }) is

  -- a content part that was passed over
  of_body : (fault : ReadFault) (text : List ℕ) (left : Option (List ℕ)) → is_bad_content fault ≡ true
      → Reads limit (Some text) (Err fault) left
      → (reading_within limit text ≡ record { outcome = Err fault; rest = (reading_within limit text).rest })
      × (left ≡ Some (reading_within limit text).rest)
  of_body BodyNotText text left is reads = (unread BodyNotText text reads.0.0, reads.0.1)
  of_body NoJson text left is reads = (unread NoJson text reads.0.0, reads.0.1)
  of_body NoMessage text left is reads = (unread NoMessage text reads.0.0, reads.0.1)
  of_body Batch text left is reads = (unread Batch text reads.0.0, reads.0.1)
  of_body fault text left is reads = absurd (cc (is))

  passed : (fault : ReadFault) (text : List ℕ) (first last : L) (left : Option (List ℕ)) → is_bad_content fault ≡ true
      → Reads limit (Some text) (Err fault) left → passes first fault last
      → PassesOver passes limit (text, first) ((reading_within limit text).rest, last)
      × (left ≡ Some (reading_within limit text).rest)
  passed fault text first last left is reads policy = let read = of_body fault text left is reads in (
    (
      fault,
      is,
      read.0,
      policy,
    ),
    read.1,
  )

  -- an inbox that has ended gives nothing more
  ended_stays : (events : List Event) (end : ReadEnd) (old new : Stream × L) → old.0.end ≡ Some end → FoldsTo Gives old
      events new
      → list_all is_open events ≡ true
      → (events ≡ []) × (old ≡ new)
  ended_stays [] end old new is run still_open = (refl, run)
  ended_stays (woken ∷ events) end old new is run still_open = elim run.1 [
    | inl others ↦ absurd (going_on others.1)
    | inr passes ↦ absurd (going_on passes.4)
  ]
    where
      going_on : old.0.end ≡ None → ⊥
      going_on none = let never : ◌≡◌ {A = Option ReadEnd} (Some end) None = sym is ∙ none in cc (never)
  ended_stays (closed ∷ events) end old new is run still_open = absurd (cc (still_open))
  ended_stays (event ∷ events) end old new is run still_open = let step = rw is at run.1.0 in absurd (cc (step.0))

  -- what an inbox brought that may bring more, what it has left, and whether an `exit` came
  record Brought (text : List ℕ) (first : L) (came : List (Option Message)) (new : Stream × L) : Type 0 where
    at : List ℕ
    read : ReadsFrames others passes limit (text, first) came (at, new.1)
    left : new.0.remaining ≡ Some at
    end : new.0.end ≡ (if list_all is_no_exit (messages_in came) then None else Some Exit)

  module _ (m : Message) (text : List ℕ) (first : L) (mid new : Stream × L) (events : List Event)
      (run : FoldsTo Gives mid events new) (still_open : list_all is_open events ≡ true) where
    open_then : (b : Bool) → is_exit m ≡ b → mid.0.end ≡ (if b then Some Exit else None)
        → Reads limit (Some text) (Ok (Some m)) mid.0.remaining → mid.1 ≡ first
        → ((rest : List ℕ) → mid.0.end ≡ None → mid.0.remaining ≡ Some rest → Brought rest mid.1 (filter_map came_in
        events) new)
        → Brought text first (Some m ∷ filter_map came_in events) new
    open_then true exits is reads same later =
        let stays = ended_stays events Exit mid new is run still_open in
        rw (stays.0, sym stays.1) (record {
          at = (reading_within limit text).rest;
          read = (((reading_within limit text).rest, mid.1), (begins limit text m reads.0.0, same), refl);
          left = reads.0.1;
          end = rw (exits, is) refl;
        })
    open_then false exits is reads same later =
        let more = later (reading_within limit text).rest is reads.0.1 in
        record {
          at = more.at;
          read = (((reading_within limit text).rest, mid.1), (begins limit text m reads.0.0, same), more.read);
          left = more.left;
          end = rw exits more.end;
        }

  brought_open : (events : List Event) (text : List ℕ) (old new : Stream × L) → old.0.end ≡ None → old.0.remaining
      ≡ Some text → FoldsTo Gives old events new
      → list_all is_open events ≡ true → Brought text old.1 (filter_map came_in events) new
  brought_open [] text old new unended known run still_open = record {
    at = text;
    read = ap (λ (s : Stream × L). (text, s.1)) run;
    left = rw (sym run) known;
    end = rw (sym run) unended;
  }
  brought_open (closed ∷ events) text old new unended known run still_open = absurd (cc (still_open))
  brought_open (message m ∷ events) text old new unended known run still_open =
      let step = rw (unended, known) at run.1.0 in
      open_then m text old.1 run.0 new events run.2 still_open (is_exit m) refl step.0 step.1 run.1.1
      (λ rest still left. brought_open events rest run.0 new still left run.2 still_open)
  brought_open (woken ∷ events) text old new unended known run still_open = elim run.1 [
    | inl others ↦
        let more = brought_open events text run.0 new (rw others.2 unended) (rw others.2 known) run.2 still_open in
        record {
          at = more.at;
          read = ((text, run.0.1), inl (others.0, ap (λ (s : Stream × L). (text, s.1)) others.2), more.read);
          left = more.left;
          end = more.end;
        }
    | inr passes ↦
        let step = passed passes.0 text old.1 run.0.1 run.0.0.remaining passes.1 (rw known at passes.2) passes.3 in
        let more = brought_open events (reading_within limit text).rest run.0 new passes.5 step.1 run.2 still_open in
        record {
          at = more.at;
          read = (((reading_within limit text).rest, run.0.1), inr step.0, more.read);
          left = more.left;
          end = more.end;
        }
  ]
  brought_open (event ∷ events) text old new unended known run still_open = absurd (rw unended at run.1.0)

  -- the last of several events
  last_event : (earlier : List Event) (event : Event) (old new : Stream × L) → FoldsTo Gives old (earlier ++ event
      ∷ []) new
      → (mid : Stream × L) × FoldsTo Gives old earlier mid × Gives mid event new
  last_event earlier event old new run = let parts = FoldsTo-split Gives earlier (event ∷ []) old new run in (
    parts.0,
    parts.1,
    rw parts.2.2 at parts.2.1,
  )

  -- an inbox that reads has no timeouts
  no_timeout : (earlier : List Event) (old new : Stream × L) → FoldsTo Gives old (earlier ++ timeout ∷ []) new → ⊥
  no_timeout earlier old new run = let last = last_event earlier timeout old new run in stream_no_timeout limit last.0.0
      new.0 last.2.0

  module _ (text : List ℕ) (old new : Stream × L) (unended : old.0.end ≡ None) (known : old.0.remaining ≡ Some text)
      (events : List Event) (run : FoldsTo Gives old events new) where
    open_brought : (came : List (Option Message)) → filter_map came_in events ≡ came → list_all is_open events ≡ true
        → Brought text old.1 came new
    open_brought came brings still_open = rw brings at (brought_open events text old new unended known run still_open)

    -- what was left when the inbox told that no more come
    record ClosedAt (came : List (Option Message)) : Type 0 where
      at : List ℕ
      read : ReadsFrames others passes limit (text, old.1) came (at, new.1)
      reads : StreamReads limit (Some at) closed new.0.end new.0.remaining

    closed_at : (earlier : List Event) (came : List (Option Message)) → events ≡ earlier ++ closed ∷ []
        → list_all is_open earlier ≡ true
        → filter_map came_in events ≡ came
        → list_all is_no_exit (messages_in came) ≡ true → ClosedAt came
    closed_at earlier came cut still_open brings no_exit =
        let last = last_event earlier closed old new (rw cut at run) in
        let same : filter_map came_in earlier ≡ came = rw (
          sym brings,
          cut,
          filter_map-append came_in earlier (closed
              ∷ []),
          append-nil,
        ) refl in
        let brought = rw same at (brought_open earlier text old last.0 unended known last.1 still_open) in
        let unended' : last.0.0.end ≡ None = rw (brought.end, no_exit) refl in
        record {
          at = brought.at;
          read = subst (λ policy. ReadsFrames others passes limit (text, old.1) came (brought.at, policy))
              (sym last.2.1) brought.read;
          reads = rw (unended', brought.left) at last.2.0;
        }

    -- what a session read, what was left of it, and what the policy is then
    abbrev pub Reached : List (Option Message) → Stop → (List ℕ × L → Type 0) → Type 0
    Reached came stop Left = (at : List ℕ × L) × ReadsFrames others passes limit (text, old.1) came at
        × HearsLast passes limit stop at new.1 × Left at

    abbrev pub Within : List ℕ × L → Type 0
    Within at = StopsWithin new.0.remaining (reading_within limit at.0)

    open_within : (came : List (Option Message)) (b : Brought text old.1 came new) → Within (b.at, new.1)
    open_within came b = rw b.left (frame_unread body_means limit b.at)

    -- an allocation failed at a wake
    last_woken : (came : List (Option Message)) (before : List ℕ × L) (at : List ℕ) → ReadsFrames others passes limit
        (text, old.1) came before → new.0.remaining ≡ Some at
        → ReadsFrameOr others passes limit before None (at, new.1) → Reached came exhausted Within
    last_woken came before at read left (inl same) =
        let rest : at ≡ before.0 = ap (λ (a : List ℕ × L). a.0) same.1 in (
          before,
          read,
          inl (ap (λ (a : List ℕ × L). a.1) same.1),
          rw (left, rest) (frame_unread body_means limit
              before.0),
        )
    last_woken came before at read left (inr passes) =
        (before, read, inr (at, passes), ([], left ∙ ap (λ (r : Reading Message). Some r.rest) (sym passes.2)))

    -- the frames that were used, and what is left after them
    left_within : (came : List (Option Message)) (stop : Stop) → Brings events came stop → StopsAtExit stop
        (messages_in came)
        → Reached came stop Within
    left_within came no_more brought facts = elim brought.1 [
      | inl last ↦ let c = closed_at last.0 came last.1 last.2 brought.0 facts in
          ((c.at, new.1), c.read, refl, reads_within limit c.at new.0.end new.0.remaining c.reads)
      | inr many ↦ let all = open_brought came brought.0 many.1 in (
        (all.at, new.1),
        all.read,
        refl,
        open_within came all,
      )
    ]
    left_within came timed_out brought facts = absurd (no_timeout brought.1.0 old new (rw brought.1.1 at run))
    left_within came exhausted (None, brought, still_open) facts =
        let all = open_brought (came ++ None ∷ []) brought still_open in
        let parts = FoldsTo-split (ReadsFrameOr others passes limit) came (None ∷ []) (text, old.1) (all.at, new.1)
        all.read in
        last_woken came parts.0 all.at parts.1 all.left (rw parts.2.2 at parts.2.1)
    left_within came exhausted (Some next, brought, still_open) facts =
        let all = open_brought (came ++ Some next ∷ []) brought still_open in
        let parts = FoldsTo-split (ReadsFrameOr others passes limit) came (Some next ∷ []) (text, old.1) (all.at, new.1)
        all.read in
        let step = rw parts.2.2 at parts.2.1 in
        (parts.0, parts.1, inl step.1, ([], all.left ∙ ap (λ (r : Reading Message). Some r.rest) (sym step.0)))
    left_within came stop brought facts = let all = open_brought came brought.0 brought.1 in (
      (all.at, new.1),
      all.read,
      refl,
      open_within came all,
    )

    -- what is left if a write or an allocation failed
    pub left_after : (came : List (Option Message)) (stop : Stop) → Brings events came stop
        → StopsAtExit stop (messages_in came)
        → Reached came stop (λ at. LeftWithin limit stop at.0 new.0.remaining)
    left_after came decided brought facts = let all = open_brought came brought.0 brought.1 in (
      (all.at, new.1),
      all.read,
      refl,
      all.left,
    )
    left_after came (refused fault) brought facts = let all = open_brought came brought.0 brought.1 in (
      (all.at, new.1),
      all.read,
      refl,
      all.left,
    )
    left_after came no_more brought facts = left_within came no_more brought facts
    left_after came timed_out brought facts = absurd (no_timeout brought.1.0 old new (rw brought.1.1 at run))
    left_after came exhausted brought facts = left_within came exhausted brought facts

    module _ (came : List (Option Message)) (answer : SessionAnswer) (xs : List Exchange) (a b : Option (List ℕ))
        (wrote : GetsFrames (sends_of xs) a b) where
      abbrev pub Ended : Stop → List ℕ → Type 0
      Ended stop at = EndsSo limit answer xs a b wrote stop new.0.end new.0.remaining at

      -- as many were taken as can be counted
      many_ends : (all : Brought text old.1 came new) → StopsAtExit no_more (messages_in came) → Ended no_more all.at
      many_ends all facts = rw (all.end, facts) ((refl, open_within came all), wrote)

      -- no write failed
      pub frames_end : (stop : Stop) → Brings events came stop → NotRefused stop → StopsAtExit stop (messages_in came)
          → Reached came stop (λ at. Ended stop at.0)
      frames_end decided brought taken facts =
          let all = open_brought came brought.0 brought.1 in (
            (all.at, new.1),
            all.read,
            refl,
            decided_ends limit answer xs a b wrote new.0.end
                new.0.remaining all.at all.left,
          )
      frames_end no_more brought taken facts = elim brought.1 [
        | inl last ↦ let c = closed_at last.0 came last.1 last.2 brought.0 facts in (
          (c.at, new.1),
          c.read,
          refl,
          closed_ends limit answer xs a b wrote new.0.end
              new.0.remaining c.at c.reads,
        )
        | inr many ↦ let all = open_brought came brought.0 many.1 in (
          (all.at, new.1),
          all.read,
          refl,
          many_ends all facts,
        )
      ]
      frames_end timed_out brought taken facts = absurd (no_timeout brought.1.0 old new (rw brought.1.1 at run))
      frames_end (refused fault) brought taken facts = absurd taken
      frames_end exhausted brought taken facts =
          let left = left_within came exhausted brought facts in
          (left.0, left.1, left.2, (left.3, inl wrote))

-- A session that nobody wakes.
module _ {L : Type 0} (passes : L → ReadFault → L → Type 0) (limit : Limits) where
  -- so each wake is of a frame that was passed over
  alone : (came : List (Option Message)) (from to : List ℕ × L) → ReadsFrames ⊥ passes limit from came to
      → FoldsTo (ReadsFrame passes limit) from came to
  alone [] from to run = run
  alone (Some m ∷ came) from to run = (run.0, run.1, alone came run.0 to run.2)
  alone (None ∷ came) from to run = elim run.1 [
    | inl others ↦ absurd others.0
    | inr passes ↦ (run.0, passes, alone came run.0 to run.2)
  ]

  module _ {R W : Type 0} (remaining : R → Option (List ℕ)) (contents : W → Option (List ℕ)) (P Q : SessionPart)
      (reason : StopReason)
      (knows : (xs : List Exchange) (stop : Stop) (answer : SessionAnswer) → P xs stop answer
      → Q xs stop answer × StopsFor reason xs stop answer × StopsAtExit stop (messages_of xs))
      (inbox inbox' : TolerantInbox R L) (outbox outbox' : FrameOutbox W) (unended : inbox.end ≡ None)
      (limited : inbox.limits ≡ limit)
      (unfailed : outbox.fault ≡ None)
      (answer : SessionAnswer) (runs : Runs (TolerantInboxGives remaining passes) (FrameOutboxSends contents) P (
        inbox,
        outbox,
      ) answer (inbox', outbox')) where
    abbrev old : Option (List ℕ)
    old = contents outbox.writer.now

    abbrev new : Option (List ℕ)
    new = contents outbox'.writer.now

    abbrev before : Stream × L
    before = (stream_of remaining inbox, inbox.policy.now)

    abbrev after : Stream × L
    after = (stream_of remaining inbox', inbox'.policy.now)

    heard : Heard (TolerantInboxGives remaining passes) inbox runs.exchanges runs.stop inbox'
    heard = brought_by (TolerantInboxGives remaining passes) starting runs.exchanges runs.stop answer inbox inbox'
        runs.came

    got : Got (FrameOutboxSends contents) outbox runs.exchanges runs.stop outbox'
    got = got_by (FrameOutboxSends contents) runs.exchanges runs.stop answer outbox outbox' runs.went

    -- what a session over boxes comes to in bytes
    runs_give : (text : List ℕ) → remaining inbox.reader.now ≡ Some text
        → GivesAndTells passes limit Q text (remaining inbox'.reader.now) inbox.policy.now inbox'.policy.now
        (contents outbox.writer.now)
        (contents outbox'.writer.now)
        (session_answer reason answer inbox'.end outbox'.fault)
    runs_give text known =
        at outbox'.fault (gets_written contents outbox outbox' runs.exchanges runs.stop unfailed got)
      where
        run : FoldsTo (GivesOr ⊥ passes limit) before heard.events after
        run = (seen_all ⊥ passes limit remaining heard.events inbox inbox' limited heard.received).0

        known_of : Q runs.exchanges runs.stop answer × StopsFor reason runs.exchanges runs.stop answer
            × StopsAtExit runs.stop (messages_of runs.exchanges)
        known_of = knows runs.exchanges runs.stop answer runs.part

        gives : (result : Result SessionEnd SessionFault)
            → (at : List ℕ × L) × ReadsFrames ⊥ passes limit (text, inbox.policy.now) (came_of runs.exchanges) at
            × HearsLast passes limit runs.stop at inbox'.policy.now
            × Ends limit (remaining inbox'.reader.now) result answer runs.stop at.0
            → Wrote old new result runs.stop runs.exchanges
            → GivesAndTells passes limit Q text (remaining inbox'.reader.now) inbox.policy.now inbox'.policy.now old
            new result
        gives result reached wrote = record {
          exchanges = runs.exchanges;
          at = reached.0;
          read = alone (came_of runs.exchanges) (text, inbox.policy.now) reached.0 reached.1;
          stop = runs.stop;
          answer = answer;
          part = known_of.0;
          ends = (reached.3, reached.2);
          wrote = wrote;
        }

        at : (fault : Option WriteFault)
            → MatchOption fault (NotRefused runs.stop × GetsFrames (sends_of runs.exchanges) old new) (λ f. GetsPart f
            runs.exchanges old new)
            → GivesAndTells passes limit Q text (remaining inbox'.reader.now) inbox.policy.now
            inbox'.policy.now old new
            (session_answer reason answer inbox'.end fault)
        at None written =
            let all = frames_end ⊥ passes limit text before after unended known heard.events run (came_of
            runs.exchanges)
            answer runs.exchanges old new written.1
            runs.stop heard.brought written.0 known_of.2 in
            rw known_of.1 (gives (session_answer (reason_of runs.stop) answer inbox'.end None) (
              all.0,
              all.1,
              all.2,
              all.3.0,
            ) all.3.1)
        at (Some (Output kind)) unwritten =
            gives (Err (Write (Output kind)))
            (left_after ⊥ passes limit text before after unended known heard.events run (came_of runs.exchanges)
            runs.stop heard.brought known_of.2)
            (tt, unwritten.0, unwritten.1, unwritten.2, unwritten.3, unwritten.4)
        at (Some NoMemory) unwritten =
            gives (Err Memory) (left_after ⊥ passes limit text before after unended known heard.events run
            (came_of runs.exchanges) runs.stop heard.brought known_of.2)
            (inr (unwritten.0, unwritten.1, unwritten.2, unwritten.3, unwritten.4))

    -- the same of the reader and the writer that were lent, and of the policy
    pub session_gives : (first last : R) (first' last' : W) (policy policy' : L) → inbox.reader.now ≡ first
        → outbox.writer.now ≡ first'
        → inbox.policy.now ≡ policy
        → (inbox'.reader.ghost_name ≡ inbox.reader.ghost_name → last ≡ inbox'.reader.now)
        → (inbox'.policy.ghost_name ≡ inbox.policy.ghost_name → policy' ≡ inbox'.policy.now)
        → (outbox'.writer.ghost_name ≡ outbox.writer.ghost_name → last' ≡ outbox'.writer.now)
        → IfSome (remaining first) (λ text. GivesAndTells passes limit Q text (remaining last) policy policy'
        (contents first') (contents last')
        (session_answer reason answer inbox'.end outbox'.fault))
    session_gives first last first' last' policy policy' same same' untold named hearing named' =
        let seen = seen_all ⊥ passes limit remaining heard.events inbox inbox' limited heard.received in
        rw (
          named seen.1,
          hearing seen.2,
          named' (gets_keeps contents outbox outbox' runs.exchanges runs.stop unfailed got),
          sym same,
          sym same',
          sym untold,
        )
        (at (remaining inbox.reader.now) refl)
      where
        at : (known : Option (List ℕ)) → remaining inbox.reader.now ≡ known
            → IfSome known (λ text. GivesAndTells passes limit Q text (remaining inbox'.reader.now) inbox.policy.now
            inbox'.policy.now
            (contents outbox.writer.now)
            (contents outbox'.writer.now) (session_answer reason answer inbox'.end outbox'.fault))
        at None is = tt
        at (Some text) is = runs_give text is

-- A policy that passes over nothing: each frame is a message.
module _ {L : Type 0} (passes : L → ReadFault → L → Type 0) (never : SkipsNoContent passes) (limit : Limits) where
  reads_messages : (came : List (Option Message)) (from to : List ℕ × L)
      → FoldsTo (ReadsFrame passes limit) from came to → FoldsTo (ReadsMessage limit) from.0 came to.0
  reads_messages [] from to run = ap (λ (at : List ℕ × L). at.0) run
  reads_messages (Some m ∷ came) from to run = (run.0.0, run.1.0, reads_messages came run.0 to run.2)
  reads_messages (None ∷ came) from to run = absurd (never from.1 run.1.0 run.0.1 run.1.3)

  -- so the session passes over nothing
  pub none_passed : (P : SessionPart) (text : List ℕ) (left : Option (List ℕ)) (first last : L) (before after : Option
      (List ℕ)) (result : Result SessionEnd SessionFault)
      → GivesAndTells passes limit P text left first last before after result → SessionGives limit P text left before
      after result
  none_passed P text left first last held written result g = record {
    exchanges = g.exchanges;
    at = g.at.0;
    read = reads_messages (came_of g.exchanges) (text, first) g.at g.read;
    stop = g.stop;
    answer = g.answer;
    part = g.part;
    ends = g.ends.0;
    wrote = g.wrote;
  }

-- A session that is described otherwise, if the bytes are known.
pub told_as : (P Q : SessionPart)
    (to : (xs : List Exchange) (stop : Stop) (answer : SessionAnswer)
    → P xs stop answer → Q xs stop answer)
    {L : Type 0} (passes : L → ReadFault → L → Type 0) (limit : Limits) (known left : Option (List ℕ)) (first last : L)
    (before after : Option (List ℕ)) (result : Result SessionEnd SessionFault)
    → IfSome known (λ text. GivesAndTells passes limit P text left first last before after result)
    → IfSome known (λ text. GivesAndTells passes limit Q text left first last before after result)
told_as P Q to passes limit None left first last held written result gives = tt
told_as P Q to passes limit (Some text) left first last held written result gives = over_as P Q to (ReadsFrame passes
    limit) (text, first) _ _ gives
