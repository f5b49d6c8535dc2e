-- A session over a reader and a writer, as its contract says it.
use Rattle.lsp_message.specs.Frame.{reading_within}
use Rattle.lsp_message.specs.Message.{Message}
use Rattle.lsp_message.specs.Reading.{Answers, StopsWithin}
use Rattle.lsp_message.specs.Written.{GetsFrames, GetsFramesAndPart, Writes}
use Rattle.lsp_message.specs.declared.frame.ReadFault.TheVariants.{Input, Memory as NoMemoryToRead}
use Rattle.lsp_message.specs.declared.frame.ReadFault.{ReadFault}
use Rattle.lsp_message.specs.declared.frame.WriteFault.TheVariants.{Output, Memory as NoMemory}
use Rattle.lsp_message.specs.declared.frame.WriteFault.{WriteFault}
use Rattle.lsp_message.specs.declared.frame.limits.Limits.{Limits}
use Rattle.lsp_session.proofs.Got.{Got, all_taken, one_lost}
use Rattle.lsp_session.proofs.Handing.{breaks_off, taken_frames, taken_keeps, Appends-Keeps}
use Rattle.lsp_session.proofs.Ran.{IsWhole}
use Rattle.lsp_session.specs.Boxes.{Sends}
use Rattle.lsp_session.specs.Event.{Event, closed, timeout}
use Rattle.lsp_session.specs.Finish.{FinishAnswer, FinishesAt}
use Rattle.lsp_session.specs.FrameBoxes.{FrameOutboxSends, Told, kept_write}
use Rattle.lsp_session.specs.Session.{SessionAnswer, Exchange, sends_of, Stop, decided, no_more, refused}
use Rattle.lsp_session.specs.SessionBytes.{LeftAfter, Ends, Wrote, lost_of}
use Rattle.lsp_session.specs.SessionOutcome.{reason_of}
use Rattle.lsp_session.specs.SessionFault.{session_answer}
use Rattle.lsp_session.specs.StreamBoxes.{stream_of, StreamInboxGives}
use Rattle.lsp_session.specs.Streams.{Stream, StreamGives, StreamReads}
use Rattle.lsp_session.specs.declared.lifecycle.SendFault.TheVariants.{Closed as Shut, Memory as Full}
use Rattle.lsp_session.specs.declared.lifecycle.SendFault.{SendFault}
use Rattle.lsp_session.specs.declared.loops.ReadEnd.TheVariants.{End, Fault}
use Rattle.lsp_session.specs.declared.loops.ReadEnd.{ReadEnd}
use Rattle.lsp_session.specs.declared.loops.frame_outbox.FrameOutbox.{FrameOutbox}
use Rattle.lsp_session.specs.declared.loops.session_outcome.StopReason.TheVariants.{Decided, NoMore}
use Rattle.lsp_session.specs.declared.loops.stream_inbox.StreamInbox.{StreamInbox}
use Rattle.std.proofs.Common.{◌≡◌, refl, ◌∙◌, ap, inl, inr, ℕ, List, [], ◌∷◌, ◌++◌, Some, None, Option}
use Rattle.std.specs.Io.KnownBytes.{Keeps}
use Rattle.std.specs.List.{FoldsTo}
use Rattle.std.specs.Prelude.{Ok, Err, MatchOption}

module _ {R : Type 0} (remaining : R → Option (List ℕ)) (limit : Limits) where
  -- receives from an inbox over a reader, as they are seen, and the reader that it was lent
  pub streams_of : (events : List Event) (old new : StreamInbox R) → old.limits ≡ limit
      → FoldsTo (StreamInboxGives remaining) old events new
      → FoldsTo (StreamGives limit) (stream_of remaining old) events (stream_of remaining new) × (new.reader.ghost_name
      ≡ old.reader.ghost_name)
  streams_of [] old new limited run = (ap (λ (s : StreamInbox R). stream_of remaining s) run, rw run refl)
  streams_of (event ∷ events) old new limited run =
      let rest = streams_of events run.0 new (run.1.2 ∙ limited) run.2 in
      let first = rw limited at run.1.0 in
      ((stream_of remaining run.0, first, rest.0), rest.1 ∙ run.1.1)

  module _ {O : Type 0} (sends : Sends O) (first last : R) (old new : StreamInbox R) (before after : O)
      (limited : old.limits ≡ limit) (same : old.reader.now ≡ first) (named : new.reader.ghost_name
      ≡ old.reader.ghost_name → last ≡ new.reader.now) where
    pub finishes_over : (reply : Message) (answer : FinishAnswer) → FinishesAt (StreamInboxGives remaining) sends reply
        (old, before) answer (new, after)
        → (end : Option ReadEnd) × FinishesAt (StreamGives limit) sends reply (
          record {
            remaining = remaining first;
            end = old.end;
          },
          before,
        ) answer (record { remaining = remaining last; end = end }, after)
    finishes_over reply answer (inl sent) =
        let waits = sent.2 in
        let run = streams_of (waits.passed ++ sent.1 ∷ []) old new limited waits.received in
        rw (named run.1, ← same) (
          new.end,
          inl (
            sent.0,
            sent.1,
            record { passed = waits.passed; only_timeouts = waits.only_timeouts; received = run.0 },
            sent.3,
          ),
        )
    finishes_over reply answer (inr lost) =
        rw (named (ap (λ (s : StreamInbox R). s.reader.ghost_name) lost.3), ← same)
        (new.end, inr (lost.0, lost.1, lost.2, ap (λ (s : StreamInbox R). stream_of remaining s) lost.3))

-- an inbox that reads has no timeouts
pub no_timeout : (limit : Limits) (old new : Stream) → StreamGives limit old timeout new → ⊥
no_timeout limit old new gives = at old.end gives
  where
    at : (end : Option ReadEnd) → MatchOption end (StreamReads limit old.remaining timeout new.end new.remaining)
        (λ end. (timeout ≡ closed) × (new.end ≡ Some end) × Keeps old.remaining new.remaining) → ⊥
    at None gives = gives
    at (Some end) gives = cc (gives.0)

-- what is written of a message whose write failed so, behind these
abbrev PartOf : WriteFault → List Message → Message → Option (List ℕ) → Option (List ℕ) → Type 0
PartOf (Output kind) ms m old new = GetsFramesAndPart ms m old new
PartOf NoMemory ms m old new = GetsFrames ms old new

-- what is written of all that was offered if the write of the last message failed, which was refused
abbrev pub GetsPart : WriteFault → List Exchange → Option (List ℕ) → Option (List ℕ) → Type 0
GetsPart fault xs old new = (whole : List Message) × (last : Message) × (lost_of xs ≡ Some last)
    × (sends_of xs ≡ whole ++ last ∷ []) × PartOf fault whole last old new

-- the outbox refused no reply
abbrev pub NotRefused : Stop → Type 0
NotRefused (refused fault) = ⊥
NotRefused stop = Unit {0}

whole_not_refused : (stop : Stop) → IsWhole stop → NotRefused stop
whole_not_refused (refused fault) is = is
whole_not_refused stop is = tt

module _ {W : Type 0} (contents : W → Option (List ℕ)) where
  abbrev at : FrameOutbox W → Option (List ℕ)
  at outbox = contents outbox.writer.now

  -- a message that was refused, after those whose frames were written
  refused_part : (ms : List Message) (m : Message) (a b c : Option (List ℕ)) (back : SendFault)
      (fault : Option WriteFault) → GetsFrames ms a b → Writes m b (kept_write fault) c → Told (Err back) fault
      → MatchOption fault ⊥ (λ f. PartOf f ms m a c)
  refused_part ms m a b c (Shut back) None got writes told = told
  refused_part ms m a b c (Full back) None got writes told = told
  refused_part ms m a b c back (Some (Output kind)) got writes told = breaks_off ms m (Output kind) a b c got writes
  refused_part ms m a b c back (Some NoMemory) got writes told = (
    got.0,
    got.1,
    Appends-Keeps a b c got.0 got.2 writes,
  )

  module _ (old new : FrameOutbox W) (xs : List Exchange) (stop : Stop) (unfailed : old.fault ≡ None) where
    -- the output is written, or a part of it if a write failed
    abbrev pub IsWritten : Type 0
    IsWritten =
        MatchOption new.fault (NotRefused stop × GetsFrames (sends_of xs) (at old) (at new))
        (λ f. GetsPart f xs (at old) (at new))

    pub gets_written : Got (FrameOutboxSends contents) old xs stop new → IsWritten
    gets_written (all_taken taken none is_whole) =
        let frames = taken_frames contents old (sends_of xs) new unfailed taken in
        rw frames.0 (whole_not_refused stop is_whole, frames.1)
    gets_written (one_lost taken m fault mid run refuses cut lost tie) =
        let frames = taken_frames contents old taken mid unfailed run in
        let writes = rw frames.0 at refuses.0 in
        pick new.fault (refused_part taken m (at old) (at mid) (at new) fault new.fault frames.1 writes.0 writes.1)
      where
        pick : (f : Option WriteFault) → MatchOption f ⊥ (λ f. PartOf f taken m (at old) (at new))
            → MatchOption f (NotRefused stop × GetsFrames (sends_of xs) (at old) (at new)) (λ f. GetsPart f xs (at old)
            (at new))
        pick None never = absurd never
        pick (Some f) part = (taken, m, lost, cut, part)

    -- an outbox keeps the writer that it was lent
    pub gets_keeps : Got (FrameOutboxSends contents) old xs stop new
        → new.writer.ghost_name ≡ old.writer.ghost_name
    gets_keeps (all_taken taken none is_whole) = taken_keeps contents old (sends_of xs) new taken
    gets_keeps (one_lost taken m fault mid run refuses cut lost tie) = refuses.1 ∙ taken_keeps contents old taken mid
        run

module _ (limit : Limits) where
  -- a reading that failed
  unread_at : (fault : ReadFault) (at : List ℕ) → (reading_within limit at).outcome ≡ Err fault → reading_within limit
      at ≡ record { outcome = Err fault; rest = (reading_within limit at).rest }
  unread_at fault at is = ap (λ o. record { outcome = o; rest = (reading_within limit at).rest }) is

  -- What is left, and what was written, of a session that stopped so, whose messages ended so, and of which no write
  -- failed.
  module _ (answer : SessionAnswer) (xs : List Exchange) (a b : Option (List ℕ))
      (wrote : GetsFrames (sends_of xs) a b) where
    abbrev pub EndsSo : Stop → Option ReadEnd → Option (List ℕ) → List ℕ → Type 0
    EndsSo stop end left at =
        Ends limit left (session_answer (reason_of stop) answer end None) answer stop at
        × Wrote a b (session_answer (reason_of stop) answer end None) stop xs

    fault_ends : (fault : ReadFault) (left : Option (List ℕ)) (at : List ℕ) → Answers (λ (m : Message). m) (Err fault)
        left (reading_within limit at)
        → EndsSo no_more (Some (Fault fault)) left at
    fault_ends (Input kind) left at answers = ((refl, answers), wrote)
    fault_ends NoMemoryToRead left at answers = (answers, inl wrote)
    fault_ends fault left at answers = (
      (
        refl,
        (reading_within limit at).rest,
        unread_at fault at answers.0,
        answers.1,
      ),
      wrote,
    )

    -- no more came
    pub closed_ends : (end : Option ReadEnd) (left : Option (List ℕ)) (at : List ℕ) → StreamReads limit (Some at) closed
        end left → EndsSo no_more end left at
    closed_ends None left at reads = absurd reads
    closed_ends (Some End) left at reads =
        by_answer answer (
          (reading_within limit at).rest,
          ap (λ o. record { outcome = o; rest = (reading_within limit at).rest }) reads.0.0,
          reads.0.1,
        )
      where
        by_answer : (answer : SessionAnswer) → LeftAfter limit no_more at left
            → Ends limit left (session_answer NoMore answer (Some End) None) answer no_more at
            × Wrote a b (session_answer NoMore answer (Some End) None) no_more xs
        by_answer (Ok end) after = ((refl, after), wrote)
        by_answer (Err fault) after = ((refl, after), wrote)
    closed_ends (Some (Fault fault)) left at reads = fault_ends fault left at reads.0
    closed_ends (Some end) left at reads = absurd reads

    -- a message decided
    pub decided_ends : (end : Option ReadEnd) (left : Option (List ℕ)) (at : List ℕ) → left ≡ Some at
        → EndsSo decided end left at
    decided_ends end left at after = by_answer answer
      where
        by_answer : (answer : SessionAnswer)
            → Ends limit left (session_answer Decided answer end None) answer decided at
            × Wrote a b (session_answer Decided answer end None) decided xs
        by_answer (Ok end) = ((refl, after), wrote)
        by_answer (Err fault) = ((refl, after), wrote)

  -- no byte after the message that was read last was taken
  pub reads_within : (at : List ℕ) (end : Option ReadEnd) (left : Option (List ℕ)) → StreamReads limit (Some at) closed
      end left → StopsWithin left (reading_within limit at)
  reads_within at None left reads = absurd reads
  reads_within at (Some End) left reads = ([], reads.0.1)
  reads_within at (Some (Fault fault)) left reads = fault_within fault reads.0
    where
      fault_within : (fault : ReadFault) → Answers (λ (m : Message). m) (Err fault) left (reading_within limit at)
          → StopsWithin left (reading_within limit at)
      fault_within (Input kind) answers = answers
      fault_within NoMemoryToRead answers = answers
      fault_within fault answers = ([], answers.1)
  reads_within at (Some end) left reads = absurd reads
