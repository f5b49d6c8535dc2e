-- Replies that an outbox made frames of, and what is written of all that it was offered. A session over such an outbox,
-- as its contract says it.
use Rattle.std.proofs.Common.{◌≡◌, refl, sym, ◌∙◌, ap, inl, inr, append-nil, append_assoc, ℕ, Bool, true, false}
use Rattle.std.proofs.Common.{true≢false, List, [], ◌∷◌, ◌++◌, Some, None, Option, Result, Err}
use Rattle.std.specs.List.{FoldsTo}
use mathlib.Core.List.{IsPrefix}
use Rattle.lsp_message.specs.Message.{Message}
use Rattle.lsp_message.specs.Written.{AreFramesOf}
use Rattle.lsp_message.specs.declared.frame.ReadFault.{ReadFault}
use Rattle.lsp_message.specs.declared.frame.WriteFault.{WriteFault}
use Rattle.lsp_message.specs.declared.frame.WriteFault.TheVariants.{Output, Memory as NoMemory}
use Rattle.lsp_message.specs.declared.frame.limits.Limits.{Limits}
use Rattle.lsp_relay.specs.declared.ends.Parcel.{Parcel}
use Rattle.lsp_session.proofs.Passing.{frames_end, GivesOr, left_after, ReadsFrames}
use Rattle.lsp_session.proofs.SessionGives.{NotRefused}
use Rattle.lsp_session.specs.Boxes.{Sends, Receives, Takes}
use Rattle.lsp_session.specs.PassingBytes.{HearsLast}
use Rattle.lsp_session.specs.Session.{came_of, messages_of, sends_of, Exchange, SessionAnswer, SessionPart, Stop}
use Rattle.lsp_session.specs.Session.{refused, starting}
use Rattle.lsp_session.specs.SessionBytes.{LeftWithin, Wrote}
use Rattle.lsp_session.specs.SessionOutcome.{reason_of, StopsAtExit, StopsFor}
use Rattle.lsp_session.specs.SessionFault.{session_answer}
use Rattle.lsp_session.proofs.Brought.{Brought, brought_by}
use Rattle.lsp_session.proofs.Got.{Got, all_taken as all_got, one_lost}
use Rattle.lsp_session.proofs.Ran.{IsWhole as SessionIsWhole}
use Rattle.lsp_session.specs.SessionRun.{Runs}
use Rattle.lsp_session.specs.Streams.{Stream}
use Rattle.lsp_session.specs.declared.lifecycle.SendFault.{SendFault}
use Rattle.lsp_session.specs.declared.lifecycle.SendFault.TheVariants.{Closed as Shut, Memory as IsFull}
use Rattle.lsp_session.specs.declared.loops.handler.SessionEnd.{SessionEnd}
use Rattle.lsp_session.specs.declared.loops.session_outcome.StopReason.{StopReason}
use Rattle.lsp_session.specs.declared.loops.stream_session.SessionFault.{SessionFault}
use Rattle.lsp_session.specs.declared.loops.stream_session.SessionFault.TheVariants.{Write, Memory}
use Rattle.lsp_threads.proofs.Frames.{breaks, same_parcels}
use Rattle.lsp_threads.specs.Framing.{parcel_bytes, AreEnded, WritesBytes, WritesParcels}
use Rattle.lsp_threads.specs.Replies.{Replying, RepliesSend, reply_fault, IsWhole, WritesReplies}
use Rattle.lsp_threads.specs.Threads.{EndsInThreads, ReadsFrameOrWakes, ThreadsTellOver, WroteInThreads}
use Rattle.lsp_threads.specs.declared.frame_text.FrameText.{FrameText}

-- ---- what was sent
-- messages that an outbox took added their frames
taken_frames : (old new : Replying) (ms : List Message) → FoldsTo (Takes RepliesSend) old ms new
    → (new.relay ≡ old.relay) × ((text : List ℕ) × AreFramesOf ms text × (new.bytes ≡ old.bytes ++ text))
taken_frames old new [] run = (
  sym (ap (λ (r : Replying). r.relay) run),
  (
    [],
    refl,
    sym (ap (λ (r : Replying). r.bytes) run)
        ∙ sym (append-nil old.bytes),
  ),
)
taken_frames old new (m ∷ ms) run =
    let later = taken_frames run.0 new ms run.2 in
    let frame = run.1.3 in
    let frames = later.1 in (
      later.0 ∙ run.1.0,
      (
        frame.0 ++ frames.0,
        (frame.0, frames.0, frame.1, frames.1, refl),
        frames.2 ∙ ap (λ l. l ++ frames.0) frame.2 ∙ append_assoc old.bytes frame.0 frames.0,
      ),
    )

is_whole_here : (stop : Stop) → SessionIsWhole stop → IsWhole stop
is_whole_here (refused fault) is = is
is_whole_here stop is = tt

-- Of these messages the first ones were sent as frames: all of them, and no message was refused, unless the outbox says
-- that one was.
pub record Replied (old new : Replying) (stop : Stop) (ms : List Message) : Type 0 where
  pub same_relay : new.relay ≡ old.relay
  pub sent : List Message
  pub unsent : List Message
  pub cut : ms ≡ sent ++ unsent
  pub text : List ℕ
  pub frames : AreFramesOf sent text
  pub bytes : new.bytes ≡ old.bytes ++ text
  pub whole : new.failed ≡ false → (unsent ≡ []) × IsWhole stop

module _ (old mid new : Replying) (ms : List Message) (run : FoldsTo (Takes RepliesSend) old ms mid) where
  -- one message more was refused
  one_refused : (m : Message) (stop : Stop) (fault : SendFault) → RepliesSend mid m (Err fault) new
      → Replied old new stop (ms ++ m ∷ [])
  one_refused m stop (Shut back) refuses = absurd refuses
  one_refused m stop (IsFull back) refuses =
      let first = taken_frames old mid ms run in
      record {
        same_relay = ap (λ (r : Replying). r.relay) refuses ∙ first.0;
        sent = ms;
        unsent = m ∷ [];
        cut = refl;
        text = first.1.0;
        frames = first.1.1;
        bytes = ap (λ (r : Replying). r.bytes) refuses ∙ first.1.2;
        whole = λ none. absurd (true≢false (sym (ap (λ (r : Replying). r.failed) refuses) ∙ none));
      }

  -- no message follows
  all_taken : (stop : Stop) → IsWhole stop → new ≡ mid → Replied old new stop ms
  all_taken stop whole same =
      let first = taken_frames old mid ms run in
      record {
        same_relay = ap (λ (r : Replying). r.relay) same ∙ first.0;
        sent = ms;
        unsent = [];
        cut = sym (append-nil ms);
        text = first.1.0;
        frames = first.1.1;
        bytes = ap (λ (r : Replying). r.bytes) same ∙ first.1.2;
        whole = λ none. (refl, whole);
      }

pub all_replied : (old new : Replying) (xs : List Exchange) (stop : Stop) → Got RepliesSend old xs stop new
    → Replied old new stop (sends_of xs)
all_replied old new xs stop (all_got taken none is_whole) = all_taken old new new (sends_of xs) taken stop
    (is_whole_here stop is_whole) refl
all_replied old new xs stop (one_lost taken m fault mid run refuses cut lost tie) = rw cut (one_refused old mid new
    taken run m stop fault refuses)

-- ---- what was written
module _ (stop : Stop) (ms : List Message) (a b : Option (List ℕ)) where
  module _ (sent unsent : List Message) (cut : ms ≡ sent ++ unsent) (text : List ℕ) (frames : AreFramesOf sent
      text) where
    -- the thread that writes had no fault
    all_written : (failed : Bool) → (failed ≡ false → (unsent ≡ []) × IsWhole stop) → WritesBytes text None a b
        → WritesReplies stop ms (reply_fault None failed) a b
    all_written true whole written = (sent, unsent, cut, (text, frames, written))
    all_written false whole written =
        let all : ms ≡ sent = cut ∙ ap (λ l. sent ++ l) (whole refl).0 ∙ append-nil sent in
        ((whole refl).1, rw all (text, frames, written))

    -- or it had one
    some_written : (fault : WriteFault) → WritesBytes text (Some fault) a b → WritesReplies stop ms (Some fault) a b
    some_written (Output kind) (output, some, begun) =
        let broken = breaks sent text a b frames some begun in (
          broken.0,
          broken.1,
          broken.2 ++ unsent,
          cut ∙ ap (λ l. l ++ unsent) broken.3 ∙ append_assoc broken.0 (broken.1
              ∷ broken.2) unsent,
          broken.4,
        )
    some_written NoMemory (output, some, begun) = absurd output

    bytes_written : (fault : Option WriteFault) (failed : Bool) → (failed ≡ false → (unsent ≡ []) × IsWhole stop)
        → WritesBytes text fault a b
        → WritesReplies stop ms (reply_fault fault failed) a b
    bytes_written None failed whole written = all_written failed whole written
    bytes_written (Some fault) failed whole written = some_written fault written

  module _ (old new : Replying) (unsent : old.bytes ≡ []) (replied : Replied old new stop ms) (taken sent : List
      (Parcel FrameText))
      (all : parcel_bytes sent ≡ new.bytes) (ended : AreEnded sent) (settled : IsPrefix taken sent) where
    -- the output was written: the first fault is that of the thread that writes, or of the outbox
    pub replies_written : (fault : Option WriteFault) → WritesParcels taken fault a b → WritesReplies stop ms
        (reply_fault fault new.failed) a b
    replies_written fault written =
        let same : parcel_bytes taken ≡ replied.text =
        ap parcel_bytes (sym (same_parcels taken sent written.0 ended settled)) ∙ all ∙ replied.bytes
        ∙ ap (λ l. l ++ replied.text) unsent in
        bytes_written replied.sent replied.unsent replied.cut replied.text replied.frames fault new.failed replied.whole
        (rw same at written.1)

-- ---- a session over such an outbox
-- what was written of a session over bytes, as one in threads says it
wrote_so : (a b : Option (List ℕ)) (result : Result SessionEnd SessionFault) (stop : Stop) (xs : List Exchange)
    → Wrote a b result stop xs → WroteInThreads a b result stop xs
wrote_so a b (Err (Write fault)) stop xs (output, whole, last, lost, cut, got) = (output, (whole, last, [], cut, got))
wrote_so a b (Err Memory) stop xs (inl wrote) = (sends_of xs, [], sym (append-nil (sends_of xs)), wrote)
wrote_so a b (Err Memory) stop xs (inr most) = (most.0, most.1 ∷ [], most.3, most.4)
wrote_so a b result stop xs wrote = wrote

not_refused : (stop : Stop) → IsWhole stop → NotRefused stop
not_refused (refused fault) whole = absurd whole
not_refused stop whole = tt

module _ {I O L : Type 0} (receives : Receives I) (sends : Sends O) (wakeable : Bool) (passes : L → ReadFault → L
    → Type 0) (limit : Limits) (P Q : SessionPart) (reason : StopReason)
    (knows : (xs : List Exchange) (stop : Stop) (answer : SessionAnswer) → P xs stop answer
    → Q xs stop answer × StopsFor reason xs stop answer × StopsAtExit stop (messages_of xs))
    (a b : Option (List ℕ)) (old new : I × O) (answer : SessionAnswer) (runs : Runs receives sends P old answer
    new) where
  known_of : Q runs.exchanges runs.stop answer × StopsFor reason runs.exchanges runs.stop answer
      × StopsAtExit runs.stop (messages_of runs.exchanges)
  known_of = knows runs.exchanges runs.stop answer runs.part

  abbrev heard : Brought receives old.0 runs.exchanges runs.stop new.0
  heard = brought_by receives starting runs.exchanges runs.stop answer old.0 new.0 runs.came

  -- others wake it only if they can
  abbrev Others : Type 0
  Others = wakeable ≡ true

  -- what was read of a text
  reads_all : (came : List (Option Message)) (from to : List ℕ × L) → ReadsFrames Others passes limit from came to
      → FoldsTo (ReadsFrameOrWakes wakeable passes limit) from came to
  reads_all [] from to run = run
  reads_all (Some m ∷ came) from to run = (run.0, run.1, reads_all came run.0 to run.2)
  reads_all (None ∷ came) from to run = (run.0, run.1, reads_all came run.0 to run.2)

  -- what came in, as an inbox over the text brings it
  module _ (text : List ℕ) (first : L) (s : Stream × L)
      (run : FoldsTo (GivesOr Others passes limit) (record { remaining = Some text; end = None }, first) heard.events
      s) where
    abbrev start : Stream × L
    start = (record { remaining = Some text; end = None }, first)

    over : (result : Result SessionEnd SessionFault) (at : List ℕ × L) → ReadsFrames Others passes limit (text, first)
        (came_of runs.exchanges) at
        → HearsLast passes limit runs.stop at s.1 → EndsInThreads limit result answer runs.stop at.0
        → WroteInThreads a b result runs.stop runs.exchanges → ThreadsTellOver wakeable
        passes limit Q text first s.1 a b result
    over result at read policy ends wrote = record {
      exchanges = runs.exchanges;
      at = at;
      read = reads_all (came_of runs.exchanges) (text, first) at read;
      stop = runs.stop;
      answer = answer;
      part = known_of.0;
      ends = (ends, policy);
      wrote = wrote;
    }

    read : (at : List ℕ × L) × ReadsFrames Others passes limit (text, first) (came_of runs.exchanges) at
        × HearsLast passes limit runs.stop at s.1
        × LeftWithin limit runs.stop at.0 s.0.remaining
    read = left_after Others passes limit text start s refl refl heard.events run (came_of runs.exchanges) runs.stop
        heard.brought known_of.2

    pub session_gives : (fault : Option WriteFault) → WritesReplies runs.stop (sends_of runs.exchanges) fault a b
        → ThreadsTellOver wakeable passes limit Q text first s.1 a b (session_answer reason answer s.0.end fault)
    session_gives None (whole, written) =
        let all = frames_end Others passes limit text start s refl refl heard.events run (came_of runs.exchanges)
        answer runs.exchanges a b written
        runs.stop heard.brought (not_refused runs.stop whole) known_of.2 in
        let result = session_answer (reason_of runs.stop) answer s.0.end None in
        rw known_of.1 (over result all.0 all.1 all.2 (s.0.remaining, all.3.0) (wrote_so a b result runs.stop
        runs.exchanges all.3.1))
    session_gives (Some (Output kind)) broken = over (Err (Write (Output kind))) read.0 read.1 read.2 (
      s.0.remaining,
      read.3,
    ) (tt, broken)
    session_gives (Some NoMemory) first' = over (Err Memory) read.0 read.1 read.2 (s.0.remaining, read.3) first'
