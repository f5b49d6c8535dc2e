-- A session between the two threads: no frame is sent before what it answers was taken.
use Rattle.std.proofs.Common.{◌≡◌, ◌≤◌, refl, sym, ◌∙◌, ap, subst, inl, inr, ◌⊎◌, ℕ, Bool, true, false, List, [], ◌∷◌}
use Rattle.std.proofs.Common.{◌++◌, append-nil, append_assoc, arith, length, Option, Some, None, Result, Ok, Err}
use Rattle.std.proofs.lemmas.List.Elements.{filter_map-append}
use Rattle.std.proofs.lemmas.List.Folds.{list_all-append}
use Rattle.std.specs.Bool.{MatchBool}
use Rattle.std.specs.List.{concat, filter_map, FoldsTo, list_all}
use Rattle.std.specs.declared.io.ErrorKind.TheVariants.{Other}
use Rattle.lsp_message.specs.Message.{Message}
use Rattle.lsp_message.specs.Written.{AreFramesOf, IsFrameOf}
use Rattle.lsp_message.specs.declared.frame.ReadFault.{ReadFault}
use Rattle.lsp_message.specs.declared.frame.ReadFault.TheVariants.{Input}
use Rattle.lsp_message.specs.declared.frame.limits.Limits.{Limits}
use Rattle.lsp_relay.specs.Relay.{has_end, IsLearned, Sending, Source}
use Rattle.lsp_session.proofs.Brought.{came_in, is_open}
use Rattle.lsp_session.proofs.Passing.{left_after, ReadsFrames}
use Rattle.lsp_session.proofs.Waiting.{FoldsTo-append, FoldsTo-split, list_all-push, waits_none}
use Rattle.lsp_session.specs.Boxes.{Receives, is_timeout, Takes, WaitsFor}
use Rattle.lsp_session.specs.Event.{Event, closed, timeout}
use Rattle.lsp_session.specs.Prompt.{AwaitsEnd, event_of, History, Meets, Refuses, Talks, WaitsIn}
use Rattle.lsp_session.specs.Session.{and_refused, came_of, Exchange, offered, sends_of, SessionAnswer, SessionPart}
use Rattle.lsp_session.specs.Session.{asked, broken, decided, ended, exhausted, no_more, Phase, refused, starting, Stop}
use Rattle.lsp_session.specs.Session.{timed_out}
use Rattle.lsp_session.specs.SessionLaws.{Both}
use Rattle.lsp_session.specs.declared.lifecycle.SendFault.{SendFault}
use Rattle.lsp_session.specs.declared.lifecycle.SendFault.TheVariants.{Closed as Shut, Memory as IsFull}
use Rattle.lsp_session.specs.declared.loops.ReadEnd.TheVariants.{Fault}
use Rattle.lsp_threads.proofs.ContentStream.{as_stream, gives_relay}
use Rattle.lsp_threads.proofs.Leaving.{left_reading, open_taken}
use Rattle.lsp_threads.proofs.Taken.{nothing_taken}
use Rattle.lsp_threads.specs.Contents.{ContentsGive, is_over, limits_of, MaySend, OpenGives, parts_of, Receiving}
use Rattle.lsp_threads.specs.Contents.{Taking}
use Rattle.lsp_threads.specs.Order.{Answers, HasCome}
use Rattle.lsp_threads.specs.Replies.{Replying}
use Rattle.lsp_threads.specs.ThreadEnds.{EndsGive, EndsInOrder, EndsSend, IsFresh, seen_of}
use Rattle.lsp_threads.specs.Threads.{ReadsFrameOrWakes}
use Rattle.lsp_threads.specs.Writes.{IsAmong, KeepsMarks, Mark}
use Rattle.lsp_threads.specs.declared.thread_ends.ThreadEnds.{ThreadEnds}

-- ---- what came at some exchanges had been taken
-- timeouts bring no message, and nothing else
no_messages : (passed : List Event) → list_all is_timeout passed ≡ true → filter_map came_in passed ≡ []
no_messages [] all = refl
no_messages (timeout ∷ events) all = no_messages events all
no_messages (event ∷ events) all = cc

all_open : (passed : List Event) → list_all is_timeout passed ≡ true → list_all is_open passed ≡ true
all_open [] all = refl
all_open (timeout ∷ events) all = all_open events all
all_open (event ∷ events) all = cc

came_one : (arrived : Option Message) → (filter_map came_in (event_of arrived ∷ []) ≡ arrived ∷ [])
    × (is_open (event_of arrived) ≡ true)
came_one None = (refl, refl)
came_one (Some m) = (refl, refl)

not_closed : (arrived : Option Message) → event_of arrived ≡ closed → ⊥
not_closed None same = cc (same)
not_closed (Some m) same = cc (same)

module _ {L : Type 0} (passes : L → ReadFault → L → Type 0) where
  -- a message or a wake came before End was taken
  came_open : (arrived : Option Message) (old new : Receiving × L) → ContentsGive passes old (event_of arrived) new
      → has_end new.0.taken ≡ false
  came_open arrived old new gives = at (is_over old.0) gives.2
    where
      opens : (arrived : Option Message) → OpenGives passes old (event_of arrived) new → has_end new.0.taken ≡ false
      opens (Some m) step = step.0.1.1
      opens None (inl wakes) = wakes.0.1
      opens None (inr passes) = passes.2.1

      at : (over : Bool) → MatchBool over ((event_of arrived ≡ closed) × (new ≡ old)) (OpenGives passes old
          (event_of arrived) new) → has_end new.0.taken ≡ false
      at true same = absurd (not_closed arrived same.0)
      at false step = opens arrived step

  module _ (wakeable : Bool) (limit : Limits) where
    reads_all : (came : List (Option Message)) (from to : List ℕ × L) → ReadsFrames (wakeable ≡ true) passes limit from
        came to → FoldsTo (ReadsFrameOrWakes wakeable passes limit) from came to
    reads_all [] from to run = run
    reads_all (Some m ∷ came) from to run = (run.0, run.1, reads_all came run.0 to run.2)
    reads_all (None ∷ came) from to run = (run.0, run.1, reads_all came run.0 to run.2)

  woke : (wakeable : Bool) (wakes : ℕ) → (wakeable ≡ false → wakes ≡ 0) → 1 ≤ wakes → wakeable ≡ true
  woke true wakes none some = refl
  woke false wakes none some = absurd (omega (arith, none refl, some))

  -- of an inbox that had nothing, and took this
  module _ (old new : Receiving × L) (none : old.0.taken ≡ []) (none_waits : old.0.waiting ≡ [])
      (unended : old.0.end ≡ None) (source : Source) (planned : old.0.relay.1 ≡ Some source) (events : List Event)
      (run : FoldsTo (ContentsGive passes) old events new) (still_open : list_all is_open events ≡ true)
      (no_end : has_end new.0.taken ≡ false)
      (learned : IsLearned MaySend new.0.relay.1 new.0.relay.2 new.0.taken new.0.wakes) where
    pub has_come : (xs : List Exchange) → filter_map came_in events ≡ came_of xs
        → HasCome old.0.relay.2 passes (limits_of source) source.0 old.1 (parts_of new.0.taken) xs
    has_come xs came =
        let relay = gives_relay passes events old new run in
        let limit = limits_of source in
        let wakeable = old.0.relay.2 in
        let is : new.0.relay.1 ≡ Some source = ap (λ (l : _ × Option Source × Bool). l.1) relay ∙ planned in
        let same : new.0.relay.2 ≡ wakeable = ap (λ (l : _ × Option Source × Bool). l.2) relay in
        let silent : wakeable ≡ false → new.0.wakes ≡ 0 = λ e. learned.1 source is (same ∙ e) in
        let begins = learned.0 source is (open_taken new.0.taken no_end) in
        let tx : Sending _ = record { relay = new.0.relay.0; sent = []; wakeable = wakeable; source = Some source } in
        let parts : Taking = record {
          relay = new.0.relay;
          taken = new.0.taken;
          waiting = new.0.waiting;
          wakes = new.0.wakes;
        } in
        let left = left_reading limit tx parts source.0 (parts_of new.0.taken) no_end same refl begins
        (λ e. silent (sym same ∙ e)) in
        let text = concat (parts_of new.0.taken) in
        let handed = left.5 [] (λ ends. refl) in
        let s = as_stream limit passes (wakeable ≡ true) old new none none_waits unended events run
        (woke wakeable new.0.wakes silent) left.1 tx left.0 left.2 left.3 (Fault (Input Other)) (text ++ []) handed in
        let read = left_after (wakeable ≡ true) passes limit (text ++ []) (
          record { remaining = Some (text ++ []); end = None },
          old.1,
        ) s.0 refl refl events s.1.0 (came_of xs) decided (came, still_open) tt in (
          begins.1,
          read.0,
          subst (λ l. FoldsTo (ReadsFrameOrWakes wakeable passes limit) (l, old.1) (came_of xs) read.0)
              (append-nil text) (reads_all wakeable limit (came_of xs) (text ++ [], old.1) read.0 read.1),
        )

-- ---- lists of messages
sends_of-append : (a b : List Exchange) → sends_of (a ++ b) ≡ sends_of a ++ sends_of b
sends_of-append [] b = refl
sends_of-append (x ∷ a) b = ap (λ l. offered x ++ l) (sends_of-append a b) ∙ sym (append_assoc (offered x) (sends_of a)
    (sends_of b))

sends_of-push : (xs : List Exchange) (x : Exchange) → sends_of (xs ++ x ∷ []) ≡ sends_of xs ++ offered x
sends_of-push xs x = sends_of-append xs (x ∷ []) ∙ ap (λ l. sends_of xs ++ l) (append-nil (offered x))

frames-push : (ms : List Message) (text : List ℕ) (m : Message) (frame : List ℕ) → AreFramesOf ms text
    → IsFrameOf m frame → AreFramesOf (ms ++ m ∷ []) (text ++ frame)
frames-push [] text m frame are is = (frame, [], is, refl, ap (λ l. l ++ frame) are ∙ sym (append-nil frame))
frames-push (x ∷ ms) text m frame (first, more, is_first, are, same) is = (
  first,
  more ++ frame,
  is_first,
  frames-push ms more m frame are is,
  ap (λ l. l ++ frame) same ∙ append_assoc first more frame,
)

-- ---- a session over both ends
module _ {R L : Type 0} (passes : L → ReadFault → L → Type 0) (listens : Receives (ThreadEnds R L))
    (start : ThreadEnds R L) (fresh : IsFresh start) (source : Source)
    (planned : (seen_of start).0.relay.1 ≡ Some source) where
  abbrev Ends : Type 0
  Ends = ThreadEnds R L

  abbrev Said : List Exchange → Mark → Type 0
  Said xs mark = Answers (seen_of start).0.relay.2 passes (limits_of source) source.0 (seen_of start).1 xs mark.taken
      mark.bytes

  abbrev Marked : List Exchange → Ends → Type 0
  Marked xs ends = (mark : Mark) → IsAmong mark ends.outbox.now.marks → Said xs mark

  -- one more exchange
  said_later : (xs : List Exchange) (x : Exchange) (mark : Mark) → Said xs mark → Said (xs ++ x ∷ []) mark
  said_later xs x mark said = (
    said.0,
    said.1 ++ x ∷ [],
    ap (λ l. l ++ x ∷ []) said.2 ∙ append_assoc said.0 said.1 (x ∷ []),
    said.3,
    said.4,
    said.5,
    said.6,
    said.7,
    said.8,
    said.9,
  )

  -- receives send nothing
  received : (events : List Event) (old new : Ends) → FoldsTo (EndsGive passes) old events new
      → FoldsTo (ContentsGive passes) (seen_of old) events (seen_of new)
      × (new.outbox.now.replies ≡ old.outbox.now.replies) × KeepsMarks old.outbox.now.marks new.outbox.now.marks
  received [] old new run = (
    ap seen_of run,
    sym (ap (λ (e : Ends). e.outbox.now.replies) run),
    λ mark is. subst (λ (e : Ends). IsAmong mark e.outbox.now.marks) (sym run) is,
  )
  received (event ∷ events) old new run =
      let more = received events run.0 new run.2 in
      ((seen_of run.0, run.1.0, more.0), more.1 ∙ run.1.1, λ mark is. run.1.3 mark (more.2 mark is))

  waited : (p : Phase) (event : Event) (old new : Ends) → WaitsIn (EndsGive passes) listens p old event new
      → WaitsFor (EndsGive passes) old event new
  waited (asked i) event old new waits = waits_none (EndsGive passes) old new event waits
  waited (broken fault) event old new waits = absurd waits
  waited (ended by) event old new waits = absurd waits
  waited p event old new waits = waits.0

  -- what was done up to the end of some exchanges
  record SoFar (xs : List Exchange) (now : Ends) : Type 0 where
    events : List Event
    run : FoldsTo (ContentsGive passes) (seen_of start) events (seen_of now)
    came : filter_map came_in events ≡ came_of xs
    still_open : list_all is_open events ≡ true
    sent : List Message
    unsent : List Message
    cut : sends_of xs ≡ sent ++ unsent
    frames : AreFramesOf sent now.outbox.now.replies.bytes
    whole : now.outbox.now.replies.failed ≡ false → unsent ≡ []
    marked : Marked xs now

  -- in the middle of an exchange: these messages were sent at it, and what came was taken if that is known
  module _ (xs : List Exchange) (x : Exchange) (met : Ends)
      (come : IsLearned MaySend (seen_of met).0.relay.1 (seen_of met).0.relay.2 (seen_of met).0.taken
      (seen_of met).0.wakes
      → HasCome (seen_of start).0.relay.2 passes (limits_of source) source.0 (seen_of start).1
      (parts_of (seen_of met).0.taken) (xs ++ x ∷ [])) where
    record Within (ms : List Message) (now : Ends) : Type 0 where
      same : seen_of now ≡ seen_of met
      sent : List Message
      unsent : List Message
      cut : sends_of xs ++ ms ≡ sent ++ unsent
      frames : AreFramesOf sent now.outbox.now.replies.bytes
      whole : now.outbox.now.replies.failed ≡ false → unsent ≡ []
      marked : Marked (xs ++ x ∷ []) now

    -- a message was offered, and these messages are sent now
    now_marked : (m : Message) (r : Result (Unit {0}) SendFault) (old new : Ends) (ms sent unsent : List Message)
        → Within ms old → EndsSend old m r new → sends_of (xs ++ x ∷ []) ≡ sent ++ unsent
        → AreFramesOf sent new.outbox.now.replies.bytes → Marked (xs ++ x ∷ []) new
    now_marked m r old new ms sent unsent within sends cut frames mark is = at (sends.2.0 mark is)
      where
        here : Said (xs ++ x ∷ []) (record {
          taken = parts_of (seen_of old).0.taken;
          bytes = new.outbox.now.replies.bytes;
        })
        here = (
          xs ++ x ∷ [],
          [],
          sym (append-nil (xs ++ x ∷ [])),
          subst (λ (s : Receiving × L). HasCome (seen_of start).0.relay.2 passes (limits_of source) source.0
              (seen_of start).1 (parts_of s.0.taken) (xs ++ x ∷ [])) (sym within.same)
              (come (subst (λ (s : Receiving × L). IsLearned MaySend s.0.relay.1 s.0.relay.2 s.0.taken s.0.wakes)
              within.same sends.2.1)),
          sent,
          unsent,
          cut,
          new.outbox.now.replies.bytes,
          frames,
          ([], append-nil new.outbox.now.replies.bytes),
        )

        at : IsAmong mark old.outbox.now.marks ⊎ (mark ≡ record {
          taken = parts_of (seen_of old).0.taken;
          bytes = new.outbox.now.replies.bytes;
        }) → Said (xs ++ x ∷ []) mark
        at (inl earlier) = within.marked mark earlier
        at (inr now) = subst (Said (xs ++ x ∷ [])) (sym now) here

    -- it was taken
    one_sent : (m : Message) (old new : Ends) (ms rest : List Message) → (ms ++ m ∷ []) ++ rest ≡ offered x
        → Within ms old → EndsSend old m (Ok tt) new → Within (ms ++ m ∷ []) new
    one_sent m old new ms rest all within sends =
        let reply = sends.0 in
        let before : sends_of xs ++ ms ≡ within.sent = within.cut ∙ ap (λ l. within.sent ++ l) (within.whole reply.1)
        ∙ append-nil within.sent in
        let now : sends_of xs ++ (ms ++ m ∷ []) ≡ within.sent ++ m ∷ [] = sym (append_assoc (sends_of xs) ms (m ∷ []))
        ∙ ap (λ l. l ++ m ∷ []) before in
        let frames : AreFramesOf (within.sent ++ m ∷ []) new.outbox.now.replies.bytes =
        subst (AreFramesOf (within.sent ++ m ∷ [])) (sym reply.3.2) (frames-push within.sent
        old.outbox.now.replies.bytes m reply.3.0 within.frames reply.3.1) in
        let cut : sends_of (xs ++ x ∷ []) ≡ (within.sent ++ m ∷ []) ++ rest = sends_of-push xs x
        ∙ ap (λ l. sends_of xs ++ l) (sym all) ∙ sym (append_assoc (sends_of xs) (ms ++ m ∷ []) rest)
        ∙ ap (λ l. l ++ rest) now in
        record {
          same = sends.1 ∙ within.same;
          sent = within.sent ++ m ∷ [];
          unsent = [];
          cut = now ∙ sym (append-nil (within.sent ++ m ∷ []));
          frames = frames;
          whole = λ e. refl;
          marked = now_marked m (Ok tt) old new ms (within.sent ++ m ∷ []) rest within sends cut frames;
        }

    all_sent : (more : List Message) (old new : Ends) (ms rest : List Message) → (ms ++ more) ++ rest ≡ offered x
        → Within ms old → FoldsTo (Takes EndsSend) old more new → Within (ms ++ more) new
    all_sent [] old new ms rest all within run = subst (λ (e : Ends). Within (ms ++ []) e) run
        (subst (λ l. Within l old) (sym (append-nil ms)) within)
    all_sent (m ∷ more) old new ms rest all within run =
        let next : (ms ++ m ∷ []) ++ more ≡ ms ++ m ∷ more = append_assoc ms (m ∷ []) more in
        let one = one_sent m old run.0 ms (more ++ rest) (sym (append_assoc (ms ++ m ∷ []) more rest)
        ∙ ap (λ l. l ++ rest) next ∙ all) within run.1 in
        subst (λ l. Within l new) next (all_sent more run.0 new (ms ++ m ∷ []) rest (ap (λ l. l ++ rest) next ∙ all)
        one run.2)

    -- what holds at its end
    record Done (now : Ends) : Type 0 where
      same : seen_of now ≡ seen_of met
      sent : List Message
      unsent : List Message
      cut : sends_of (xs ++ x ∷ []) ≡ sent ++ unsent
      frames : AreFramesOf sent now.outbox.now.replies.bytes
      whole : now.outbox.now.replies.failed ≡ false → unsent ≡ []
      marked : Marked (xs ++ x ∷ []) now

    one_refused : (m : Message) (fault : SendFault) (old new : Ends) → offered x ≡ x.sent ++ m ∷ [] → Within x.sent old
        → EndsSend old m (Err fault) new → Done new
    one_refused m (Shut back) old new all within sends = absurd sends.0
    one_refused m (IsFull back) old new all within sends =
        let cut : sends_of (xs ++ x ∷ []) ≡ within.sent ++ (within.unsent ++ m ∷ []) = sends_of-push xs x
        ∙ ap (λ l. sends_of xs ++ l) all ∙ sym (append_assoc (sends_of xs) x.sent (m ∷ []))
        ∙ ap (λ l. l ++ m ∷ []) within.cut ∙ append_assoc within.sent within.unsent (m ∷ []) in
        let frames : AreFramesOf within.sent new.outbox.now.replies.bytes = subst (AreFramesOf within.sent)
        (sym (ap (λ (r : Replying). r.bytes) sends.0)) within.frames in
        let failed : new.outbox.now.replies.failed ≡ true = ap (λ (r : Replying). r.failed) sends.0 in
        record {
          same = sends.1 ∙ within.same;
          sent = within.sent;
          unsent = within.unsent ++ m ∷ [];
          cut = cut;
          frames = frames;
          whole = λ e. absurd (cc (failed, e));
          marked = now_marked m (Err (IsFull back)) old new x.sent within.sent (within.unsent ++ m ∷ []) within sends
              cut frames;
        }

    offers : (lost : Option Message) (p : Phase) (old new : Ends) → x.not_sent ≡ lost → Within x.sent old
        → Refuses (EndsGive passes) listens EndsSend lost p old new → Done new
    offers None p old new is within refuses =
        let all : offered x ≡ x.sent = ap (and_refused x.sent) is in
        rw refuses (record {
          same = within.same;
          sent = within.sent;
          unsent = within.unsent;
          cut = sends_of-push xs x ∙ ap (λ l. sends_of xs ++ l) all ∙ within.cut;
          frames = within.frames;
          whole = within.whole;
          marked = within.marked;
        })
    offers (Some m) (broken fault) old new is within refuses = one_refused m fault old new (ap (and_refused x.sent) is)
        within refuses
    offers (Some m) p old new is within refuses = one_refused m refuses.0 old new (ap (and_refused x.sent) is) within
        refuses.1

  rest_of : (sent : List Message) (lost : Option Message) → (rest : List Message) × (sent ++ rest ≡ and_refused sent
      lost)
  rest_of sent None = ([], append-nil sent)
  rest_of sent (Some m) = (m ∷ [], refl)

  turn : (passes_late : Bool) (xs : List Exchange) (x : Exchange) (old new : Phase × Ends)
      → Meets (EndsGive passes) listens EndsSend passes_late old x new → SoFar xs old.1 → SoFar (xs ++ x ∷ []) new.1
  turn passes_late xs x old new meets so_far =
      let waits = waited old.0 (event_of x.came) old.1 meets.met meets.waited in
      let event = event_of x.came in
      let one = came_one x.came in
      let heard = received (waits.passed ++ event ∷ []) old.1 meets.met waits.received in
      let events = so_far.events ++ (waits.passed ++ event ∷ []) in
      let run = FoldsTo-append (ContentsGive passes) so_far.events (waits.passed ++ event ∷ []) (seen_of start)
      (seen_of old.1) (seen_of meets.met) so_far.run heard.0 in
      let last = FoldsTo-split (ContentsGive passes) waits.passed (event ∷ []) (seen_of old.1) (seen_of meets.met)
      heard.0 in
      let no_end : has_end (seen_of meets.met).0.taken ≡ false = came_open passes x.came last.0 (seen_of meets.met)
      (subst (ContentsGive passes last.0 event) last.2.2 last.2.1) in
      let came : filter_map came_in events ≡ came_of (xs ++ x ∷ []) = rw (
        filter_map-append came_in so_far.events (waits.passed ++ event ∷ []),
        filter_map-append came_in waits.passed (event ∷ []),
        no_messages waits.passed waits.only_timeouts,
        one.0,
        so_far.came,
      ) (sym (came_push xs x)) in
      let still_open : list_all is_open events ≡ true = rw (
        list_all-append is_open so_far.events (waits.passed ++ event ∷ []),
        so_far.still_open,
        list_all-push is_open waits.passed event (all_open waits.passed waits.only_timeouts) one.1,
      ) refl in
      let come : IsLearned MaySend (seen_of meets.met).0.relay.1 (seen_of meets.met).0.relay.2
      (seen_of meets.met).0.taken (seen_of meets.met).0.wakes
      → HasCome (seen_of start).0.relay.2 passes (limits_of source) source.0 (seen_of start).1
      (parts_of (seen_of meets.met).0.taken) (xs ++ x ∷ []) =
      λ learned. has_come passes (seen_of start) (seen_of meets.met) fresh.0 fresh.1 fresh.2 source planned
      events run still_open no_end learned (xs ++ x ∷ []) came in
      let rest = rest_of x.sent x.not_sent in
      let none : Within xs x meets.met come [] meets.met = record {
        same = refl;
        sent = so_far.sent;
        unsent = so_far.unsent;
        cut = append-nil (sends_of xs) ∙ so_far.cut;
        frames = subst (λ (r : Replying). AreFramesOf so_far.sent r.bytes) (sym heard.1) so_far.frames;
        whole = λ e. so_far.whole (ap (λ (r : Replying). r.failed) (sym heard.1) ∙ e);
        marked = λ mark is. said_later xs x mark (so_far.marked mark (heard.2 mark is));
      } in
      let sent = all_sent xs x meets.met come x.sent meets.met meets.mid [] rest.0 rest.1 none meets.taken in
      let done = offers xs x meets.met come x.not_sent new.0 meets.mid new.1 refl sent meets.refuses in
      record {
        events = events;
        run = subst (λ s. FoldsTo (ContentsGive passes) (seen_of start) events s) (sym done.same) run;
        came = came;
        still_open = still_open;
        sent = done.sent;
        unsent = done.unsent;
        cut = done.cut;
        frames = done.frames;
        whole = done.whole;
        marked = done.marked;
      }
    where
      came_push : (xs : List Exchange) (x : Exchange) → came_of (xs ++ x ∷ []) ≡ came_of xs ++ x.came ∷ []
      came_push [] x = refl
      came_push (y ∷ xs) x = ap (λ l. y.came ∷ l) (came_push xs x)

  turns : (passes_late : Bool) (more xs : List Exchange) (old new : Phase × Ends)
      → FoldsTo (Meets (EndsGive passes) listens EndsSend passes_late) old more new → SoFar xs old.1
      → SoFar (xs ++ more) new.1
  turns passes_late [] xs old new run so_far = subst (λ l. SoFar l new.1) (sym (append-nil xs))
      (subst (λ (a : Phase × Ends). SoFar xs a.1) run so_far)
  turns passes_late (x ∷ more) xs old new run so_far =
      subst (λ l. SoFar l new.1) (append_assoc xs (x ∷ []) more) (turns passes_late more (xs ++ x ∷ []) run.0 new run.2
      (turn passes_late xs x old run.0 run.1 so_far))

  -- the last wait sends nothing
  last_wait : (p : Phase) (event : Event) (old new : Ends) → WaitsIn (EndsGive passes) listens p old event new
      → KeepsMarks old.outbox.now.marks new.outbox.now.marks
  last_wait p event old new waits = let w = waited p event old new waits in
      (received (w.passed ++ event ∷ []) old new w.received).2

  none_new : (old new : Ends) → new ≡ old → KeepsMarks old.outbox.now.marks new.outbox.now.marks
  none_new old new same mark is = subst (λ (e : Ends). IsAmong mark e.outbox.now.marks) same is

  at_end : (p : Phase) (count : ℕ) (stop : Stop) (old new : Ends) → AwaitsEnd (EndsGive passes) listens p count stop old
      new → KeepsMarks old.outbox.now.marks new.outbox.now.marks
  at_end p count no_more old new (inl waits) = last_wait p closed old new waits
  at_end p count no_more old new (inr all) = none_new old new all.1
  at_end p count timed_out old new waits = last_wait p timeout old new waits
  at_end p count exhausted old new waits = last_wait p (event_of waits.0) old new waits.1
  at_end p count decided old new same = none_new old new same
  at_end p count (refused fault) old new same = none_new old new same

  at_start : SoFar [] start
  at_start = record {
    events = [];
    run = refl;
    came = refl;
    still_open = refl;
    sent = [];
    unsent = [];
    cut = refl;
    frames = fresh.3;
    whole = λ e. refl;
    marked = λ mark is. first mark (subst (IsAmong mark) fresh.4 is);
  }
    where
      first : (mark : Mark) → IsAmong mark (record { taken = []; bytes = [] } ∷ []) → Said [] mark
      first mark (inl same) = subst (Said []) (sym same) (
        [],
        [],
        refl,
        ((source.0, nothing_taken source.0), ([], (seen_of start).1), refl),
        [],
        [],
        refl,
        [],
        refl,
        ([], refl),
      )
      first mark (inr none) = absurd none

  pub marks_answer : (xs : List Exchange) (stop : Stop) (answer : SessionAnswer) (new : Ends)
      → History (EndsGive passes) listens EndsSend starting xs stop answer start new → Marked xs new
  marks_answer xs stop answer new h mark is =
      (turns h.passes_late xs [] (starting, start) (h.reached, h.mid) h.turns at_start).marked mark
      (at_end h.reached (length xs) stop h.mid new h.ends mark is)

-- the same of the session of which P is said
pub talks_in_order : {R L : Type 0} (passes : L → ReadFault → L → Type 0) (listens : Receives (ThreadEnds R L))
    (P : SessionPart) (old new : ThreadEnds R L) (answer : SessionAnswer) → IsFresh old
    → Talks (EndsGive passes) listens EndsSend starting P old answer new
    → Talks (EndsGive passes) listens EndsSend starting (Both P (EndsInOrder passes old new)) old answer new
talks_in_order passes listens P old new answer fresh talks = record {
  exchanges = talks.exchanges;
  stop = talks.stop;
  history = talks.history;
  part = (
    talks.part,
    λ source planned. marks_answer passes listens old fresh source planned talks.exchanges talks.stop answer new
        talks.history,
  );
}
