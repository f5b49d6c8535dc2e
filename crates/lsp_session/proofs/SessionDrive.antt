-- A session that a loop drives over a reader and a writer: what has come of it so far.
use Rattle.std.proofs.Common.{◌≡◌, ◌≢◌, refl, sym, ap, subst, ◌∙◌, inl, inr, ◌⊎◌, ℕ, ◌<◌, ◌≤◌, List, [], ◌∷◌, ◌++◌}
use Rattle.std.proofs.Common.{length, append_assoc, append-nil, arith, Option, Some, None, pos}
use Rattle.std.proofs.KnownBytes.{Appends-nil, Appends-trans}
use Rattle.std.proofs.lemmas.Fn.{FoldsTo-push}
use Rattle.std.specs.Io.KnownBytes.{Appends, Keeps}
use Rattle.std.specs.List.{FoldsTo}
use Rattle.std.specs.Option.{option_or}
use Rattle.std.specs.Prelude.{Result, Ok, Err, IfSome, IsSomeAnd}
use Rattle.std.specs.declared.io.ErrorKind.{ErrorKind}
use Rattle.std.specs.declared.io.ErrorKind.TheVariants.{Other}
use Rattle.serde_json.specs.declared.value.Value.TheVariants.{Null}
use Rattle.lsp_message.proofs.Contents.{frame_unread}
use Rattle.lsp_message.specs.Frame.{Begins, body_means, reading_within}
use Rattle.lsp_message.specs.FrameInput.{AwaitsMore}
use Rattle.lsp_message.specs.Gathering.{IsFromReader}
use Rattle.lsp_message.specs.Id.{number}
use Rattle.lsp_message.specs.Message.{Message}
use Rattle.lsp_message.specs.Reading.{Reading, StopsWithin, Answers as ReadAnswers}
use Rattle.lsp_message.specs.Written.{AppendsBeginning, AreFramesOf, GetsFrames, IsFrameOf, IsOutput}
use Rattle.lsp_message.specs.declared.frame.ReadFault.{ReadFault}
use Rattle.lsp_message.specs.declared.frame.ReadFault.TheVariants.{Input, Memory as NoMemoryToRead}
use Rattle.lsp_message.specs.declared.frame.WriteFault.{WriteFault}
use Rattle.lsp_message.specs.declared.frame.WriteFault.TheVariants.{Output, Memory as NoMemory}
use Rattle.lsp_message.specs.declared.frame.limits.Limits.{Limits}
use Rattle.lsp_message.specs.declared.msg.Message.TheVariants as msg
use Rattle.lsp_session.proofs.ByteHistory.{awaits_end, goes_same}
use Rattle.lsp_session.proofs.FrameReads.{awaits_within}
use Rattle.lsp_session.proofs.PendingFrames.{frames_then}
use Rattle.lsp_session.proofs.Ran.{came_both, no_one, phase_unbroken, row, sends_both, IsSound}
use Rattle.lsp_session.proofs.SessionGives.{closed_ends, decided_ends}
use Rattle.lsp_session.specs.ByteSession.{Answers, BeginsWithFault, BringMessages, Comes, Exchanged}
use Rattle.lsp_session.specs.ByteSession.{IsEndOf, IsFrameRead, IsMessage, IsReadFor, RunsOut, Standing, WritesTurn}
use Rattle.lsp_session.specs.ByteSession.{Exchanges, reads_of}
use Rattle.lsp_session.specs.ByteSessions.{standing, unread, EndIsKnown, HasServed, KeepsBounds, KnowsEnd}
use Rattle.lsp_session.specs.Event.{Event, message, closed, timeout, woken}
use Rattle.lsp_session.specs.Machine.{End, IsAwaited, Row, StandsIn, outcome_of, phase_of}
use Rattle.lsp_session.specs.ProtocolError.{disconnected, fault_of_refusal, out_of_memory, shutdown_disconnected}
use Rattle.lsp_session.specs.Session.{AfterRefusal, Behavior, Exchange, Phase, SessionAnswer, SessionOut, Step, Steps}
use Rattle.lsp_session.specs.Session.{Stop, Stops, TakesTurn, and_refused, came_of, sends_of, starting, replied}
use Rattle.lsp_session.specs.Session.{serving, asked, broken, ended, decided, exhausted, no_more, refused}
use Rattle.lsp_session.specs.SessionBytes.{Ends, Gives, LeftWithin, ReadsMessage, Wrote, lost_of}
use Rattle.lsp_session.specs.SessionFault.{session_answer}
use Rattle.lsp_session.specs.SessionRounds.{ReadsSome}
use Rattle.lsp_session.specs.Streams.{StreamReads}
use Rattle.lsp_session.specs.TransportTurn.{IsOver}
use Rattle.lsp_session.specs.declared.lifecycle.SendFault.{SendFault}
use Rattle.lsp_session.specs.declared.lifecycle.SendFault.TheVariants.{Memory as Full}
use Rattle.lsp_session.specs.declared.loops.ReadEnd.{ReadEnd}
use Rattle.lsp_session.specs.declared.loops.ReadEnd.TheVariants.{End as AtEnd, Fault as AtFault}
use Rattle.lsp_session.specs.declared.loops.byte_session.ByteSession.{ByteSession}
use Rattle.lsp_session.specs.declared.loops.handler.SessionEnd.{SessionEnd}
use Rattle.lsp_session.specs.declared.loops.handler.SessionEnd.TheVariants.{Closed}
use Rattle.lsp_session.specs.declared.loops.machine.Stage.{Stage}
use Rattle.lsp_session.specs.declared.loops.machine.Stage.TheVariants.{Starting, Replied, Serving, Asked, Ended}
use Rattle.lsp_session.specs.declared.loops.stream_session.SessionFault.{SessionFault}
use Rattle.lsp_session.specs.declared.loops.stream_session.SessionFault.TheVariants.{Read, Write, Memory}

-- ---- frames of which a prefix was written

-- of two texts in parts that are equal, the first part of one begins with that of the other
two_cuts : (a b c d : List ℕ) → a ++ b ≡ c ++ d
    → ((e : List ℕ) × (c ≡ a ++ e) × (b ≡ e ++ d)) ⊎ ((e : List ℕ) × (a ≡ c ++ e) × (d ≡ e ++ b))
two_cuts [] b c d same = inl (c, refl, same)
two_cuts (x ∷ a) b [] d same = inr (x ∷ a, refl, sym same)
two_cuts (x ∷ a) b (y ∷ c) d same =
    let first : x ≡ y = cc (same) in
    let rest : a ++ b ≡ c ++ d = cc (same) in
    elim (two_cuts a b c d rest) [
      | inl cut ↦ inl (cut.0, ap (λ l. y ∷ l) cut.1 ∙ ap (λ z. z ∷ (a ++ cut.0)) (sym first), cut.2)
      | inr cut ↦ inr (cut.0, ap (λ l. x ∷ l) cut.1 ∙ ap (λ z. z ∷ (c ++ cut.0)) first, cut.2)
    ]

-- these bytes are frames of the first messages, and a prefix of a frame of the next one
record BrokenOff (ms : List Message) (part : List ℕ) : Type 0 where
  pub whole : List Message
  pub last : Message
  pub more : List Message
  pub cut : ms ≡ whole ++ last ∷ more
  pub frames : List ℕ
  pub are_frames : AreFramesOf whole frames
  pub frame : List ℕ
  pub is_frame : IsFrameOf last frame
  pub begun : List ℕ
  pub missing : List ℕ
  pub split : frame ≡ begun ++ missing
  pub written : part ≡ frames ++ begun

broken_off : (ms : List Message) (text part rest : List ℕ) → AreFramesOf ms text → text ≢ [] → text ≡ part ++ rest
    → BrokenOff ms part
broken_off [] text part rest none some cut = absurd (some none)
broken_off (m ∷ ms) text part rest (first, more, is, are, same) some cut =
    at (two_cuts first more part rest (sym same ∙ cut)) (λ e from left. broken_off ms more e rest are left from)
  where
    here : (begun missing : List ℕ) → first ≡ begun ++ missing → part ≡ begun → BrokenOff (m ∷ ms) part
    here begun missing split written = record {
      whole = [];
      last = m;
      more = ms;
      cut = refl;
      frames = [];
      are_frames = refl;
      frame = first;
      is_frame = is;
      begun = begun;
      missing = missing;
      split = split;
      written = written;
    }

    later : (e : List ℕ) → part ≡ first ++ e → BrokenOff ms e → BrokenOff (m ∷ ms) part
    later e written next = record {
      whole = m ∷ next.whole;
      last = next.last;
      more = next.more;
      cut = ap (λ l. m ∷ l) next.cut;
      frames = first ++ next.frames;
      are_frames = (first, next.frames, is, next.are_frames, refl);
      frame = next.frame;
      is_frame = next.is_frame;
      begun = next.begun;
      missing = next.missing;
      split = next.split;
      written = written ∙ ap (λ l. first ++ l) next.written ∙ sym (append_assoc first next.frames next.begun);
    }

    front_none : (e : List ℕ) → [] ≡ e ++ rest → e ≡ []
    front_none [] same = refl
    front_none (x ∷ e) same = absurd (cc (same))

    on : (e left : List ℕ) → more ≡ left → part ≡ first ++ e → more ≡ e ++ rest
        → ((e : List ℕ) → more ≡ e ++ rest → more ≢ [] → BrokenOff ms e) → BrokenOff (m ∷ ms) part
    on e [] none written from next =
        here first [] (sym (append-nil first)) (written ∙ ap (λ l. first ++ l) (front_none e (sym none ∙ from))
        ∙ append-nil first)
    on e (b ∷ left) some written from next = later e written (next e from (λ none. cc (none, some)))

    at : ((e : List ℕ) × (part ≡ first ++ e) × (more ≡ e ++ rest))
        ⊎ ((e : List ℕ) × (first ≡ part ++ e) × (rest ≡ e ++ more))
        → ((e : List ℕ) → more ≡ e ++ rest → more ≢ [] → BrokenOff ms e) → BrokenOff (m ∷ ms) part
    at (inl cut) next = on cut.0 more refl cut.1 cut.2 next
    at (inr cut) next = here part cut.0 cut.1 refl

-- ---- one exchange more

or_none : (o : Option Message) → option_or o None ≡ o
or_none None = refl
or_none (Some m) = refl

lost_push : (xs : List Exchange) (x : Exchange) → lost_of xs ≡ None → lost_of (xs ++ x ∷ []) ≡ x.not_sent
lost_push [] x none = or_none x.not_sent
lost_push (y ∷ ys) x none = at y.not_sent none (λ more. lost_push ys x more)
  where
    at : (o : Option Message) → option_or o (lost_of ys) ≡ None
        → (lost_of ys ≡ None → lost_of (ys ++ x ∷ []) ≡ x.not_sent)
        → option_or o (lost_of (ys ++ x ∷ [])) ≡ x.not_sent
    at None none next = next none
    at (Some m) none next = absurd (cc (none))

-- the text after these exchanges were read, of which this is unread, and the rest was not taken
abbrev after_read : List Exchanged → List ℕ → List ℕ → List ℕ
after_read xs u rest = reads_of xs ++ (u ++ rest)

-- a refusal of some message for want of memory
refusal : SendFault
refusal = Full (msg.Response (record { id = number (pos 0); response_result = Ok Null }))

module _ (limits : Limits) {S : Type 0} (may : Behavior S) (s : S) (text : List ℕ) (first : Option (List ℕ)) where
  -- Exchanges led to this phase and this service. Their messages were read, and frames of all that they sent were
  -- written.
  pub record Runs (p : Phase) (s1 : S) (at : List ℕ) (now : Option (List ℕ)) : Type 0 where
    pub exchanges : List Exchange
    pub read : FoldsTo (ReadsMessage limits) text (came_of exchanges) at
    pub steps : Steps may starting s exchanges p s1
    pub none_lost : lost_of exchanges ≡ None
    pub frames : GetsFrames (sends_of exchanges) first now

  -- the whole session, with this result
  abbrev pub Gave : S → List ℕ → Option (List ℕ) → Result SessionEnd SessionFault → Type 0
  Gave s1 rest now result = Gives limits (SessionOut may s s1) text (Some rest) first now result

  -- Where the session stands: it goes on, or it ended, and this is its result.
  abbrev pub Driven : Stage → S → Option ReadEnd → List ℕ → List ℕ → Option (List ℕ) → Type 0
  Driven (Ended outcome) s1 end at rest now = Gave s1 rest now (session_answer outcome.stop outcome.answer end None)
  Driven stage s1 end at rest now = Runs (phase_of stage) s1 at now

  -- What follows where bytes are pending: that they are written, or that their write fails.
  pub record Awaits (stage : Stage) (s1 : S) (pending : List ℕ) (end : Option ReadEnd) (at rest : List ℕ)
      (now : Option (List ℕ)) : Type 0 where
    pub whole : (later : Option (List ℕ)) → Appends now later pending → Driven stage s1 end at rest later
    pub cut : pending ≢ [] → (kind : ErrorKind) (later : Option (List ℕ)) → AppendsBeginning now later pending
        → Gave s1 rest later (Err (Write (Output kind)))

  stopped : (p : Phase) (s1 s2 : S) (at rest : List ℕ) (now : Option (List ℕ)) (run : Runs p s1 at now) (stop : Stop)
      (answer : SessionAnswer) (result : Result SessionEnd SessionFault) → Stops may p s1 stop answer s2
      → Ends limits (Some rest) result answer stop at → Wrote first now result stop run.exchanges
      → Gave s2 rest now result
  stopped p s1 s2 at rest now run stop answer result stops ends wrote = record {
    exchanges = run.exchanges;
    at = at;
    read = run.read;
    stop = stop;
    answer = answer;
    part = record { last = p; after = s1; reached = run.steps; stopped = stops };
    ends = ends;
    wrote = wrote;
  }

  -- nothing was written
  still : (p : Phase) (s1 : S) (at : List ℕ) (now later : Option (List ℕ)) → Runs p s1 at now → Appends now later []
      → Runs p s1 at later
  still p s1 at now later run appends = record {
    exchanges = run.exchanges;
    read = run.read;
    steps = run.steps;
    none_lost = run.none_lost;
    frames = (
      run.frames.0,
      run.frames.1,
      subst (λ l. Appends first later l) (append-nil run.frames.0)
          (Appends-trans first now later run.frames.0 [] run.frames.2 appends),
    );
  }

  going : (stage : Stage) (s1 : S) (end : Option ReadEnd) (at rest : List ℕ) (now : Option (List ℕ))
      → (IsOver stage → ⊥) → Runs (phase_of stage) s1 at now → Driven stage s1 end at rest now
  going Starting s1 end at rest now waits run = run
  going Replied s1 end at rest now waits run = run
  going Serving s1 end at rest now waits run = run
  going (Asked id) s1 end at rest now waits run = run
  going (Ended outcome) s1 end at rest now waits run = absurd (waits tt)

  pub gone_on : (stage : Stage) (s1 : S) (end : Option ReadEnd) (at rest : List ℕ) (now : Option (List ℕ))
      → (IsOver stage → ⊥) → Driven stage s1 end at rest now → Runs (phase_of stage) s1 at now
  gone_on Starting s1 end at rest now waits run = run
  gone_on Replied s1 end at rest now waits run = run
  gone_on Serving s1 end at rest now waits run = run
  gone_on (Asked id) s1 end at rest now waits run = run
  gone_on (Ended outcome) s1 end at rest now waits run = absurd (waits tt)

  settles : (next : Phase) (gone : Stage) (s1 : S) (at : List ℕ) (now : Option (List ℕ)) → IsSound next
      → StandsIn next gone → Runs next s1 at now → Driven gone s1 None at at now
  settles (ended answer) gone s1 at now sound is run =
      let e = decided_ends limits answer run.exchanges first now run.frames None (Some at) at refl in
      rw is (stopped (ended answer) s1 s1 at at now run decided answer _ (refl, refl) e.0 e.1)
  settles (broken fault) gone s1 at now sound is run = absurd sound
  settles starting Starting s1 at now sound is run = run
  settles replied Replied s1 at now sound is run = run
  settles serving Serving s1 at now sound is run = run
  settles (asked i) (Asked id) s1 at now sound is run = let same : id ≡ i = cc (is) in rw same run
  settles starting gone s1 at now sound is run = absurd (cc (is))
  settles replied gone s1 at now sound is run = absurd (cc (is))
  settles serving gone s1 at now sound is run = absurd (cc (is))
  settles (asked i) gone s1 at now sound is run = absurd (cc (is))

  module _ (p : Phase) (s1 : S) (at left : List ℕ) (now : Option (List ℕ)) (run : Runs p s1 at now) (m : Message)
      (begins : Begins limits at m left) where
    abbrev came : List Message → Option Message → Exchange
    came sent lost = record { came = Some m; sent = sent; not_sent = lost }

    abbrev with_one : List Message → Option Message → List Exchange
    with_one sent lost = run.exchanges ++ came sent lost ∷ []

    more_read : (sent : List Message) (lost : Option Message)
        → FoldsTo (ReadsMessage limits) text (came_of (with_one sent lost)) left
    more_read sent lost =
        subst (λ l. FoldsTo (ReadsMessage limits) text l left) (sym (came_both run.exchanges (came sent lost ∷ [])))
        (FoldsTo-push (ReadsMessage limits) text (came_of run.exchanges) at (Some m) left run.read begins)

    more_sends : (sent : List Message) (lost : Option Message)
        → sends_of (with_one sent lost) ≡ sends_of run.exchanges ++ and_refused sent lost
    more_sends sent lost =
        sends_both run.exchanges (came sent lost ∷ []) ∙ ap (λ l. sends_of run.exchanges ++ l)
        (append-nil (and_refused sent lost))

    more_lost : (sent : List Message) (lost : Option Message) → lost_of (with_one sent lost) ≡ lost
    more_lost sent lost = lost_push run.exchanges (came sent lost) run.none_lost

    more_steps : (q : Phase) (s2 : S) (sent : List Message) (lost : Option Message)
        → TakesTurn may (p, s1) (came sent lost) (q, s2) → Steps may starting s (with_one sent lost) q s2
    more_steps q s2 sent lost turn =
        FoldsTo-push (TakesTurn may) (starting, s) run.exchanges (p, s1) (came sent lost) (q, s2) run.steps turn

    -- all was written
    all_sent : (q : Phase) (s2 : S) (sent : List Message) (frames : List ℕ) (later : Option (List ℕ))
        → TakesTurn may (p, s1) (came sent None) (q, s2) → AreFramesOf sent frames → Appends now later frames
        → Runs q s2 left later
    all_sent q s2 sent frames later turn are appends = record {
      exchanges = with_one sent None;
      read = more_read sent None;
      steps = more_steps q s2 sent None turn;
      none_lost = more_lost sent None;
      frames = (
        run.frames.0 ++ frames,
        subst (λ l. AreFramesOf l (run.frames.0 ++ frames)) (sym (more_sends sent None))
            (frames_then (sends_of run.exchanges) sent run.frames.0 frames run.frames.1 are),
        Appends-trans first now later run.frames.0 frames run.frames.2 appends,
      );
    }

    module _ (next : Phase) (s2 : S) (given : List Message) (step : Step may p s1 (Some m) given next s2)
        (later : Option (List ℕ)) where
      -- a message was not sent, so the session is over
      not_sent : (sent : List Message) (last : Message) (more : List Message) → given ≡ sent ++ last ∷ more
          → (result : Result SessionEnd SessionFault)
          → ((stop : Stop) (answer : SessionAnswer) → LeftWithin limits stop left (Some left)
          → Ends limits (Some left) result answer stop left)
          → ((stop : Stop) → Wrote first later result stop (with_one sent (Some last))) → Gave s2 left later result
      not_sent sent last more cut result ends wrote = by more next cut step
        where
          goes : (more : List Message) (next new : Phase) → given ≡ sent ++ last ∷ more
              → Step may p s1 (Some m) given next s2 → AfterRefusal more next new → (stop : Stop)
              (answer : SessionAnswer) → Stops may new s2 stop answer s2 → LeftWithin limits stop left (Some left)
              → Gave s2 left later result
          goes more next new cut step after stop answer stops within = record {
            exchanges = with_one sent (Some last);
            at = left;
            read = more_read sent (Some last);
            stop = stop;
            answer = answer;
            part = record {
              last = new;
              after = s2;
              reached = more_steps new s2 sent (Some last) (record {
                given = given;
                next = next;
                step = step;
                offers = (more, cut, after);
              });
              stopped = stops;
            };
            ends = ends stop answer within;
            wrote = wrote stop;
          }

          breaks : (more : List Message) (next : Phase) → given ≡ sent ++ last ∷ more
              → Step may p s1 (Some m) given next s2 → AfterRefusal more next (broken refusal)
              → Gave s2 left later result
          breaks more next cut step after =
              goes more next (broken refusal) cut step after (refused refusal) (Err (fault_of_refusal refusal)) (
                refl,
                refl,
                refl,
              ) refl

          by : (more : List Message) (next : Phase) → given ≡ sent ++ last ∷ more
              → Step may p s1 (Some m) given next s2 → Gave s2 left later result
          by [] (asked i) cut step =
              goes [] (asked i) (asked i) cut step refl exhausted (Err out_of_memory) (refl, refl)
              (frame_unread body_means limits left)
          by [] starting cut step = breaks [] starting cut step (refusal, refl)
          by [] replied cut step = breaks [] replied cut step (refusal, refl)
          by [] serving cut step = breaks [] serving cut step (refusal, refl)
          by [] (broken fault) cut step = breaks [] (broken fault) cut step (refusal, refl)
          by [] (ended answer) cut step = breaks [] (ended answer) cut step (refusal, refl)
          by (n ∷ more) next cut step = breaks (n ∷ more) next cut step (refusal, refl)

      -- memory ran out for the frame of a message
      runs_out : (written : List ℕ) (stage : Stage) → RunsOut given written stage → Appends now later written
          → Gave s2 left later (Err Memory)
      runs_out written stage out appends =
          not_sent out.part out.unsent out.more out.cut (Err Memory) (λ stop answer within. within) (λ stop. inr (
            sends_of run.exchanges ++ out.part,
            out.unsent,
            more_lost out.part (Some out.unsent),
            more_sends out.part (Some out.unsent) ∙ sym (append_assoc (sends_of run.exchanges) out.part
                (out.unsent ∷ [])),
            (
              run.frames.0 ++ written,
              frames_then (sends_of run.exchanges) out.part run.frames.0 written run.frames.1 out.are_frames,
              Appends-trans first now later run.frames.0 written run.frames.2 appends,
            ),
          ))

      -- a write failed
      breaks_off : (ms tail : List Message) (written : List ℕ) → given ≡ ms ++ tail → AreFramesOf ms written
          → written ≢ [] → (kind : ErrorKind) → AppendsBeginning now later written
          → Gave s2 left later (Err (Write (Output kind)))
      breaks_off ms tail written is are some kind got =
          let b = broken_off ms written got.0 got.1 are some got.2 in
          not_sent b.whole b.last (b.more ++ tail) (is ∙ ap (λ l. l ++ tail) b.cut ∙ append_assoc b.whole
          (b.last ∷ b.more) tail) (Err (Write (Output kind))) (λ stop answer within. within) (λ stop. (
            tt,
            sends_of run.exchanges ++ b.whole,
            b.last,
            more_lost b.whole (Some b.last),
            more_sends b.whole (Some b.last) ∙ sym (append_assoc (sends_of run.exchanges) b.whole (b.last ∷ [])),
            record {
              frames = run.frames.0 ++ b.frames;
              frames_of_whole = frames_then (sends_of run.exchanges) b.whole run.frames.0 b.frames run.frames.1
                  b.are_frames;
              frame = b.frame;
              frame_of_next = b.is_frame;
              part = b.begun;
              missing = b.missing;
              split = b.split;
              got = subst (λ l. Appends first later l) (ap (λ l. run.frames.0 ++ l) b.written
                  ∙ sym (append_assoc run.frames.0 b.frames b.begun))
                  (Appends-trans first now later run.frames.0 got.0 run.frames.2 got.3);
            },
          ))

  module _ (a c : Standing S) (at : List ℕ) (now : Option (List ℕ)) (none : a.pending ≡ [])
      (run : Runs (phase_of a.stage) a.service at now) where
    -- the session took a message
    message_came : (m : Message) (left : List ℕ) → Begins limits at m left → (written : List ℕ)
        → Answers may a (message m) written c → Awaits c.stage c.service c.pending None left left now
    message_came m left begins written answers =
        subst (λ l. Awaits c.stage c.service l None left left now) (sym (answers.pending ∙ ap (λ l. l ++ written) none))
        (by answers.advances answers.writes)
      where
        sound : (r : Row may (a.stage, a.service) (Some m) answers.sent (answers.gone, c.service)) → IsSound r.next
        sound r = (phase_unbroken may (phase_of a.stage) r.next a.service c.service (Some m) answers.sent (row may
            (phase_of a.stage) r.next a.service c.service (Some m) answers.sent r.step)).0

        by : Row may (a.stage, a.service) (Some m) answers.sent (answers.gone, c.service)
            ⊎ End may (a.stage, a.service) exhausted answers.sent (answers.gone, c.service)
            → WritesTurn answers.sent written answers.gone c.stage → Awaits c.stage c.service written None left left now
        by (inl r) (inl all) = record {
          whole = λ later appends. subst (λ (t : Stage). Driven t c.service None left left later) (sym all.0)
              (settles r.next answers.gone c.service left later (sound r) r.now (all_sent (phase_of a.stage) a.service
              at left now run m begins r.next c.service answers.sent written later (record {
                given = answers.sent;
                next = r.next;
                step = r.step;
                offers = (refl, refl);
              }) all.1 appends));
          cut = λ some kind later got. breaks_off (phase_of a.stage) a.service at left now run m begins r.next c.service
              answers.sent r.step later answers.sent [] written (sym (append-nil answers.sent)) all.1 some kind got;
        }
        by (inl r) (inr out) = record {
          whole = λ later appends. subst (λ (t : Stage). Driven t c.service None left left later) (sym out.over)
              (runs_out (phase_of a.stage) a.service at left now run m begins r.next c.service answers.sent r.step later
              written c.stage out appends);
          cut = λ some kind later got. breaks_off (phase_of a.stage) a.service at left now run m begins r.next c.service
              answers.sent r.step later out.part (out.unsent ∷ out.more) written out.cut out.are_frames some kind got;
        }
        by (inr e) (inl all) =
            let nothing : written ≡ [] = subst (λ l. AreFramesOf l written) e.silent all.1 in record {
              whole = λ later appends. subst (λ (t : Stage). Driven t c.service None left left later)
                  (sym (all.0 ∙ e.now)) (stopped (phase_of a.stage) a.service c.service at left later (still
                  (phase_of a.stage) a.service at now later run (subst (λ l. Appends now later l) nothing appends))
                  exhausted e.answer (Err Memory) e.stops ([], ap (λ (r : Reading Message). Some r.rest) (sym begins))
                  (inl (still (phase_of a.stage) a.service at now later run (subst (λ l. Appends now later l) nothing
                  appends)).frames));
              cut = λ some. absurd (some nothing);
            }
        by (inr e) (inr out) = absurd (no_one out.part out.more out.unsent (sym out.cut ∙ e.silent))

    -- the messages ended
    closed_came : (end : ReadEnd) (rest written : List ℕ) → StreamReads limits (Some at) closed (Some end) (Some rest)
        → Answers may a closed written c → Awaits c.stage c.service c.pending (Some end) at rest now
    closed_came end rest written reads answers =
        subst (λ l. Awaits c.stage c.service l (Some end) at rest now)
        (sym (answers.pending ∙ ap (λ l. l ++ written) none)) (by answers.advances answers.writes)
      where
        by : End may (a.stage, a.service) no_more answers.sent (answers.gone, c.service)
            → WritesTurn answers.sent written answers.gone c.stage
            → Awaits c.stage c.service written (Some end) at rest now
        by e (inl all) =
            let nothing : written ≡ [] = subst (λ l. AreFramesOf l written) e.silent all.1 in record {
              whole = λ later appends.
                  let kept = still (phase_of a.stage) a.service at now later run (subst (λ l. Appends now later l)
                  nothing appends) in
                  let ends = closed_ends limits e.answer kept.exchanges first later kept.frames (Some end) (Some rest)
                  at reads in
                  subst (λ (t : Stage). Driven t c.service (Some end) at rest later) (sym (all.0 ∙ e.now)) (stopped
                  (phase_of a.stage) a.service c.service at rest later kept no_more e.answer _ e.stops ends.0 ends.1);
              cut = λ some. absurd (some nothing);
            }
        by e (inr out) = absurd (no_one out.part out.more out.unsent (sym out.cut ∙ e.silent))

  -- where nothing is unread, the rest follows the last message
  driven_as : (stage : Stage) (s1 : S) (u rest : List ℕ) (now : Option (List ℕ)) → (IsOver stage → u ≡ [])
      → Driven stage s1 None (u ++ rest) (u ++ rest) now → Driven stage s1 None (u ++ rest) rest now
  driven_as Starting s1 u rest now over run = run
  driven_as Replied s1 u rest now over run = run
  driven_as Serving s1 u rest now over run = run
  driven_as (Asked id) s1 u rest now over run = run
  driven_as (Ended outcome) s1 u rest now over gave =
      subst (λ l. Gave s1 l now (session_answer outcome.stop outcome.answer None None)) (ap (λ l. l ++ rest) (over tt))
      gave

  some_long : (l : List ℕ) → l ≢ [] → 0 < length l
  some_long [] some = absurd (some refl)
  some_long (x ∷ l) some = omega arith

  none_long : (l : List ℕ) → length l ≤ 0 → l ≡ []
  none_long [] short = refl
  none_long (x ∷ l) short = absurd (omega (arith, short))

  awaits_as : (c : Standing S) (u rest : List ℕ) (now : Option (List ℕ)) → (IsOver c.stage → u ≡ [])
      → (0 < length c.pending → u ≡ []) → Awaits c.stage c.service c.pending None (u ++ rest) (u ++ rest) now
      → Awaits c.stage c.service c.pending None (u ++ rest) rest now
  awaits_as c u rest now over paused after = record {
    whole = λ later appends. driven_as c.stage c.service u rest later over (after.whole later appends);
    cut = λ some kind later got. subst (λ l. Gave c.service l later (Err (Write (Output kind))))
        (ap (λ l. l ++ rest) (paused (some_long c.pending some))) (after.cut some kind later got);
  }

  message_of : (event : Event) → IsMessage event → (m : Message) × (event ≡ message m)
  message_of (message m) is = (m, refl)
  message_of timeout is = absurd is
  message_of closed is = absurd is
  message_of woken is = absurd is

  no_event : (stage : Stage) (event : Event) → IsAwaited stage event → IsOver stage → ⊥
  no_event (Ended outcome) event awaited over = awaited
  no_event Starting event awaited over = over
  no_event Replied event awaited over = over
  no_event Serving event awaited over = over
  no_event (Asked id) event awaited over = over

  fault_reads : (u rest : List ℕ) (fault : ReadFault) → BeginsWithFault limits u fault
      → ReadAnswers (λ (m : Message). m) (Err fault) (Some rest) (reading_within limits (u ++ rest))
  fault_reads u rest (Input kind) begins = ([], ap (λ (r : Reading Message). Some r.rest) (sym (begins rest)))
  fault_reads u rest NoMemoryToRead begins = let read = begins.within rest in (read.0, ap Some read.1)
  fault_reads u rest fault begins = (
    ap (λ (r : Reading Message). r.outcome) (begins rest),
    ap (λ (r : Reading Message). Some r.rest) (sym (begins rest)),
  )

  end_reads : (at : List ℕ) (end : ReadEnd) → IsEndOf limits at end
      → StreamReads limits (Some at) closed (Some end) (Some [])
  end_reads at AtEnd is = (
    (
      ap (λ (r : Reading Message). r.outcome) is,
      ap (λ (r : Reading Message). Some r.rest) (sym is),
    ),
    (at, sym (append-nil at)),
  )
  end_reads at (AtFault NoMemoryToRead) is = (
    let read = is.within [] in
        (read.0, ap Some (read.1 ∙ ap (λ l. read.0 ++ (reading_within limits l).rest) (append-nil at))),
    (at, sym (append-nil at)),
  )
  end_reads at (AtFault fault) is = (fault_at fault is, (at, sym (append-nil at)))
    where
      fault_at : (fault : ReadFault) → reading_within limits at ≡ record { outcome = Err fault; rest = [] }
          → ReadAnswers (λ (m : Message). m) (Err fault) (Some []) (reading_within limits at)
      fault_at (Input kind) is = ([], ap (λ (r : Reading Message). Some r.rest) (sym is))
      fault_at NoMemoryToRead is = ([], ap (λ (r : Reading Message). Some r.rest) (sym is))
      fault_at fault is = (
        ap (λ (r : Reading Message). r.outcome) is,
        ap (λ (r : Reading Message). Some r.rest) (sym is),
      )
  end_reads at end is = absurd is

  -- What follows bytes for which the session took these events.
  took : (xs : List Exchanged) (a c : Standing S) (at u rest : List ℕ) (now : Option (List ℕ)) (end : Option ReadEnd)
      → a.pending ≡ [] → (IsOver a.stage → ⊥) → Runs (phase_of a.stage) a.service at now
      → at ≡ reads_of xs ++ (u ++ rest) → FoldsTo (Exchanges limits 0 may) a xs c → BringMessages limits None xs u end
      → (IsOver c.stage → end ≡ None → u ≡ []) → (0 < length c.pending → u ≡ [])
      → Awaits c.stage c.service c.pending end (u ++ rest) rest now
  took [] a c at u rest now end none waits run text_is same stays over paused =
      subst (λ (e : Option ReadEnd). Awaits c.stage c.service c.pending e (u ++ rest) rest now) (sym stays)
      (subst (λ (b : Standing S). Awaits b.stage b.service b.pending None (u ++ rest) rest now) same (record {
        whole = λ later appends. going a.stage a.service None (u ++ rest) rest later waits (still (phase_of a.stage)
            a.service (u ++ rest) now later (subst (λ l. Runs (phase_of a.stage) a.service l now) text_is run)
            (subst (λ l. Appends now later l) none appends));
        cut = λ some. absurd (some none);
      }))
  took (x ∷ xs) a c at u rest now end none waits run text_is (mid, one, more) (inr last) over paused =
      subst (λ (e : Option ReadEnd). Awaits c.stage c.service c.pending e (u ++ rest) rest now) (sym last.2.1)
      (subst (λ (b : Standing S). Awaits b.stage b.service b.pending (Some (AtFault last.2.0)) (u ++ rest) rest now)
      mid_is (closed_came a mid (u ++ rest) now none (subst (λ l. Runs (phase_of a.stage) a.service l now) at_is run)
      (AtFault last.2.0) rest x.written (fault_reads u rest last.2.0 last.2.2, (u, refl))
      (subst (λ (e : Event). Answers may a e x.written mid) last.0 one.answers)))
    where
      mid_is : mid ≡ c
      mid_is = subst (λ (l : List Exchanged). FoldsTo (Exchanges limits 0 may) mid l c) last.1 more

      nothing : x.read ≡ []
      nothing = subst (λ (e : Event). IsReadFor limits e x.read) last.0 one.read

      at_is : at ≡ u ++ rest
      at_is = text_is ∙ ap (λ (l : List Exchanged). (x.read ++ reads_of l) ++ (u ++ rest)) last.1
          ∙ ap (λ l. (l ++ []) ++ (u ++ rest)) nothing
  took (x ∷ []) a c at u rest now end none waits run text_is (mid, one, more) (inl brings) over paused =
      let m = message_of x.event brings.0 in
      subst (λ (e : Option ReadEnd). Awaits c.stage c.service c.pending e (u ++ rest) rest now) (sym brings.1)
      (awaits_as c u rest now (λ is. over is brings.1) paused
      (subst (λ (b : Standing S). Awaits b.stage b.service b.pending None (u ++ rest) (u ++ rest) now) more
      (message_came a mid at now none run m.0 (u ++ rest) (first_read m.0 (subst (λ (e : Event).
      IsReadFor limits e x.read) m.1 one.read)) x.written
      (subst (λ (e : Event). Answers may a e x.written mid) m.1 one.answers))))
    where
      first_read : (m : Message) → IsFrameRead limits m x.read → Begins limits at m (u ++ rest)
      first_read m frame = subst (λ l. Begins limits l m (u ++ rest)) (sym (text_is ∙ append_assoc x.read []
          (u ++ rest))) (frame (u ++ rest))
  took (x ∷ y ∷ ys) a c at u rest now end none waits run text_is (mid, one, more) (inl brings) over paused =
      let m = message_of x.event brings.0 in
      let after = message_came a mid at now none run m.0 (after_read (y ∷ ys) u rest) (first_read m.0
      (subst (λ (e : Event). IsReadFor limits e x.read) m.1 one.read)) x.written
      (subst (λ (e : Event). Answers may a e x.written mid) m.1 one.answers) in
      let empty : mid.pending ≡ [] = none_long mid.pending more.1.room in
      let goes_on = no_event mid.stage y.event more.1.awaited in
      took (y ∷ ys) mid c (after_read (y ∷ ys) u rest) u rest now end empty goes_on (gone_on mid.stage mid.service None
      (after_read (y ∷ ys) u rest) (after_read (y ∷ ys) u rest) now goes_on (after.whole now
      (subst (λ l. Appends now now l) (sym empty) (Appends-nil now)))) refl more brings.1 over paused
    where
      first_read : (m : Message) → IsFrameRead limits m x.read → Begins limits at m (after_read (y ∷ ys) u rest)
      first_read m frame = subst (λ l. Begins limits l m (after_read (y ∷ ys) u rest)) (sym (text_is
          ∙ append_assoc x.read (reads_of (y ∷ ys)) (u ++ rest))) (frame (after_read (y ∷ ys) u rest))

  -- the reader failed, or all rounds were used
  pub read_fails : (stage : Stage) (s1 : S) (u rest : List ℕ) (now : Option (List ℕ)) → (IsOver stage → ⊥)
      → AwaitsMore limits u → Runs (phase_of stage) s1 (u ++ rest) now → (kind : ErrorKind)
      → Gave s1 rest now (Err (Read (Input kind)))
  read_fails stage s1 u rest now waits awaits run kind = by stage waits run
    where
      within : StopsWithin (Some rest) (reading_within limits (u ++ rest))
      within = let read = awaits_within limits u awaits rest in (read.0, ap Some read.1)

      by : (stage : Stage) → (IsOver stage → ⊥) → Runs (phase_of stage) s1 (u ++ rest) now
          → Gave s1 rest now (Err (Read (Input kind)))
      by Starting waits run = stopped starting s1 s1 (u ++ rest) rest now run no_more (Err disconnected)
          (Err (Read (Input kind))) (refl, refl) (refl, within) run.frames
      by Replied waits run = stopped replied s1 s1 (u ++ rest) rest now run no_more (Err disconnected)
          (Err (Read (Input kind))) (refl, refl) (refl, within) run.frames
      by Serving waits run = stopped serving s1 s1 (u ++ rest) rest now run no_more (Ok Closed)
          (Err (Read (Input kind))) (refl, refl) (refl, within) run.frames
      by (Asked id) waits run = stopped (asked id) s1 s1 (u ++ rest) rest now run no_more (Err shutdown_disconnected)
          (Err (Read (Input kind))) (refl, refl) (refl, within) run.frames
      by (Ended outcome) waits run = absurd (waits tt)

  -- the session is at its end, or all rounds were used
  pub finishes : (stage : Stage) (s1 : S) (u rest : List ℕ) (now : Option (List ℕ)) (end : Option ReadEnd)
      → IsOver stage ⊎ AwaitsMore limits u → EndIsKnown limits u stage end → Driven stage s1 end (u ++ rest) rest now
      → Gave s1 rest now (session_answer (outcome_of stage).stop (outcome_of stage).answer end None)
  finishes (Ended outcome) s1 u rest now end served known gave = gave
  finishes stage s1 u rest now end (inl over) known run = absurd over
  finishes stage s1 u rest now (Some end) (inr awaits) known run = absurd known.0
  finishes Starting s1 u rest now None (inr awaits) known run = read_fails Starting s1 u rest now (λ over. over) awaits
      run Other
  finishes Replied s1 u rest now None (inr awaits) known run = read_fails Replied s1 u rest now (λ over. over) awaits
      run Other
  finishes Serving s1 u rest now None (inr awaits) known run = read_fails Serving s1 u rest now (λ over. over) awaits
      run Other
  finishes (Asked id) s1 u rest now None (inr awaits) known run = read_fails (Asked id) s1 u rest now (λ over. over)
      awaits run Other

none_ended : (limits : Limits) (u : List ℕ) (stage : Stage) (end : Option ReadEnd) → (IsOver stage → ⊥)
    → EndIsKnown limits u stage end → end ≡ None
none_ended limits u stage None waits known = refl
none_ended limits u stage (Some end) waits known = absurd (waits known.0)

-- ---- the session of the loop

module _ (limits : Limits) {S : Type 0} (may : Behavior S) (s : S) (first : Option (List ℕ)) where
  -- the session stands so, between these bytes
  abbrev pub Stood : Option (List ℕ) → ByteSession S → Option (List ℕ) → Option (List ℕ) → Type 0
  Stood a session b now = IfSome a (λ text. IsSomeAnd b (λ rest. Driven limits may s text first session.core.stage
      session.service session.end (unread session ++ rest) rest now))

  -- what the session gave, if the reader's bytes are known
  abbrev pub Given : Option (List ℕ) → S → Option (List ℕ) → Option (List ℕ) → Result SessionEnd SessionFault → Type 0
  Given a s1 b now result = IfSome a (λ text. Gives limits (SessionOut may s s1) text b first now result)

  pub begins : (a : Option (List ℕ)) (session : ByteSession S)
      → standing session ≡ record { stage = Starting; service = s; pending = [] } → unread session ≡ []
      → Stood a session a first
  begins None session stands empty = tt
  begins (Some text) session stands empty =
      subst (λ l. Driven limits may s text first session.core.stage session.service session.end (l ++ text) text first)
      (sym empty) (subst (λ (b : Standing S). Driven limits may s text first b.stage b.service session.end text text
      first) (sym stands) (record {
        exchanges = [];
        read = refl;
        steps = refl;
        none_lost = refl;
        frames = ([], refl, Appends-nil first);
      }))

  module _ (old mid : ByteSession S) (same : old.input.limits ≡ limits) (most : old.most_pending ≡ 0)
      (bounds : KeepsBounds old mid) (sent : (standing old).pending ≡ []) (waits : IsOver old.core.stage → ⊥)
      (known : KnowsEnd old) where
    -- what follows a round of reading
    reads_on : (text xs ys : List ℕ) (now : Option (List ℕ)) → Driven limits may s text first old.core.stage old.service
        old.end (unread old ++ xs) xs now → ReadsSome may old xs mid ys → Awaits limits may s text first mid.core.stage
        mid.service (standing mid).pending mid.end (unread mid ++ ys) ys now
    reads_on text xs ys now driven (inl t) =
        let unended = none_ended old.input.limits (unread old) old.core.stage old.end waits known in
        let goes = goes_same limits old.input.limits 0 old.most_pending may (standing old) (standing mid) (unread old)
        old.end t.took (unread mid) mid.end same most t.goes in
        took limits may s text first goes.exchanges (standing old) (standing mid) (unread old ++ xs) (unread mid) ys now
        mid.end sent waits (gone_on limits may s text first old.core.stage old.service old.end (unread old ++ xs) xs now
        waits driven) (ap (λ l. unread old ++ l) t.split ∙ sym (append_assoc (unread old) t.took ys)
        ∙ ap (λ l. l ++ ys) goes.read ∙ append_assoc (reads_of goes.exchanges) (unread mid) ys) goes.taken
        (subst (λ (e : Option ReadEnd). BringMessages limits e goes.exchanges (unread mid) mid.end) unended goes.events)
        t.frame (λ long. t.paused (subst (λ n. n < length (standing mid).pending) (sym (bounds.1 ∙ most)) long))
    reads_on text xs ys now driven (inr ends) = at mid.end ends.end ends.comes
      where
        at_is : unread old ++ xs ≡ unread old
        at_is = ap (λ l. unread old ++ l) ends.none ∙ append-nil (unread old)

        mid_is : unread mid ++ ys ≡ unread old ++ xs
        mid_is = ap (λ l. l ++ ys) ends.unread_stays ∙ ap (λ l. unread old ++ l) (ends.left ∙ sym ends.none)

        at : (e : Option ReadEnd) → IsSomeAnd e (IsEndOf old.input.limits (unread old)) → Comes may (standing old)
            closed (standing mid) → Awaits limits may s text first mid.core.stage mid.service (standing mid).pending e
            (unread mid ++ ys) ys now
        at None is comes = absurd is
        at (Some e) is (inr kept) = absurd (waits (awaits_end limits 0 may old.core.stage kept.0))
        at (Some e) is (inl taken) =
            subst (λ l. Awaits limits may s text first mid.core.stage mid.service (standing mid).pending (Some e)
            (unread mid ++ ys) l now) (sym ends.left) (subst (λ l. Awaits limits may s text first mid.core.stage
            mid.service (standing mid).pending (Some e) l [] now) (sym mid_is) (closed_came limits may s text first
            (standing old) (standing mid) (unread old ++ xs) now sent (gone_on limits may s text first old.core.stage
            old.service old.end (unread old ++ xs) xs now waits driven) e [] taken.1 (end_reads limits may s text first
            (unread old ++ xs) e (subst (λ l. IsEndOf limits l e) (sym at_is)
            (subst (λ (l : Limits). IsEndOf l (unread old) e) same is))) taken.2))

    module _ (a b c : Option (List ℕ)) (now : Option (List ℕ)) (so_far : Stood a old b now)
        (read : IfSome b (λ xs. IsSomeAnd c (λ ys. ReadsSome may old xs mid ys))) where
      -- all that was pending was written
      pub stands_on : (new : ByteSession S) (later : Option (List ℕ)) → Appends now later (standing mid).pending
          → standing new ≡ record (standing mid) { pending = [] } → unread new ≡ unread mid → new.end ≡ mid.end
          → Stood a new c later
      stands_on new later appends stands unread_is end_is = at a b c so_far read
        where
          at : (a b c : Option (List ℕ)) → Stood a old b now
              → IfSome b (λ xs. IsSomeAnd c (λ ys. ReadsSome may old xs mid ys)) → Stood a new c later
          at None b c so_far read = tt
          at (Some text) None c so_far read = absurd so_far
          at (Some text) (Some xs) None so_far read = absurd read
          at (Some text) (Some xs) (Some ys) so_far read =
              subst (λ (e : Option ReadEnd). Driven limits may s text first new.core.stage new.service e
              (unread new ++ ys) ys later) (sym end_is) (subst (λ l. Driven limits may s text first new.core.stage
              new.service mid.end (l ++ ys) ys later) (sym unread_is) (subst (λ (t : Standing S). Driven limits may s
              text first t.stage t.service mid.end (unread mid ++ ys) ys later) (sym stands)
              ((reads_on text xs ys now so_far read).whole later appends)))

      -- a write failed
      pub breaks_at : (later : Option (List ℕ)) (fault : WriteFault) → IsOutput fault
          → AppendsBeginning now later (standing mid).pending → (standing mid).pending ≢ []
          → Given a mid.service c later (Err (Write fault))
      breaks_at later fault is got some = at a b c so_far read fault is
        where
          at : (a b c : Option (List ℕ)) → Stood a old b now
              → IfSome b (λ xs. IsSomeAnd c (λ ys. ReadsSome may old xs mid ys)) → (fault : WriteFault)
              → IsOutput fault → Given a mid.service c later (Err (Write fault))
          at None b c so_far read fault is = tt
          at (Some text) None c so_far read fault is = absurd so_far
          at (Some text) (Some xs) None so_far read fault is = absurd read
          at (Some text) (Some xs) (Some ys) so_far read (Output kind) is =
              (reads_on text xs ys now so_far read).cut some kind later got
          at (Some text) (Some xs) (Some ys) so_far read NoMemory is = absurd is

  -- the reader failed
  pub fails_at : (session : ByteSession S) (a b c : Option (List ℕ)) (now : Option (List ℕ)) (fault : ReadFault)
      → session.input.limits ≡ limits → (IsOver session.core.stage → ⊥) → HasServed session → Stood a session b now
      → Keeps b c → IsFromReader fault → Given a session.service c now (Err (Read fault))
  fails_at session a b c now fault same waits served so_far kept is = at a b c so_far kept fault is
    where
      awaits : AwaitsMore limits (unread session)
      awaits = elim served [
        | inl over ↦ absurd (waits over)
        | inr more ↦ subst (λ (l : Limits). AwaitsMore l (unread session)) same more
      ]

      at : (a b c : Option (List ℕ)) → Stood a session b now → Keeps b c → (fault : ReadFault) → IsFromReader fault
          → Given a session.service c now (Err (Read fault))
      at None b c so_far kept fault is = tt
      at (Some text) None c so_far kept fault is = absurd so_far
      at (Some text) (Some xs) None so_far kept fault is = absurd kept
      at (Some text) (Some xs) (Some ys) so_far kept (Input kind) is =
          subst (λ l. Gives limits (SessionOut may s session.service) text (Some l) first now (Err (Read (Input kind))))
          (sym kept) (read_fails limits may s text first session.core.stage session.service (unread session) xs now
          waits awaits (gone_on limits may s text first session.core.stage session.service session.end
          (unread session ++ xs) xs now waits so_far) kind)
      at (Some text) (Some xs) (Some ys) so_far kept fault is = absurd is

  -- the loop has ended
  pub ends_at : (session : ByteSession S) (a b : Option (List ℕ)) (now : Option (List ℕ))
      → session.input.limits ≡ limits → HasServed session → KnowsEnd session → Stood a session b now
      → Given a session.service b now (session_answer (outcome_of session.core.stage).stop (outcome_of
      session.core.stage).answer session.end None)
  ends_at session None b now same served known so_far = tt
  ends_at session (Some text) None now same served known so_far = absurd so_far
  ends_at session (Some text) (Some xs) now same served known so_far =
      finishes limits may s text first session.core.stage session.service (unread session) xs now session.end
      (subst (λ (l : Limits). IsOver session.core.stage ⊎ AwaitsMore l (unread session)) same served)
      (subst (λ (l : Limits). EndIsKnown l (unread session) session.core.stage session.end) same known) so_far
