-- How the reader and the writer of a session failed, act after act.
use Rattle.lsp_message.specs.Failures.{Kinds, FailsFor}
use Rattle.lsp_message.specs.Message.{Message}
use Rattle.lsp_message.specs.Told.{Parts}
use Rattle.lsp_message.specs.declared.frame.ReadFault.{ReadFault}
use Rattle.lsp_message.specs.declared.frame.ReadFault.TheVariants.{Input, HeaderTooLong, Memory as NoMemoryToRead}
use Rattle.lsp_message.specs.declared.frame.WriteFault.{WriteFault}
use Rattle.lsp_message.specs.declared.frame.WriteFault.TheVariants.{Output, Memory as NoMemory}
use Rattle.lsp_message.proofs.Failures.{never, both_for}
use Rattle.lsp_session.proofs.Knowing.{Knows}
use Rattle.lsp_session.proofs.Tellings.{gave_all, took_all, refused_one, talks_keeps}
use Rattle.lsp_session.proofs.TellsBytes.{taken-append, ends_after}
use Rattle.lsp_session.specs.Account.{gave, sending}
use Rattle.lsp_session.specs.ActBytes.{Note, EventParts, EndsAfter, bytes_taken}
use Rattle.lsp_session.specs.Boxes.{Receives}
use Rattle.lsp_session.specs.Event.{Event, closed}
use Rattle.lsp_session.specs.PassingBoxes.{stream_of}
use Rattle.lsp_session.specs.Prompt.{event_of, WaitsIn, AwaitsEnd, Meets, Talks}
use Rattle.lsp_session.specs.Session.{starting, SessionAnswer, SessionPart, Exchange, Stop, no_more, Phase, asked}
use Rattle.lsp_session.specs.Session.{broken}
use Rattle.lsp_session.specs.Session.{ended}
use Rattle.lsp_session.specs.SessionFailures.{fault_of, write_failures, WaitFails, SendFails}
use Rattle.lsp_session.specs.SessionFailures.{ReportsReader, ReportsWriter}
use Rattle.lsp_session.specs.SessionFault.{session_answer}
use Rattle.lsp_session.specs.SessionOutcome.{reason_of}
use Rattle.lsp_session.specs.StreamTransports.{inbox_of, IsUnused, StreamTransportGives, StreamTransportSends}
use Rattle.lsp_session.specs.Transcripts.{note_view, notes_of, reader_failed, reads_failed, writer_failed}
use Rattle.lsp_session.specs.Transcripts.{writes_failed}
use Rattle.lsp_session.specs.declared.lifecycle.SendFault.{SendFault}
use Rattle.lsp_session.specs.declared.loops.ReadEnd.{ReadEnd}
use Rattle.lsp_session.specs.declared.loops.ReadEnd.TheVariants.{Fault}
use Rattle.lsp_session.specs.declared.loops.frame_outbox.FrameOutbox.{FrameOutbox}
use Rattle.lsp_session.specs.declared.loops.session_outcome.StopReason.{StopReason}
use Rattle.lsp_session.specs.declared.loops.session_outcome.StopReason.TheVariants.{NoMore, Exhausted}
use Rattle.lsp_session.specs.declared.loops.stream_transport.StreamTransport.{StreamTransport}
use Rattle.lsp_session.specs.declared.loops.tolerant_inbox.TolerantInbox.{TolerantInbox}
use Rattle.lsp_session.specs.declared.loops.transcript.Noted.{Noted}
use Rattle.lsp_session.specs.declared.loops.transcript.Transcript.{Transcript}
use Rattle.std.proofs.Common.{◌≡◌, refl, sym, ◌∙◌, ap, subst, ℕ, ◌+◌, ◌-◌, ◌^◌, ◌≤◌, List, [], ◌∷◌, ◌++◌, length, map}
use Rattle.std.proofs.Common.{Bool, append_assoc, append-nil, length-append, arith, Option, Some, None, ⊎_elim, inl}
use Rattle.std.proofs.Common.{inr}
use Rattle.std.specs.List.{concat, flat_map, FoldsTo}
use Rattle.std.specs.Prelude.{Result, Ok, Err}

-- ---- waits and sends that follow one another

-- after more bytes
more_for : (fault : Option ReadFault) (m n : ℕ) (ks : Kinds) → FailsFor fault m ks → FailsFor fault (m + n) ks
more_for None m n ks fits = fits
more_for (Some (Input kind)) m n ks fits = ⊎_elim
    (λ last. inl last)
    (λ many. inr (many.0, many.1, omega (arith, many.2)))
    fits
more_for (Some HeaderTooLong) m n ks fits = tt
more_for (Some fault) m n ks fits = fits

waits_own : (end : Option ReadEnd) → WaitFails end end 0 []
waits_own None = never
waits_own (Some end) = (refl, refl)

waits_then : (x y z : Option ReadEnd) (m n : ℕ) (ks ls : Kinds) → WaitFails x y m ks → WaitFails y z n ls
    → WaitFails x z (m + n) (ks ++ ls)
waits_then None None z m n ks ls first second = both_for (fault_of z) m n ks ls first second
waits_then None (Some end) z m n ks ls first second =
    let now : Option ReadFault = fault_of (Some end) in
    subst (λ (e : Option ReadEnd). FailsFor (fault_of e) (m + n) (ks ++ ls)) (sym second.0)
    (subst (λ l. FailsFor now (m + n) l) (sym (ap (λ l. ks ++ l) second.1 ∙ append-nil ks)) (more_for now m n ks first))
waits_then (Some end) y z m n ks ls first second =
    let then_ : WaitFails (Some end) z n ls = subst (λ e. WaitFails e z n ls) first.0 second in
    (then_.0, ap (λ l. l ++ ls) first.1 ∙ then_.1)

sends_own : (fault : Option WriteFault) → SendFails fault fault []
sends_own None = refl
sends_own (Some fault) = (refl, refl)

sends_then : (x y z : Option WriteFault) (ks ls : Kinds) → SendFails x y ks → SendFails y z ls
    → SendFails x z (ks ++ ls)
sends_then None None z ks ls first second = ap (λ l. l ++ ls) first ∙ second
sends_then None (Some fault) z ks ls first second = ap (λ l. ks ++ l) second.1 ∙ append-nil ks ∙ first
    ∙ ap write_failures (sym second.0)
sends_then (Some fault) y z ks ls first second =
    let then_ : SendFails (Some fault) z ls = subst (λ f. SendFails f z ls) first.0 second in
    (then_.0, ap (λ l. l ++ ls) first.1 ∙ then_.1)

none_taken : (m : Message) (outcome : Result (Unit {0}) SendFault) (parts : Parts)
    → bytes_taken ((sending m outcome, parts) ∷ []) ≡ []
none_taken m (Ok done) parts = refl
none_taken m (Err fault) parts = refl

-- the last step
last_of : {P A : Type 0} (R : P → A → P → Type 0) (p : P) (xs : List A) (x : A) (q : P) → FoldsTo R p (xs ++ x ∷ []) q
    → (r : P) × FoldsTo R p xs r × R r x q
last_of R p [] x q run = (p, refl, subst (R p x) run.2 run.1)
last_of R p (y ∷ ys) x q run = let rest = last_of R run.0 ys x q run.2 in (
  rest.0,
  (run.0, run.1, rest.1),
  rest.2,
)

-- ---- what a session reports

pub reports_reader : (reason : StopReason) (answer : SessionAnswer) (end : Option ReadEnd) (fault : Option WriteFault)
    (t : Transcript) → WaitFails None end (length (bytes_taken (notes_of t))) (reads_failed t)
    → (reason ≡ NoMore → end ≡ None → 2 ^ 64 - 1 ≤ length (notes_of t))
    → ReportsReader (session_answer reason answer end fault) t
reports_reader stop answer end (Some (Output kind)) t fails many = tt
reports_reader stop answer end (Some NoMemory) t fails many = tt
reports_reader Exhausted answer end None t fails many = tt
reports_reader NoMore answer (Some (Fault NoMemoryToRead)) None t fails many = tt
reports_reader NoMore answer (Some (Fault fault)) None t fails many = inl fails
reports_reader NoMore answer None None t fails many = inr (refl, fails, many refl refl)
reports_reader stop (Ok end) read None t fails many = tt
reports_reader stop (Err fault) read None t fails many = tt

pub reports_writer : (reason : StopReason) (answer : SessionAnswer) (end : Option ReadEnd) (fault : Option WriteFault)
    (t : Transcript) → writes_failed t ≡ write_failures fault → ReportsWriter (session_answer reason answer end fault) t
reports_writer stop answer end (Some (Output kind)) t is = is
reports_writer stop answer end (Some NoMemory) t is = is
reports_writer Exhausted answer end None t is = is
reports_writer NoMore answer (Some (Fault NoMemoryToRead)) None t is = is
reports_writer NoMore answer (Some (Fault fault)) None t is = is
reports_writer NoMore answer None None t is = is
reports_writer stop (Ok end) read None t is = is
reports_writer stop (Err fault) read None t is = is

-- no more came, since the messages ended
ended_at : (limit : _) (before after : Option ReadEnd) (parts : Parts) → EventParts limit before closed after parts
    → EndsAfter limit before closed after → after ≡ None → ⊥
ended_at limit None None parts told ends is = told
ended_at limit None (Some end) parts told ends is = absurd (cc (is))
ended_at limit (Some end) after parts told ends is = absurd (cc (ends, is))

module _ {R W L : Type 0} (remaining : R → Option (List ℕ)) (passes : L → ReadFault → L → Type 0) (contents : W
    → Option (List ℕ)) where
  abbrev Gives : StreamTransport R W L → Event → StreamTransport R W L → Type 0
  Gives = StreamTransportGives remaining passes

  abbrev Takes : StreamTransport R W L → Message → Result (Unit {0}) SendFault → StreamTransport R W L → Type 0
  Takes = StreamTransportSends contents

  -- the transcript grew by these failures
  abbrev Fails : StreamTransport R W L → StreamTransport R W L → Type 0
  Fails old new = (notes : List Note) × (kinds : Kinds) × (lost : Kinds)
      × (notes_of new.transcript.now ≡ notes_of old.transcript.now ++ notes)
      × (reads_failed new.transcript.now ≡ reads_failed old.transcript.now ++ kinds)
      × (writes_failed new.transcript.now ≡ writes_failed old.transcript.now ++ lost)
      × WaitFails old.end new.end (length (bytes_taken notes)) kinds × SendFails old.fault new.fault lost

  fails_own : (a : StreamTransport R W L) → Fails a a
  fails_own a = (
    [],
    [],
    [],
    sym (append-nil (notes_of a.transcript.now)),
    sym (append-nil (reads_failed a.transcript.now)),
    sym (append-nil (writes_failed a.transcript.now)),
    waits_own a.end,
    sends_own a.fault,
  )

  fails_then : (a b c : StreamTransport R W L) → Fails a b → Fails b c → Fails a c
  fails_then a b c first second = (
    first.0 ++ second.0,
    first.1 ++ second.1,
    first.2 ++ second.2,
    second.3 ∙ ap (λ l. l ++ second.0) first.3 ∙ append_assoc (notes_of a.transcript.now) first.0 second.0,
    second.4 ∙ ap (λ l. l ++ second.1) first.4 ∙ append_assoc (reads_failed a.transcript.now) first.1 second.1,
    second.5 ∙ ap (λ l. l ++ second.2) first.5 ∙ append_assoc (writes_failed a.transcript.now) first.2 second.2,
    subst (λ n. WaitFails a.end c.end n (first.1 ++ second.1)) (sym (ap length (taken-append first.0 second.0)
        ∙ length-append (bytes_taken first.0) (bytes_taken second.0)))
        (waits_then a.end b.end c.end (length (bytes_taken first.0)) (length (bytes_taken second.0)) first.1 second.1
        first.6 second.6),
    sends_then a.fault b.fault c.fault first.2 second.2 first.7 second.7,
  )

  fails_received : (a : StreamTransport R W L) (event : Event) (b : StreamTransport R W L) → Gives a event b → Fails a b
  fails_received a event b gives =
      let adds = gives.4 in (
        (gave event, adds.0) ∷ [],
        adds.1,
        [],
        adds.2,
        adds.3,
        adds.4 ∙ sym (append-nil (writes_failed a.transcript.now)),
        subst (λ n. WaitFails a.end b.end n adds.1) (ap length (sym (append-nil (concat adds.0)))) adds.5,
        subst (λ (o : FrameOutbox W). SendFails a.fault o.fault []) (sym gives.1) (sends_own a.fault),
      )

  fails_sending : (a : StreamTransport R W L) (m : Message) (outcome : Result (Unit {0}) SendFault) (b : StreamTransport
      R W L) → Takes a m outcome b → Fails a b
  fails_sending a m outcome b sends =
      let adds = sends.4 in (
        (sending m outcome, sends.3.0) ∷ [],
        [],
        adds.0,
        sends.3.1,
        adds.2 ∙ sym (append-nil (reads_failed a.transcript.now)),
        adds.1,
        subst (λ n. WaitFails a.end b.end n []) (ap length (sym (none_taken m outcome sends.3.0)))
            (subst (λ (i : TolerantInbox R L). WaitFails a.end i.end 0 []) (sym sends.1) (waits_own a.end)),
        adds.3,
      )

  -- ---- how many acts there were

  abbrev size : StreamTransport R W L → ℕ
  size t = length (notes_of t.transcript.now)

  abbrev Grows : StreamTransport R W L → StreamTransport R W L → Type 0
  Grows old new = size old ≤ size new

  one_more : (a : StreamTransport R W L) (event : Event) (b : StreamTransport R W L) → Gives a event b → size a + 1
      ≤ size b
  one_more a event b gives = omega (
    arith,
    ap length gives.3.1,
    length-append (notes_of a.transcript.now) ((gave event, gives.3.0) ∷ []),
  )

  received_grows : (a : StreamTransport R W L) (event : Event) (b : StreamTransport R W L) → Gives a event b → Grows a b
  received_grows a event b gives = omega (arith, one_more a event b gives)

  sending_grows : (a : StreamTransport R W L) (m : Message) (outcome : Result (Unit {0}) SendFault) (b : StreamTransport
      R W L) → Takes a m outcome b → Grows a b
  sending_grows a m outcome b sends = omega (
    arith,
    ap length sends.3.1,
    length-append (notes_of a.transcript.now) ((sending m outcome, sends.3.0) ∷ []),
  )

  own_grows : (a : StreamTransport R W L) → Grows a a
  own_grows a = omega arith

  then_grows : (a b c : StreamTransport R W L) → Grows a b → Grows b c → Grows a c
  then_grows a b c first second = omega (arith, first, second)

  module _ (listens : Receives (StreamTransport R W L)) where
    waited_grows : (p : Phase) (event : Event) (old new : StreamTransport R W L) → WaitsIn Gives listens p old event new
        → size old + 1 ≤ size new
    waited_grows (asked i) event old new waits = one_more old event new waits
    waited_grows (broken fault) event old new waits = absurd waits
    waited_grows (ended answer) event old new waits = absurd waits
    waited_grows p event old new waits =
        let last = last_of Gives old waits.0.passed event new waits.0.received in
        let first = gave_all Gives listens Takes Grows own_grows then_grows received_grows sending_grows waits.0.passed
        old last.0 last.1 in
        omega (arith, first, one_more last.0 event new last.2)

    turns_grow : (late : Bool) (xs : List Exchange) (old new : Phase × StreamTransport R W L)
        → FoldsTo (Meets Gives listens Takes late) old xs new → size old.1 + length xs ≤ size new.1
    turns_grow late [] old new run = subst (λ (t : Phase × StreamTransport R W L). size old.1 + 0 ≤ size t.1) run
        (omega arith)
    turns_grow late (x ∷ xs) old new run =
        let meets = run.1 in
        let waited = waited_grows old.0 (event_of x.came) old.1 meets.met meets.waited in
        let took = took_all Gives listens Takes Grows own_grows then_grows received_grows sending_grows x.sent meets.met
        meets.mid meets.taken in
        let lost = refused_one Gives listens Takes Grows own_grows then_grows received_grows sending_grows x.not_sent
        run.0.0 meets.mid run.0.1 meets.refuses in
        omega (arith, waited, took, lost, turns_grow late xs run.0 new run.2)

    -- the messages ended, if that was awaited
    closed_ends : (a b : StreamTransport R W L) → Gives a closed b → b.end ≡ None → ⊥
    closed_ends a b gives none =
        ended_at a.limits a.end b.end gives.3.0 gives.3.3.0 (ends_after passes a.limits (
          stream_of remaining (inbox_of a),
          a.policy.now,
        ) (stream_of remaining (inbox_of b), b.policy.now) closed gives.0.0) none

    waited_ends : (p : Phase) (old new : StreamTransport R W L) → WaitsIn Gives listens p old closed new
        → new.end ≡ None → ⊥
    waited_ends (asked i) old new waits none = closed_ends old new waits none
    waited_ends (broken fault) old new waits none = waits
    waited_ends (ended answer) old new waits none = waits
    waited_ends p old new waits none =
        let last = last_of Gives old waits.0.passed closed new waits.0.received in
        closed_ends last.0 new last.2 none

    no_more_of : (stop : Stop) → NoMore ≡ reason_of stop → stop ≡ no_more
    no_more_of no_more is = refl
    no_more_of stop is = absurd (cc (is))

    module _ (P Q : SessionPart) (reason : StopReason) (knows : Knows P Q reason) (old new : StreamTransport R W L)
        (unused : IsUnused old) (answer : SessionAnswer) (talks : Talks Gives listens Takes starting P old answer new)
      where
        many : reason ≡ NoMore → new.end ≡ None → 2 ^ 64 - 1 ≤ length (notes_of new.transcript.now)
        many is none =
            let known = knows talks.exchanges talks.stop answer talks.part in
            let stopped = no_more_of talks.stop (sym is ∙ known.1.0) in
            let h = talks.history in
            let turned = turns_grow h.passes_late talks.exchanges (starting, old) (h.reached, h.mid) h.turns in
            at h.mid turned (subst (λ (stop : Stop). AwaitsEnd Gives listens h.reached (length talks.exchanges) stop
            h.mid new) stopped h.ends)
          where
            at : (mid : StreamTransport R W L) → size old + length talks.exchanges ≤ size mid
                → AwaitsEnd Gives listens talks.history.reached (length talks.exchanges) no_more mid new
                → 2 ^ 64 - 1 ≤ size new
            at mid turned (inl waits) = absurd (waited_ends talks.history.reached mid new waits none)
            at mid turned (inr all) = omega (arith, turned, all.0, ap (λ (t : StreamTransport R W L). size t) all.1)

        failed : Fails old new
        failed = talks_keeps Gives listens Takes Fails fails_own fails_then fails_received fails_sending starting P old
            new answer talks

        no_acts : (t : Transcript) → notes_of t ≡ [] → (reads_failed t ≡ []) × (writes_failed t ≡ [])
        no_acts t none = at t.acts none
          where
            at : (acts : List Noted) → map note_view acts ≡ [] → (flat_map reader_failed acts ≡ [])
                × (flat_map writer_failed acts ≡ [])
            at [] none = (refl, refl)
            at (act ∷ acts) none = absurd (cc (none))

        noted : failed.0 ≡ notes_of new.transcript.now
        noted = sym (failed.3 ∙ ap (λ l. l ++ failed.0) unused.2)

        pub session_reports_reader : ReportsReader (session_answer reason answer new.end new.fault) new.transcript.now
        session_reports_reader =
            let kinds : failed.1 ≡ reads_failed new.transcript.now = sym (failed.4 ∙ ap (λ l. l ++ failed.1)
            (no_acts old.transcript.now unused.2).0) in
            let waits : WaitFails None new.end (length (bytes_taken (notes_of new.transcript.now)))
            (reads_failed new.transcript.now) =
            subst (λ (e : Option ReadEnd). WaitFails e new.end (length (bytes_taken (notes_of new.transcript.now)))
            (reads_failed new.transcript.now)) unused.0
            (subst (λ l. WaitFails old.end new.end (length (bytes_taken l)) (reads_failed new.transcript.now)) noted
            (subst (λ l. WaitFails old.end new.end (length (bytes_taken failed.0)) l) kinds failed.6)) in
            reports_reader reason answer new.end new.fault new.transcript.now waits many

        pub session_reports_writer : ReportsWriter (session_answer reason answer new.end new.fault) new.transcript.now
        session_reports_writer =
            let lost : SendFails None new.fault failed.2 = subst (λ (f : Option WriteFault). SendFails f new.fault
            failed.2) unused.1 failed.7 in
            reports_writer reason answer new.end new.fault new.transcript.now (failed.5 ∙ ap (λ l. l ++ failed.2)
            (no_acts old.transcript.now unused.2).1 ∙ lost)
