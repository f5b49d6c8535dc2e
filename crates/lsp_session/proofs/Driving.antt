-- A session that is driven turn by turn: what has come of it so far.
use Rattle.lsp_message.specs.Message.{Message}
use Rattle.lsp_message.specs.Id.{Id}
use Rattle.lsp_session.proofs.Ran.{StepCase, Idle, row, no_one, at_initialize, at_initialized, at_served, at_woken}
use Rattle.lsp_session.proofs.Ran.{at_shutdown, idle, early_request, early_note, unasked, uninvited, leaves, exits}
use Rattle.lsp_session.proofs.Ran.{late, stays, phase_unbroken, IsSound}
use Rattle.lsp_session.specs.Boxes.{Sends, Receives, Takes, Offers}
use Rattle.lsp_session.specs.Event.{Event, message, timeout, closed, woken}
use Rattle.lsp_session.specs.Machine.{phase_of, StandsIn, End, Advances, IsAwaited, sends_with, reply_of, outcome_of}
use Rattle.lsp_session.specs.Outputs.{SendsAll, RefusesOne}
use Rattle.lsp_session.specs.Prompt.{event_of, WaitsIn, AwaitsEnd, Refuses, Meets, Talks}
use Rattle.lsp_session.specs.ProtocolError.{ProtocolFault, fault_of_refusal}
use Rattle.lsp_session.specs.Replies.{null_reply}
use Rattle.lsp_session.specs.Session.{Behavior, SessionAnswer, SessionPart, Exchange, Stop, no_more, timed_out}
use Rattle.lsp_session.specs.Session.{exhausted, decided, refused, Step, Steps, Stops, TakesTurn}
use Rattle.lsp_session.specs.Session.{AfterRefusal, SessionFrom, any_service, phase_after, Phase, starting, replied}
use Rattle.lsp_session.specs.Session.{serving, asked, broken, ended}
use Rattle.lsp_session.specs.SessionLaws.{Both}
use Rattle.lsp_session.specs.SessionOutcome.{reason_of, reason_of_fault, served_by, StopsFor}
use Rattle.lsp_session.specs.TransportTurn.{SendsTurn, TurnsOn}
use Rattle.lsp_session.specs.declared.lifecycle.SendFault.{SendFault}
use Rattle.lsp_session.specs.declared.lifecycle.SendFault.TheVariants.{Closed as IsClosed, Memory as IsFull}
use Rattle.lsp_session.specs.declared.loops.machine.Stage.{Stage}
use Rattle.lsp_session.specs.declared.loops.machine.Stage.TheVariants.{Starting, Replied, Serving, Asked, Ended}
use Rattle.lsp_session.specs.declared.loops.session_outcome.SessionOutcome.{SessionOutcome}
use Rattle.lsp_session.specs.declared.loops.session_outcome.StopReason.{StopReason}
use Rattle.lsp_session.specs.declared.loops.session_outcome.StopReason.TheVariants.{Decided, Refused}
use Rattle.std.proofs.Common.{◌≡◌, refl, sym, ap, subst, ◌∙◌, inl, inr, ◌⊎◌, ◌≤◌, ◌-◌, ◌^◌, ℕ, ◌+◌, List, [], ◌∷◌, ◌++◌}
use Rattle.std.proofs.Common.{length, length-append, append_assoc, arith, Option, Some, None}
use Rattle.std.proofs.lemmas.Fn.{FoldsTo-push}
use Rattle.std.specs.List.{FoldsTo}
use Rattle.std.specs.Prelude.{Result, Ok, Err, MatchOption}

refusal_reason : (refusal : SendFault) → reason_of_fault (fault_of_refusal refusal) ≡ Refused
refusal_reason (IsClosed back) = refl
refusal_reason (IsFull back) = refl

-- ---- a row of the table is one of any service

module _ {S : Type 0} (may : Behavior S) where
  abbrev pub any : Behavior (Unit {0})
  any = any_service may.passes_late

  any_case : (p q : Phase) (s s' : S) (came : Option Message) (given : List Message) → StepCase may p s came given q s'
      → Step any p tt came given q tt
  any_case p q s s' came given (at_initialize i method params outcome here is asks gives output next) =
      rw (here, is, asks) (outcome, tt, output, next)
  any_case p q s s' came given (at_initialized m here there is gives next) = rw (here, there, is) (tt, next)
  any_case p q s s' came given (at_served m here there is gives next) = rw (here, there, is) (tt, next)
  any_case p q s s' came given (at_woken here none gives next) = rw (here, none) (tt, next)
  any_case p q s s' came given (at_shutdown i method params parting here is asks gives output next) =
      rw (here, is, asks) (parting, tt, output, next)
  any_case p q s s' came given (idle m there same step row) = rw there (step (Unit {0}) any tt refl)

  any_turn : (p q : Phase) (s s' : S) (x : Exchange) → TakesTurn may (p, s) x (q, s') → TakesTurn any (p, tt) x (q, tt)
  any_turn p q s s' x turn = record {
    given = turn.given;
    next = turn.next;
    step = any_case p turn.next s s' x.came turn.given (row may p turn.next s s' x.came turn.given turn.step);
    offers = turn.offers;
  }

  any_stop : (p : Phase) (s s' : S) (stop : Stop) (answer : SessionAnswer) → Stops may p s stop answer s'
      → Stops any p tt stop answer tt
  any_stop (ended by) s s' decided answer stops = (stops.0, refl)
  any_stop (ended by) s s' stop answer stops = absurd stops
  any_stop (broken by) s s' (refused fault) answer stops = (stops.0, stops.1, refl)
  any_stop (broken by) s s' stop answer stops = absurd stops
  any_stop p s s' decided answer stops = absurd stops
  any_stop p s s' (refused fault) answer stops = absurd stops
  any_stop starting s s' no_more answer stops = (stops.0, refl)
  any_stop replied s s' no_more answer stops = (stops.0, refl)
  any_stop serving s s' no_more answer stops = (stops.0, refl)
  any_stop (asked i) s s' no_more answer stops = (stops.0, refl)
  any_stop (asked i) s s' timed_out answer stops = (stops.0, refl)
  any_stop p s s' timed_out answer stops = absurd stops
  any_stop (asked i) s s' exhausted answer stops = (stops.0, refl)
  any_stop serving s s' exhausted answer stops = stops
  any_stop p s s' exhausted answer stops = (stops.0, inl refl)

  -- `shutdown` came, or nothing is given
  pub asks_so : (p : Phase) (s s' : S) (came : Option Message) (given : List Message) (id : Id)
      → StepCase may p s came given (asked id) s'
      → (given ≡ []) ⊎ ((p ≡ serving) × (parting : List Message) × (given ≡ parting ++ null_reply id ∷ []))
  asks_so p s s' came given id (at_initialize i method params outcome e is e2 e3 e4 e5) = absurd (by outcome e5)
    where
      by : (outcome : _) → asked id ≡ phase_after outcome → ⊥
      by (Ok result) e = cc (e)
      by (Err error) e = cc (e)
  asks_so p s s' came given id (at_initialized m e is e2 e3 e4) = absurd (cc (e4))
  asks_so p s s' came given id (at_served m e is e2 e3 e4) = absurd (cc (e4))
  asks_so p s s' came given id (at_woken e is e2 e3) = absurd (cc (e3))
  asks_so p s s' came given id (at_shutdown i method params parting e is e2 e3 e4 e5) =
      let same : i ≡ id = cc (e5) in inr (e, parting, rw (sym same) e4)
  asks_so p s s' came given id (idle m is same any case) = by case
    where
      by : Idle p m given (asked id)
          → (given ≡ []) ⊎ ((p ≡ serving) × (parting : List Message) × (given ≡ parting ++ null_reply id ∷ []))
      by (early_request i method params r e e1 e2 e3 e4) = absurd (cc (e4))
      by (early_note e e1 e2 e3 e4) = inl e3
      by (unasked shown e e1 e2 e3 e4) = inl e3
      by (uninvited shown e e1 e2 e3) = inl e2
      by (leaves e e1 e2 e3) = inl e2
      by (exits i e e1 e2 e3) = inl e2
      by (late i e e1 e2 e3) = inl e2
      by (stays i shown e e1 e2 e3) = inl e2

-- a refusal that ends the session
breaks_after : (more : List Message) (next : Phase) (fault : SendFault)
    → (more ≡ [] → (i : Id) → next ≡ asked i → ⊥) → AfterRefusal more next (broken fault)
breaks_after [] (asked i) fault other = absurd (other refl i refl)
breaks_after [] starting fault other = (fault, refl)
breaks_after [] replied fault other = (fault, refl)
breaks_after [] serving fault other = (fault, refl)
breaks_after [] (broken f) fault other = (fault, refl)
breaks_after [] (ended by) fault other = (fault, refl)
breaks_after (m ∷ more) next fault other = (fault, refl)

serving_alone : (old : Stage) → phase_of old ≡ serving → old ≡ Serving
serving_alone Serving e = refl
serving_alone old e = absurd (cc (e))

-- the reply to `shutdown` is due only where `exit` is awaited next
due_asked : (gone old : Stage) (id : Id) → reply_of gone old ≡ Some id → phase_of gone ≡ asked id
due_asked (Asked i) Serving id e = let same : i ≡ id = cc (e) in ap (λ (j : Id). asked j) same
due_asked gone old id e = absurd (cc (e))

-- ---- what has come of a session so far

module _ {S L : Type 0} (may : Behavior S) (receives listens : Receives L) (sends : Sends L) (s : S) (t : L) where
  -- it ends in such a way, and for this reason
  abbrev pub From : StopReason → S → SessionPart
  From reason s' = Both (SessionFrom may starting s s') (StopsFor reason)

  -- how it ended
  abbrev pub Ran : SessionOutcome → S → L → Type 0
  Ran outcome s' t' = Talks receives listens sends starting (From outcome.stop s') t outcome.answer t'

  -- at least so many exchanges led to this phase
  pub record Goes (count : ℕ) (p : Phase) (s' : S) (t' : L) : Type 0 where
    pub exchanges : List Exchange
    pub many : count ≤ length exchanges
    pub turns : FoldsTo (Meets receives listens sends may.passes_late) (starting, t) exchanges (p, t')
    pub steps : Steps may starting s exchanges p s'

  abbrev pub Stands : Stage → ℕ → S → L → Type 0
  Stands (Ended outcome) count s' t' = Ran outcome s' t'
  Stands stage count s' t' = Goes count (phase_of stage) s' t'

  pub begins : Stands Starting 0 s t
  begins = record { exchanges = []; many = omega arith; turns = refl; steps = refl }

  -- it stops
  stops_so : (count : ℕ) (p : Phase) (s1 s2 : S) (t1 t2 : L) (goes : Goes count p s1 t1) (stop : Stop)
      (answer : SessionAnswer) → Stops may p s1 stop answer s2
      → AwaitsEnd receives listens p (length goes.exchanges) stop t1 t2 → (reason : StopReason)
      → reason ≡ reason_of stop → Talks receives listens sends starting (From reason s2) t answer t2
  stops_so count p s1 s2 t1 t2 goes stop answer stops ends reason why = record {
    exchanges = goes.exchanges;
    stop = stop;
    history = record {
      passes_late = may.passes_late;
      reached = p;
      mid = t1;
      turns = goes.turns;
      stopped = any_stop may p s1 s2 stop answer stops;
      ends = ends;
    };
    part = (record { last = p; after = s1; reached = goes.steps; stopped = stops }, why);
  }

  -- one more exchange
  one_more : (count : ℕ) (p q : Phase) (s1 s2 : S) (t1 met mid t2 : L) (x : Exchange) → Goes count p s1 t1
      → WaitsIn receives listens p t1 (event_of x.came) met → TakesTurn may (p, s1) x (q, s2)
      → FoldsTo (Takes sends) met x.sent mid → Refuses receives listens sends x.not_sent q mid t2
      → Goes (count + 1) q s2 t2
  one_more count p q s1 s2 t1 met mid t2 x goes waits turn taken refuses = record {
    exchanges = goes.exchanges ++ x ∷ [];
    many = rw (length-append goes.exchanges (x ∷ [])) (omega (arith, goes.many));
    turns = FoldsTo-push (Meets receives listens sends may.passes_late) (starting, t) goes.exchanges (p, t1) x (q, t2)
        goes.turns (record {
          turn = any_turn may p q s1 s2 x turn;
          met = met;
          waited = waits;
          mid = mid;
          taken = taken;
          refuses = refuses;
        });
    steps = FoldsTo-push (TakesTurn may) (starting, s) goes.exchanges (p, s1) x (q, s2) goes.steps turn;
  }

  -- where the session goes on, or a message decided
  settles : (count : ℕ) (next : Phase) (s2 : S) (t2 : L) (gone : Stage) → IsSound next → StandsIn next gone
      → Goes count next s2 t2 → Stands gone count s2 t2
  settles count (ended answer) s2 t2 gone sound now goes =
      rw now (stops_so count (ended answer) s2 s2 t2 t2 goes decided answer (refl, refl) refl Decided refl)
  settles count (broken fault) s2 t2 gone sound now goes = absurd sound
  settles count starting s2 t2 Starting sound now goes = goes
  settles count replied s2 t2 Replied sound now goes = goes
  settles count serving s2 t2 Serving sound now goes = goes
  settles count (asked i) s2 t2 (Asked id) sound now goes =
      let same : id ≡ i = cc (now) in rw same goes
  settles count starting s2 t2 gone sound now goes = absurd (cc (now))
  settles count replied s2 t2 gone sound now goes = absurd (cc (now))
  settles count serving s2 t2 gone sound now goes = absurd (cc (now))
  settles count (asked i) s2 t2 gone sound now goes = absurd (cc (now))

  module _ (count : ℕ) (p : Phase) (s1 s2 : S) (t1 t2 met mid : L) (goes : Goes count p s1 t1) (old gone new : Stage)
      (place : phase_of old ≡ p) (sent : List Message) (reply : Option Id) (due : reply ≡ reply_of gone old) where
    module _ (came : Option Message) (waits : WaitsIn receives listens p t1 (event_of came) met) (next : Phase)
        (step : Step may p s1 came (sends_with sent reply) next s2) (now : StandsIn next gone) where
      step_case : StepCase may p s1 came (sends_with sent reply) next s2
      step_case = row may p next s1 s2 came (sends_with sent reply) step

      sound : IsSound next
      sound = (phase_unbroken may p next s1 s2 came (sends_with sent reply) step_case).0

      -- all was taken
      all_taken : (output : List Message) → sends_with sent reply ≡ output → FoldsTo (Takes sends) met output t2
          → Stands gone (count + 1) s2 t2
      all_taken output is taken =
          let x : Exchange = record { came = came; sent = output; not_sent = None } in
          settles (count + 1) next s2 t2 gone sound now (one_more count p next s1 s2 t1 met t2 t2 x goes waits
          (record { given = sends_with sent reply; next = next; step = step; offers = (sym is, refl) }) taken refl)

      next_asked : (id : Id) → reply ≡ Some id → next ≡ asked id
      next_asked id is = at next now (due_asked gone old id (sym due ∙ is))
        where
          at : (next : Phase) → StandsIn next gone → phase_of gone ≡ asked id → next ≡ asked id
          at (ended answer) now place = let never : ended answer ≡ asked id = rw now at place in absurd (cc (never))
          at starting now place = sym now ∙ place
          at replied now place = sym now ∙ place
          at serving now place = sym now ∙ place
          at (asked i) now place = sym now ∙ place
          at (broken fault) now place = sym now ∙ place

      -- the reply to `shutdown` got lost
      reply_lost : (id : Id) → reply ≡ Some id → FoldsTo (Takes sends) met sent mid → (fault : SendFault) → sends mid
          (null_reply id) (Err fault) t2 → Stands gone (count + 1) s2 t2
      reply_lost id is taken fault refuses =
          let x : Exchange = record { came = came; sent = sent; not_sent = Some (null_reply id) } in
          let goes_to = next_asked id is in
          settles (count + 1) next s2 t2 gone sound now (one_more count p next s1 s2 t1 met mid t2 x goes waits
          (record {
            given = sends_with sent reply;
            next = next;
            step = step;
            offers = ([], rw is refl, rw goes_to refl);
          }) taken (rw goes_to (fault, refuses)))

      -- what follows a message of the service that was refused
      abbrev behind : List Message → List Message
      behind more = sends_with more reply

      with_cut : (reply : Option Id) (part more : List Message) (m : Message) → sent ≡ part ++ m ∷ more
          → sends_with sent reply ≡ part ++ m ∷ sends_with more reply
      with_cut None part more m is = is
      with_cut (Some id) part more m is = rw is (append_assoc part (m ∷ more) (null_reply id ∷ []))

      whole_cut : (fault : ProtocolFault) (lost : RefusesOne sends met sent fault mid) → sends_with sent reply
          ≡ lost.part ++ lost.unsent ∷ behind lost.more
      whole_cut fault lost = with_cut reply lost.part lost.more lost.unsent lost.cut

      not_last : (fault : ProtocolFault) (lost : RefusesOne sends met sent fault mid) → behind lost.more ≡ []
          → (i : Id) → next ≡ asked i → ⊥
      not_last fault lost none i goes_to =
          elim (asks_so may p s1 s2 came (sends_with sent reply) i (subst (λ (q : Phase). StepCase may p s1 came
          (sends_with sent reply) q s2) goes_to step_case)) [
            | inl silent ↦ no_one lost.part (behind lost.more) lost.unsent (sym (whole_cut fault lost) ∙ silent)
            | inr asks ↦
                let old_is : old ≡ Serving = serving_alone old (place ∙ asks.0) in
                let r : reply ≡ Some i = due ∙ ap (λ (o : Stage). reply_of gone o) old_is ∙ of_gone gone (rw goes_to at
                now) in
                never_none lost.more i (subst (λ (o : Option Id). sends_with lost.more o ≡ []) r none)
          ]
        where
          of_gone : (gone : Stage) → StandsIn (asked i) gone → reply_of gone Serving ≡ Some i
          of_gone (Asked id) now = let same : id ≡ i = cc (now) in ap (λ (j : Id). Some j) same
          of_gone gone now = absurd (cc (now))

          never_none : (ms : List Message) (id : Id) → sends_with ms (Some id) ≡ [] → ⊥
          never_none ms id e = no_one ms [] (null_reply id) e

      message_refused : (fault : ProtocolFault) → RefusesOne sends met sent fault mid → t2 ≡ mid
          → new ≡ Ended (served_by (Err fault)) → Stands new (count + 1) s2 t2
      message_refused fault lost same is =
          let x : Exchange = record { came = came; sent = lost.part; not_sent = Some lost.unsent } in
          let more_goes = one_more count p (broken lost.refusal) s1 s2 t1 met lost.mid t2 x goes waits (record {
            given = sends_with sent reply;
            next = next;
            step = step;
            offers = (
              behind lost.more,
              whole_cut fault lost,
              breaks_after (behind lost.more) next lost.refusal (not_last fault lost),
            );
          }) lost.taken (rw same lost.refuses) in
          rw is (stops_so (count + 1) (broken lost.refusal) s2 s2 t2 t2 more_goes (refused lost.refusal) (Err fault) (
            refl,
            ap (λ (f : ProtocolFault). Err f) lost.is,
            refl,
          ) refl (reason_of_fault fault) (ap reason_of_fault lost.is ∙ refusal_reason lost.refusal))

      -- a row of the table
      turned : (outcome : Result (Unit {0}) ProtocolFault) → SendsAll sends met sent outcome mid
          → SendsTurn receives listens sends outcome reply gone mid new t2 → Stands new (count + 1) s2 t2
      turned (Err fault) lost rest = message_refused fault lost rest.1 rest.0
      turned (Ok done) taken rest = rw rest.0 (by_reply reply refl rest.1)
        where
          by_offer : (id : Id) → reply ≡ Some id → (outcome : Result (Unit {0}) SendFault)
              → sends mid (null_reply id) outcome t2
              → Stands gone (count + 1) s2 t2
          by_offer id is (Ok done) takes = all_taken (sent ++ null_reply id ∷ []) (rw is refl) (FoldsTo-push
              (Takes sends) met sent mid (null_reply id) t2 taken takes)
          by_offer id is (Err fault) refuses = reply_lost id is taken fault refuses

          by_reply : (r : Option Id) → reply ≡ r → MatchOption r (t2 ≡ mid) (λ id. Offers sends (null_reply id) mid t2)
              → Stands gone (count + 1) s2 t2
          by_reply None is same = all_taken sent (rw is refl) (rw same taken)
          by_reply (Some id) is offers = by_offer id is offers.outcome offers.sent

    -- nothing is sent
    quiet : (outcome : Result (Unit {0}) ProtocolFault) → sends_with sent reply ≡ []
        → SendsAll sends met sent outcome mid → SendsTurn receives listens sends outcome reply gone mid new t2
        → (new ≡ gone) × (t2 ≡ met)
    quiet outcome none all rest = by_reply reply refl outcome all rest
      where
        by_reply : (r : Option Id) → reply ≡ r → (outcome : Result (Unit {0}) ProtocolFault)
            → SendsAll sends met sent outcome mid → SendsTurn receives listens sends outcome r gone mid new t2
            → (new ≡ gone) × (t2 ≡ met)
        by_reply (Some id) is outcome all rest = absurd (no_one sent [] (null_reply id) (rw is at none))
        by_reply None is (Err fault) lost rest =
            let silent : sent ≡ [] = rw is at none in
            absurd (no_one lost.part lost.more lost.unsent (sym lost.cut ∙ silent))
        by_reply None is (Ok done) taken rest =
            let silent : sent ≡ [] = rw is at none in
            let still : met ≡ mid = rw silent at taken in
            (rest.0, rest.1 ∙ sym still)

  -- a turn in a phase in which something is awaited
  turn_on : (count : ℕ) (old new : Stage) (s1 s2 : S) (t1 t2 : L) → Goes count (phase_of old) s1 t1
      → TurnsOn receives listens sends may (old, s1, t1) (new, s2, t2) → Stands new (count + 1) s2 t2
  turn_on count old new s1 s2 t1 t2 goes x = at x.event x.awaits x.advances
    where
      stops_at : (stop : Stop) → AwaitsEnd receives listens (phase_of old) (length goes.exchanges) stop t1 x.met
          → End may (old, s1) stop (sends_with x.sent x.reply) (x.gone, s2) → Stands new (count + 1) s2 t2
      stops_at stop waits e =
          let q = quiet count (phase_of old) s1 s2 t1 t2 x.met x.mid goes old x.gone new refl x.sent x.reply x.due
          x.outcome e.silent x.sends_all x.rest in
          rw (q.0, e.now, q.1) (stops_so count (phase_of old) s1 s2 t1 x.met goes stop e.answer e.stops waits
          (reason_of stop) refl)

      at : (event : Event) → WaitsIn receives listens (phase_of old) t1 event x.met
          → Advances may (old, s1) event (sends_with x.sent x.reply) (x.gone, s2) → Stands new (count + 1) s2 t2
      at (message m) waits (inl r) = turned count (phase_of old) s1 s2 t1 t2 x.met x.mid goes old x.gone new refl x.sent
          x.reply x.due (Some m) waits r.next r.step r.now x.outcome x.sends_all x.rest
      at (message m) waits (inr e) = stops_at exhausted (Some m, waits) e
      at woken waits (inl r) = turned count (phase_of old) s1 s2 t1 t2 x.met x.mid goes old x.gone new refl x.sent
          x.reply x.due None waits r.next r.step r.now x.outcome x.sends_all x.rest
      at woken waits (inr e) = stops_at exhausted (None, waits) e
      at timeout waits e = stops_at timed_out waits e
      at closed waits e = stops_at no_more (inl waits) e

  pub turn_stands : (count : ℕ) (old new : Stage) (s1 s2 : S) (t1 t2 : L) → Stands old count s1 t1
      → TurnsOn receives listens sends may (old, s1, t1) (new, s2, t2) → Stands new (count + 1) s2 t2
  turn_stands count Starting new s1 s2 t1 t2 so_far x = turn_on count Starting new s1 s2 t1 t2 so_far x
  turn_stands count Replied new s1 s2 t1 t2 so_far x = turn_on count Replied new s1 s2 t1 t2 so_far x
  turn_stands count Serving new s1 s2 t1 t2 so_far x = turn_on count Serving new s1 s2 t1 t2 so_far x
  turn_stands count (Asked id) new s1 s2 t1 t2 so_far x = turn_on count (Asked id) new s1 s2 t1 t2 so_far x
  turn_stands count (Ended o) new s1 s2 t1 t2 so_far x = absurd (not_over x.event x.awaited)
    where
      not_over : (event : Event) → IsAwaited (Ended o) event → ⊥
      not_over event awaited = awaited

  -- it took as many events as are counted
  pub spent : (stage : Stage) (s' : S) (t' : L) → Stands stage (2 ^ 64 - 1) s' t' → Ran (outcome_of stage) s' t'
  spent Starting s' t' goes = stops_so (2 ^ 64 - 1) starting s' s' t' t' goes no_more _ (refl, refl)
      (inr (goes.many, refl)) _ refl
  spent Replied s' t' goes = stops_so (2 ^ 64 - 1) replied s' s' t' t' goes no_more _ (refl, refl)
      (inr (goes.many, refl)) _ refl
  spent Serving s' t' goes = stops_so (2 ^ 64 - 1) serving s' s' t' t' goes no_more _ (refl, refl)
      (inr (goes.many, refl)) _ refl
  spent (Asked id) s' t' goes = stops_so (2 ^ 64 - 1) (asked id) s' s' t' t' goes no_more _ (refl, refl)
      (inr (goes.many, refl)) _ refl
  spent (Ended o) s' t' ran = ran
