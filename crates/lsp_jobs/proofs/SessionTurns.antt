-- The turns of a server with jobs through its session, one at each exchange since the result of `initialize`.
use Rattle.serde_json.specs.Data.{Data}
use Rattle.std.proofs.Common.{◌≡◌, ◌⊎◌, refl, sym, ◌∙◌, ap, subst, inl, inr, ℕ, Bool, true, false, List, [], ◌∷◌, ◌++◌}
use Rattle.std.proofs.Common.{append_assoc, append-nil, Option, Some, None, codes}
use Rattle.std.proofs.lemmas.Slice.Eq.{bytes_eq-Decides}
use Rattle.std.specs.Bool.{MatchBool}
use Rattle.std.specs.Prelude.{Result, Ok, Err, IsSomeAnd}
use Rattle.lsp_message.specs.Id.{Id}
use Rattle.lsp_message.specs.Message.{Message, ErrorObject, request, notification, response}
use Rattle.lsp_message.specs.Methods.{is_initialize, is_initialized}
use Rattle.lsp_queue.specs.Queue.{count_of}
use Rattle.lsp_session.proofs.Ran.{TurnCase, turn_case, whole as all_taken, lost_reply, breaks, none_broken, no_one}
use Rattle.lsp_session.proofs.Ran.{Idle, early_request, early_note, unasked, uninvited, leaves, exits, late, stays}
use Rattle.lsp_session.proofs.Ran.{StepCase, at_initialize, at_initialized, at_served, at_woken, at_shutdown, idle, row}
use Rattle.lsp_session.proofs.Ran.{part_one, IsWhole}
use Rattle.lsp_session.specs.Replies.{IsEarlyReply}
use Rattle.lsp_session.specs.Session.{Behavior, Exchange, offered, SessionAnswer, Stop, Phase, starting}
use Rattle.lsp_session.specs.Session.{replied as in_reply, serving, broken, decided, exhausted, no_more, phase_after}
use Rattle.lsp_session.specs.Session.{refused, timed_out, Step, Steps, Stops}
use Rattle.lsp_session.specs.SessionLaws.{EndsWithResult}
use Rattle.lsp_session.specs.declared.lifecycle.SendFault.{SendFault}
use Rattle.lsp_acts.proofs.Acting.{acts_at}
use Rattle.lsp_acts.proofs.Counting.{Fresh}
use Rattle.lsp_acts.specs.Acts.{Act, Queues, TakesBack, unsent}
use Rattle.lsp_acts.specs.Law.{AnswersInitialize, Call, Initializes}
use Rattle.lsp_acts.specs.ServerApplication.{with_queues, OpensSending, WorksSending}
use Rattle.lsp_acts.specs.SentByActs.{ActsAt, acts_done_at, all_sends, queues_at}
use Rattle.lsp_acts.specs.View as queues
use Rattle.lsp_acts.specs.declared.server_application.ServerApplication.{ServerApplication}
use Rattle.lsp_acts.specs.declared.server.Server.{Ghosts as Plain}
use Rattle.lsp_jobs.proofs.Answering.{back_pending, requests_then, sent_all}
use Rattle.lsp_jobs.proofs.Owed.{replies_at_wake, waits_called, waits_opened, HeldWaits}
use Rattle.lsp_jobs.proofs.KeyTurns.{AllStand, TurnOf, handed_turn, opened as opening_turn, stands_after}
use Rattle.lsp_jobs.proofs.KeyTurns.{stands_opened, took_back}
use Rattle.lsp_jobs.specs.JobLaw.{AnswersByJobs, AreTakenAt, IsTakenAt, Leads, MayLose, RepliesToLast, WakeSends}
use Rattle.lsp_jobs.specs.JobSession.{JobSession, seen_with_jobs}
use Rattle.lsp_jobs.specs.PendingJobs.{PendingJobs, no_jobs}
use Rattle.lsp_jobs.specs.PoolView.{pending_jobs}
use Rattle.lsp_jobs.specs.KeyedJobLaw.{AreTurns, IsTurn, Turn}
use Rattle.lsp_jobs.specs.Stated.{StatedJobs}
use Rattle.lsp_jobs.specs.declared.asking.RequestOrigin.{RequestOrigin}
use Rattle.lsp_jobs.specs.declared.pooled_server.PooledServer.{PooledServer}

-- `initialized` cancels no request
no_cancel : {P : Type 0} (m : Message) (acts : List (Act P)) → is_initialized m ≡ true → acts_done_at (Some m) acts
    ≡ acts
no_cancel (request id method params) acts is = absurd (cc (is))
no_cancel (response id outcome) acts is = absurd (cc (is))
no_cancel (notification method params) acts is =
    subst (λ (name : List ℕ). acts_done_at (Some (notification name params)) acts ≡ acts)
    (sym ((bytes_eq-Decides method (codes "initialized")).0 is)) (append-nil acts)

module _ {S P : Type 0} (may : Plain S P) where
  -- what one message does up to the result of `initialize`
  abbrev Begins : S → Exchange → S → Type 0
  Begins old x new = IsSomeAnd x.came (λ m. MatchBool (is_initialize m) (Initializes may old m (offered x) new) (new
      ≡ old))

  begins_more : (old mid new : S) (xs : List Exchange) (x : Exchange) → AnswersInitialize may old xs mid
      → Begins mid x new → AnswersInitialize may old (xs ++ x ∷ []) new
  begins_more old mid new [] x same one = (new, subst (λ (s : S). Begins s x new) same one, refl)
  begins_more old mid new (y ∷ xs) x run one = (run.0, run.1, begins_more run.0 mid new xs x run.2 one)

module _ {S J F P : Type 0} (plain : Plain S P) (may : StatedJobs S J F P) where
  taken_more : (xs : List Exchange) (turns : List (Turn plain may)) (x : Exchange) (t : Turn plain may)
      → AreTakenAt plain may xs turns → IsTakenAt plain may x t → AreTakenAt plain may (xs ++ x ∷ []) (turns ++ t ∷ [])
  taken_more [] [] x t all one = (one, tt)
  taken_more [] (u ∷ turns) x t all one = absurd all
  taken_more (y ∷ xs) [] x t all one = absurd all
  taken_more (y ∷ xs) (u ∷ turns) x t all one = (all.0, taken_more xs turns x t all.1 one)

  turns_more : (start now : S) (turns : List (Turn plain may)) (t : Turn plain may)
      → AreTurns plain may start turns t.old → IsTurn plain may t
      → ((own : List P) × TakesBack plain.ids_exhausted_post t.new own now)
      → AreTurns plain may start (turns ++ t ∷ []) now
  turns_more start now [] t are is back = (are, is, back)
  turns_more start now (u ∷ turns) t are is back = (are.0, are.1, turns_more u.new now turns t are.2 is back)

  -- one exchange more, and its turn
  leads_on : (first now : S) (earlier : List Exchange) (x : Exchange) (turns : List (Turn plain may))
      (t : Turn plain may) → Leads plain may first earlier turns t.old → IsTakenAt plain may x t → IsTurn plain may t
      → ((own : List P) × TakesBack plain.ids_exhausted_post t.new own now)
      → Leads plain may first (earlier ++ x ∷ []) (turns ++ t ∷ []) now
  leads_on first now earlier x turns t led taken is back = record {
    early = led.early;
    later = led.later ++ x ∷ [];
    cut = ap (λ (xs : List Exchange). xs ++ x ∷ []) led.cut ∙ append_assoc led.early led.later (x ∷ []);
    result = led.result;
    start = led.start;
    initialized = led.initialized;
    taken = taken_more led.later turns x t led.taken taken;
    linked = turns_more led.start now turns t led.linked is back;
  }

-- what is lost
lost_so : (stop : Stop) (later : List Exchange) (more : List Message) → (more ≡ []) ⊎ ((later ≡ [])
    × (IsWhole stop → ⊥)) → MayLose stop later more
lost_so (refused fault) [] more any = tt
lost_so (refused fault) (x ∷ later) more (inl none) = none
lost_so (refused fault) (x ∷ later) more (inr last) = absurd (let no = last.0 in cc (no))
lost_so decided later more (inl none) = none
lost_so decided later more (inr last) = absurd (last.1 tt)
lost_so no_more later more (inl none) = none
lost_so no_more later more (inr last) = absurd (last.1 tt)
lost_so timed_out later more (inl none) = none
lost_so timed_out later more (inr last) = absurd (last.1 tt)
lost_so exhausted later more (inl none) = none
lost_so exhausted later more (inr last) = absurd (last.1 tt)

-- after a refusal the session stopped with that
refused_only : {T : Type 0} (can : Behavior T) (fault : SendFault) (s s' : T) (stop : Stop) (answer : SessionAnswer)
    → Stops can (broken fault) s stop answer s' → IsWhole stop → ⊥
refused_only can fault s s' (refused other) answer stops = λ none. none
refused_only can fault s s' stop answer stops = absurd stops

module _ (T : Type 0) {S J F P : Type 0} (plain : Plain S P) (may : StatedJobs S J F P) (first : S) where
  abbrev W : Plain (PooledServer T S J F) (RequestOrigin P)
  W = seen_with_jobs T plain may

  abbrev Working : Type 0
  Working = ServerApplication (PooledServer T S J F) (RequestOrigin P)

  abbrev pending : Working → PendingJobs J
  pending w = pending_jobs w.server.pool

  abbrev queues_in : Working → Queues (RequestOrigin P)
  queues_in w = queues.queues_of w.queues

  -- the turns that led here, and that each job which is pending stands
  record Stood (earlier : List Exchange) (w : Working) : Type 0 where
    turns : List (Turn plain may)
    led : Leads plain may first earlier turns w.server.server
    stand : AllStand plain may turns (pending w)

  -- up to the result of `initialize`
  abbrev Early : List Exchange → Working → Type 0
  Early earlier w = Fresh W w × (pending w ≡ no_jobs) × AnswersInitialize plain first earlier w.server.server

  abbrev Ready : List Exchange → Phase → Working → Type 0
  Ready earlier starting w = Early earlier w
  Ready earlier in_reply w = Early earlier w × EndsWithResult earlier
  Ready earlier serving w = ((queues_in w).sent ≡ []) × Stood earlier w × ((id : Id) → HeldWaits W id earlier w)
  Ready earlier phase w = Unit {0}

  -- a wake at which this was to be sent and is lost
  abbrev Wake : List Exchange → Exchange → List Message → Type 0
  Wake earlier x more = x.came ≡ None → (wake : WakeSends plain may first earlier (offered x)) × (wake.lost ≡ more)
      × RepliesToLast earlier (offered x)

  -- The session goes on only if nothing is lost.
  abbrev Steps_on : List Exchange → Exchange → List Message → Phase → Working → Type 0
  Steps_on earlier x more q w = Wake earlier x more × (more ≡ [] → Ready (earlier ++ x ∷ []) q w)

  -- the turn of the server's at an exchange
  stood_on : (earlier : List Exchange) (x : Exchange) (old did : PooledServer T S J F) (w' : Working)
      (call : Call (RequestOrigin P)) (turns : List (Turn plain may)) (count : ℕ)
      → (t : TurnOf T plain may old did call) → Leads plain may first earlier turns old.server
      → IsTakenAt plain may x t.turn
      → TakesBack W.ids_exhausted_post did (unsent count call.acts) w'.server
      → AllStand plain may (turns ++ t.turn ∷ []) (pending_jobs did.pool) → Stood (earlier ++ x ∷ []) w'
  stood_on earlier x old did w' call turns count t led taken back stand = record {
    turns = turns ++ t.turn ∷ [];
    led = leads_on plain may first w'.server.server earlier x turns t.turn
        (subst (Leads plain may first earlier turns) (sym t.from) led) taken t.is_turn
        (subst (λ (s : S). (own : List P) × TakesBack plain.ids_exhausted_post s own w'.server.server) (sym t.to)
        (took_back T plain may (unsent count call.acts) did w'.server back));
    stand = subst (AllStand plain may (turns ++ t.turn ∷ []))
        (sym (back_pending T plain may (unsent count call.acts) did w'.server back)) stand;
  }

  -- the server is called
  called : (earlier : List Exchange) (w w' : Working) (x : Exchange) (full more : List Message)
      → offered x ++ more ≡ full
      → Ready earlier serving w
      → WorksSending W (queues.seen w) x.came full (queues.seen w') → Steps_on earlier x more serving w'
  called earlier w w' x full more part ready gives = (
    λ none. (
      record {
        turns = s.turns;
        turn = t.turn;
        led = subst (Leads plain may first earlier s.turns) (sym t.from) s.led;
        is_turn = t.is_turn;
        woken = came ∙ none;
        does = t.wake s.turns s.stand none;
        lost = more;
        sent = (
          asked,
          subst (λ (o : Option Message). all_sends asked (acts_done_at o t.turn.call.acts)
              ≡ offered x ++ more) none sends,
        );
      },
      refl,
      λ id. replies_at_wake W id earlier w w' x full more part ready.0 (ready.2 id)
          (subst (λ (l : Option Message). WorksSending W (queues.seen w) l full (queues.seen w')) none gives),
    ),
    λ whole. (
      ap (λ (y : PooledServer T S J F × Queues (RequestOrigin P)). y.1.sent) gives.3,
      stood_on earlier x w.server a.did w' call s.turns (count_of (queues_in w).asked) t s.led
          (came, (asked, sends ∙ ap (λ (l : List Message). offered x ++ l) whole ∙ append-nil (offered x))) a.back
          (stands_after T plain may w.server a.did s.turns call t s.stand
          (requests_then T plain may w.server a.did x.came a.payload a.acts a.handed)),
      λ id. waits_called W id earlier w w' x full more part ready.0 (ready.2 id) gives,
    ),
  )
    where
      a : ActsAt W (queues.seen w) x.came full (queues.seen w')
      a = acts_at W (queues.seen w) x.came full (queues.seen w') gives

      s : Stood earlier w
      s = ready.1

      call : Call (RequestOrigin P)
      call = record { came = x.came; payload = a.payload; acts = a.acts }

      t : TurnOf T plain may w.server a.did call
      t = handed_turn T plain may w.server a.did x.came a.payload a.acts a.handed

      asked : Queues (RequestOrigin P)
      asked = queues_at (queues_in w) x.came a.payload

      came : t.turn.call.came ≡ x.came
      came = ap (λ (c : Call (RequestOrigin P)). c.came) t.of_call

      sends : all_sends asked (acts_done_at x.came t.turn.call.acts) ≡ offered x ++ more
      sends = ap (λ (c : Call (RequestOrigin P)). all_sends asked (acts_done_at x.came c.acts)) t.of_call
          ∙ sym (a.sent ∙ ap (λ (l : List Message). l ++ all_sends asked (acts_done_at x.came a.acts)) ready.0)
          ∙ sym part

  -- `initialized` came
  opened : (earlier : List Exchange) (w w' : Working) (x : Exchange) (m : Message) (full more : List Message) → x.came
      ≡ Some m → is_initialized m ≡ true → offered x ++ more ≡ full → Early earlier w → EndsWithResult earlier
      → OpensSending W (queues.seen w) full (queues.seen w') → Steps_on earlier x more serving w'
  opened earlier w w' x m full more there begins part early ends o = (
    (λ none. absurd (cc (there, none))),
    λ whole. (
      ap (λ (y : PooledServer T S J F × Queues (RequestOrigin P)). y.1.sent) o.3,
      stood_on earlier x w.server o.1.1 w' call [] (count_of (queues_in w).asked) t led (taken whole)
          (subst (λ (p : PooledServer T S J F). TakesBack W.ids_exhausted_post o.1.1
          (unsent (count_of (queues_in w).asked) o.1.0) p)
          (sym (ap (λ (y : PooledServer T S J F × Queues (RequestOrigin P)). y.0) o.3)) o.1.3)
          (stands_opened T plain may w.server o.1.1 call early.1 o.1.2 t),
      λ id. waits_opened W id (earlier ++ x ∷ []) w w' full early.0 o,
    ),
  )
    where
      call : Call (RequestOrigin P)
      call = record { came = Some m; payload = None; acts = o.1.0 }

      t : TurnOf T plain may w.server o.1.1 call
      t = opening_turn T plain may w.server o.1.1 m o.1.0 begins o.1.2

      led : Leads plain may first earlier [] w.server.server
      led = record {
        early = earlier;
        later = [];
        cut = sym (append-nil earlier);
        result = ends;
        start = w.server.server;
        initialized = early.2;
        taken = tt;
        linked = ([], refl);
      }

      sent : full ≡ all_sends (queues_in w) o.1.0
      sent = o.2 ∙ ap (λ (d : Queues (RequestOrigin P)). d.sent) o.1.4 ∙ sent_all (queues_in w) o.1.0
          ∙ ap (λ (d : Queues (RequestOrigin P)). d.sent ++ all_sends (queues_in w) o.1.0) early.0

      taken : more ≡ [] → IsTakenAt plain may x t.turn
      taken whole = (
        ap (λ (c : Call (RequestOrigin P)). c.came) t.of_call ∙ sym there,
        (
          queues_in w,
          ap (λ (c : Call (RequestOrigin P)). all_sends (queues_in w) (acts_done_at x.came c.acts)) t.of_call
              ∙ ap (λ (l : Option Message). all_sends (queues_in w) (acts_done_at l o.1.0)) there
              ∙ ap (all_sends (queues_in w)) (no_cancel m o.1.0 begins) ∙ sym sent ∙ sym part
              ∙ ap (λ (l : List Message). offered x ++ l) whole ∙ append-nil (offered x),
        ),
      )

  -- a message that comes before the result
  abbrev Begun : Working → Exchange → Working → Message → Bool → Type 0
  Begun w x w' m b = MatchBool b (Initializes plain w.server.server m (offered x) w'.server.server)
      (w'.server.server ≡ w.server.server)

  begins_at : (w w' : Working) (x : Exchange) (full : List Message) (q : Phase)
      → ((r : Message) → full ≡ r ∷ [] → offered x ≡ r ∷ []) → Step (with_queues W) starting w x.came full q w'
      → Begins plain w.server.server x w'.server.server
  begins_at w w' x full q one step = at x.came step
    where
      by : (i : Id) (method : List ℕ) (params : Data) (b : Bool)
          → MatchBool b ((outcome : Result Data ErrorObject) × (with_queues W).initializes w params outcome w'
          × (full ≡ response i outcome ∷ []) × (q ≡ phase_after outcome))
          ((reply : Message) × IsEarlyReply i reply × (full ≡ reply ∷ []) × (q ≡ starting) × (w' ≡ w))
          → Begun w x w' (request i method params) b
      by i method params true step = record {
        id = i;
        method = method;
        params = params;
        outcome = step.0;
        came = refl;
        gave = step.1.0.0;
        told = one (response i step.0) step.2;
      }
      by i method params false step = ap (λ (v : Working). v.server.server) step.4

      at : (came : Option Message) → Step (with_queues W) starting w came full q w'
          → IsSomeAnd came (λ m. Begun w x w' m (is_initialize m))
      at (Some (request i method params)) step = by i method params (is_initialize (request i method params)) step
      at (Some m) step = ap (λ (v : Working). v.server.server) step.1
      at None step = step

  -- a message for which the server is not called
  idly : (earlier : List Exchange) (p q : Phase) (w w' : Working) (x : Exchange) (m : Message) (full : List Message)
      → w' ≡ w → (p ≡ starting → AnswersInitialize plain first (earlier ++ x ∷ []) w'.server.server)
      → Ready earlier p w → Idle p m full q → Ready (earlier ++ x ∷ []) q w'
  idly earlier p q w w' x m full same early ready idles = at idles
    where
      on : p ≡ starting → Early (earlier ++ x ∷ []) w'
      on begun =
          let before : Early earlier w = (rw begun at ready) in
          let both = subst (λ (v : Working). Fresh W v × (pending v ≡ no_jobs)) (sym same) (before.0, before.1) in
          (both.0, both.1, early begun)

      at : Idle p m full q → Ready (earlier ++ x ∷ []) q w'
      at (early_request i method params reply begun is replies sent next) = rw next (on begun)
      at (early_note begun mute early sent next) = rw next (on begun)
      at (unasked shown begun mute other sent next) = rw next tt
      at (uninvited shown begun other sent next) = rw next tt
      at (leaves begun e sent next) = rw next tt
      at (exits i begun e sent next) = rw next tt
      at (late i begun is sent next) = rw next tt
      at (stays i shown begun e sent next) = rw next tt

  one_step : (earlier : List Exchange) (p q : Phase) (w w' : Working) (x : Exchange) (full more : List Message)
      → (offered x)
      ++ more ≡ full → (offered x ≡ [] → full ≡ []) → Ready earlier p w
      → Step (with_queues W) p w x.came full q w' → Steps_on earlier x more q w'
  one_step earlier p q w w' x full more part some ready step = by (row (with_queues W) p q w w' x.came full step)
    where
      one : (r : Message) → full ≡ r ∷ [] → offered x ≡ r ∷ []
      one r e = part_one (offered x) more full r part some e

      early : p ≡ starting → AnswersInitialize plain first (earlier ++ x ∷ []) w'.server.server
      early begun =
          let before : Early earlier w = (rw begun at ready) in
          begins_more plain first w.server.server w'.server.server earlier x before.2
          (begins_at w w' x full q one (rw begun at step))

      after : (i : Id) (method : List ℕ) (params : Data) (outcome : Result Data ErrorObject)
          → x.came ≡ Some (request i method params) → is_initialize (request i method params) ≡ true
          → full ≡ response i outcome ∷ [] → Early (earlier ++ x ∷ []) w'
          → Ready (earlier ++ x ∷ []) (phase_after outcome) w'
      after i method params (Err error) is e sent on = on
      after i method params (Ok result) is e sent on = (
        on,
        record {
          before = earlier;
          id = i;
          method = method;
          params = params;
          result = result;
          asks = e;
          last = x;
          cut = refl;
          came = is;
          gets = one (response i (Ok result)) sent;
        },
      )

      by : StepCase (with_queues W) p w x.came full q w' → Steps_on earlier x more q w'
      by (at_initialize i method params outcome begun is e init sent next) =
          let before : Early earlier w = (rw begun at ready) in (
            (λ none. absurd (cc (is, none))),
            λ whole. rw next (after i method params outcome is e sent
                (init.1 ∙ before.0, init.0.1 ∙ before.1, early begun)),
          )
      by (at_initialized m begun there e gives next) =
          let before : Early earlier w × EndsWithResult earlier = (rw begun at ready) in
          rw next (opened earlier w w' x m full more there e part before.0 before.1 gives)
      by (at_served m begun there e gives next) =
          rw next (called earlier w w' x full more part (rw begun at ready) (subst (λ (l : Option Message). WorksSending
          W (queues.seen w) l full (queues.seen w')) (sym there) gives))
      by (at_woken begun none gives next) =
          rw next (called earlier w w' x full more part (rw begun at ready) (subst (λ (l : Option Message). WorksSending
          W (queues.seen w) l full (queues.seen w')) (sym none) gives))
      by (at_shutdown i method params parting begun there e gives sent next) = (
        (λ none. absurd (cc (there, none))),
        λ whole. rw next tt,
      )
      by (idle m there same any is) = (
        (λ none. absurd (cc (there, none))),
        λ whole. idly earlier p q w w' x m full same early ready is,
      )

  -- what is sent at an exchange that is a wake, and what is lost
  abbrev At : Stop → List Exchange → Exchange → List Exchange → Type 0
  At stop earlier x later = x.came ≡ None → (wake : WakeSends plain may first earlier (offered x))
      × MayLose stop later wake.lost × RepliesToLast earlier (offered x)

  abbrev AllWakes : Stop → List Exchange → List Exchange → Type 0
  AllWakes stop earlier [] = Unit {0}
  AllWakes stop earlier (x ∷ xs) = At stop earlier x xs × AllWakes stop (earlier ++ x ∷ []) xs

  run_wakes : (stop : Stop) (earlier xs : List Exchange) (p q : Phase) (w w' : Working)
      → ((fault : SendFault) → q ≡ broken fault → IsWhole stop → ⊥) → Steps (with_queues W) p w xs q w'
      → Ready earlier p w → AllWakes stop earlier xs
  run_wakes stop earlier [] p q w w' broke run ready = tt
  run_wakes stop earlier (x ∷ xs) p q w w' broke run ready =
      at (λ on. run_wakes stop (earlier ++ x ∷ []) xs run.0.0 q run.0.1 w' broke run.2 on)
      (turn_case (with_queues W) p run.0.0 w run.0.1 x run.1)
    where
      Later : Type 0
      Later = Ready (earlier ++ x ∷ []) run.0.0 run.0.1 → AllWakes stop (earlier ++ x ∷ []) xs

      -- all was offered
      more : Later → Step (with_queues W) p w x.came (offered x) run.0.0 run.0.1 → AllWakes stop earlier (x ∷ xs)
      more on step =
          let one = one_step earlier p run.0.0 w run.0.1 x (offered x) [] (append-nil (offered x)) (λ e. e) ready
          step in (
            λ none.
                let wake = one.0 none in
                (wake.0, subst (MayLose stop xs) (sym wake.1) (lost_so stop xs [] (inl refl)), wake.2),
            on (one.1 refl),
          )

      at : Later → TurnCase (with_queues W) p w x run.0.0 run.0.1 → AllWakes stop earlier (x ∷ xs)
      at on (all_taken is step) = more on (rw is step)
      at on (lost_reply m i is next step) = more on (rw (is, next) step)
      at on (breaks m lost fault next is gone step other) =
          let over = none_broken (with_queues W) fault q run.0.1 w' xs
          (subst (λ (r : Phase). Steps (with_queues W) r run.0.1 xs q w') gone run.2) in
          let one = one_step earlier p next w run.0.1 x (offered x ++ lost) lost refl
          (λ e. absurd (no_one x.sent [] m (rw is at e))) ready (rw (is, append_assoc x.sent (m ∷ []) lost) step) in (
            λ none.
                let wake = one.0 none in (
                  wake.0,
                  subst (MayLose stop xs) (sym wake.1) (lost_so stop xs lost (inr (over.0, broke fault over.1))),
                  wake.2,
                ),
            subst (AllWakes stop (earlier ++ x ∷ [])) (sym over.0) tt,
          )

  at_each : (stop : Stop) (earlier xs : List Exchange) → AllWakes stop earlier xs → (before later : List Exchange)
      (x : Exchange) → xs ≡ before ++ x ∷ later → At stop (earlier ++ before) x later
  at_each stop earlier [] all [] later x e = absurd (cc (e))
  at_each stop earlier [] all (b ∷ before) later x e = absurd (cc (e))
  at_each stop earlier (y ∷ xs) all [] later x e =
      let same : y ≡ x = cc (e) in
      let rest : xs ≡ later = cc (e) in
      subst (λ (es : List Exchange). At stop es x later) (sym (append-nil earlier))
      (subst (λ (z : Exchange × List Exchange). At stop earlier z.0 z.1) (λ k. (same k, rest k)) all.0)
  at_each stop earlier (y ∷ xs) all (b ∷ before) later x e =
      let same : y ≡ b = cc (e) in
      let rest : xs ≡ before ++ x ∷ later = cc (e) in
      subst (λ (es : List Exchange). At stop es x later)
      (append_assoc earlier (y ∷ []) before ∙ ap (λ (z : Exchange). earlier ++ z ∷ before) same)
      (at_each stop (earlier ++ y ∷ []) xs all.1 before later x rest)

pub answers_by_jobs : (T : Type 0) {S J F P : Type 0} (plain : Plain S P) (may : StatedJobs S J F P) (first last : S)
    (xs : List Exchange) (stop : Stop) (answer : SessionAnswer)
    → JobSession T plain may first last xs stop answer → AnswersByJobs plain may first stop xs
answers_by_jobs T {S} {J} {F} {P} plain may first last xs stop answer session =
    let s = session.session in
    let began = ap (λ (y : PooledServer T S J F × Queues (RequestOrigin P)). y.0) s.from_first in
    let none : pending_jobs s.old.server.pool ≡ no_jobs =
    ap (λ (p : PooledServer T S J F). pending_jobs p.pool) began
    ∙ ap (λ (y : S × PendingJobs J). y.1) session.from_first in
    let same : s.old.server.server ≡ first =
    ap (λ (p : PooledServer T S J F). p.server) began ∙ ap (λ (y : S × PendingJobs J). y.0) session.from_first in
    λ earlier later x cut. at_each T plain may first stop [] xs (run_wakes T plain may first stop [] xs starting
    s.out.last s.old s.out.after
    (λ fault is. refused_only (with_queues (seen_with_jobs T plain may)) fault s.out.after s.new stop answer
    (rw is at s.out.stopped)) s.out.reached
    (ap (λ (y : PooledServer T S J F × Queues (RequestOrigin P)). y.1) s.from_first, none, same)) earlier later x cut
