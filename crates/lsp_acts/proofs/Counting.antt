-- How many replies a server's session sends under an id, exchange by exchange.
use Rattle.lsp_message.specs.Id.{Id, id_cmp}
use Rattle.lsp_message.specs.IdLaws.{id_total, id_decides}
use Rattle.lsp_message.specs.Message.{Message, ErrorObject, request, notification, response}
use Rattle.lsp_message.specs.Methods.{is_exit}
use Rattle.lsp_queue.specs.Queue.{Pending, pending_of, ids_where}
use Rattle.lsp_acts.proofs.Acting.{acts_at, acts_at_shutdown, does_push, sent_so, sent_at_shutdown}
use Rattle.lsp_acts.specs.Acts.{Queues, Act, replies, does, does_all, empty_queues, canceled, ends_all, released}
use Rattle.lsp_acts.specs.Acts.{cancelled_by, cancels as cancels_such, cancel_all}
use Rattle.lsp_acts.specs.Law.{one_if, came_with, is_request_under, is_reply_under, how_many, held_under}
use Rattle.lsp_acts.specs.Law.{AnswersCancelled, AnswersLast, AnswersLastInFull, Cancels, IsGone, IsOwedWhatIsHeld}
use Rattle.lsp_acts.specs.Law.{GetsShutdownReply, IsWhole, NeverMore, OnceOrEnded, WasToSend}
use Rattle.lsp_acts.specs.ServerApplication.{with_queues, WorksSending, PartsSending}
use Rattle.lsp_acts.specs.SentByActs.{queues_at, acts_done_at, cancelled_answer}
use Rattle.lsp_acts.specs.View.{queues_of, seen}
use Rattle.lsp_acts.specs.declared.server_application.ServerApplication.{ServerApplication}
use Rattle.lsp_acts.specs.declared.server.Server.{Ghosts as Stated}
use Rattle.lsp_session.proofs.Ran.{IsSound, Ran, ran, sends_both, no_one, IsNoRequest, Idle}
use Rattle.lsp_session.proofs.Ran.{early_request, early_note, unasked, uninvited, leaves, exits, late, stays, StepCase}
use Rattle.lsp_session.proofs.Ran.{at_initialize, at_initialized, at_served, at_woken, at_shutdown, idle, row}
use Rattle.lsp_session.proofs.Ran.{exit_no_request, initialized_no_request, reply_no_request}
use Rattle.lsp_session.specs.ProtocolError.{ProtocolFault, ShowsUnallowed, expected_initialize, expected_initialized}
use Rattle.lsp_session.specs.ProtocolError.{unexpected_in_shutdown}
use Rattle.lsp_session.specs.Replies.{null_reply}
use Rattle.lsp_session.specs.Session.{Behavior, Exchange, messages_of, sends_of, SessionAnswer, Stop, decided, no_more}
use Rattle.lsp_session.specs.Session.{timed_out, refused, exhausted, Phase, starting, replied as in_reply, serving}
use Rattle.lsp_session.specs.Session.{asked, broken, ended, phase_after, is_reply, is_shutdown, offered, Step, Steps}
use Rattle.lsp_session.specs.Session.{Stops}
use Rattle.lsp_session.proofs.Rows.{Rows, rows_both, rows_of, rows_sound, Completes, StopsAfter, stops_after}
use Rattle.lsp_session.proofs.Rows.{decided_by}
use Rattle.lsp_session.specs.declared.lifecycle.SendFault.{SendFault}
use Rattle.lsp_session.specs.declared.loops.handler.SessionEnd.TheVariants.{Closed, ShutDown}
use Rattle.serde_json.specs.Data.{Data}
use Rattle.std.proofs.Common.{◌≡◌, refl, sym, ◌∙◌, ap, inl, inr, ◌⊎◌, ℕ, zero, suc, ◌+◌, ◌≤◌, Bool, true, false, List}
use Rattle.std.proofs.Common.{[], ◌∷◌, ◌++◌, append_assoc, arith, subst, Option, Some, None, cond}
use Rattle.std.specs.FinMap as map
use Rattle.std.specs.FinMap.{get-empty, get-insert, get-remove}
use Rattle.std.specs.Ordering.{eq_by_cmp}
use Rattle.std.proofs.lemmas.Slice.Eq.{bytes_eq-Decides}
use Rattle.std.specs.Prelude.{Result, Ok, Err, is_some, IsSomeAnd, IsErrAnd, codes}

pub how_many-append : (p : Message → Bool) (xs ys : List Message) → how_many p (xs ++ ys)
    ≡ how_many p xs + how_many p ys
how_many-append p [] ys = omega arith
how_many-append p (x ∷ xs) ys = let more = how_many-append p xs ys in omega (arith, more)

-- a cancellation is no reply
pub none_cancelled : (id : Id) (ids : List Id) → how_many (is_reply_under id) (cancel_all ids) ≡ 0
none_cancelled id [] = refl
none_cancelled id (i ∷ ids) = let more = none_cancelled id ids in omega (arith, more)

-- how many replies under the id were given, together with the request that is still held
abbrev pub due : {P : Type 0} → Id → Queues P → ℕ
due id d = how_many (is_reply_under id) d.sent + held_under id d.held

module _ (id : Id) where
  pub held_insert : (held : Pending (Unit {0})) (i : Id) → held_under id (map.insert held i tt)
      ≡ cond (eq_by_cmp id_cmp id i) 1 (held_under id held)
  held_insert held i = let got = get-insert id_total held i tt id in grind (arith, got)

  pub held_remove : (held : Pending (Unit {0})) (i : Id) → held_under id (map.remove held i) ≡ cond (eq_by_cmp id_cmp
      id i)
      0 (held_under id held)
  held_remove held i = let got = get-remove id_total held i id in grind (arith, got)

  -- a held request that is answered
  answered : (held : Pending (Unit {0})) (i : Id) (b : Bool) → eq_by_cmp id_cmp id i ≡ b → map.contains_key held
      i ≡ true
      → one_if b + cond b 0 (held_under id held) ≡ held_under id held
  answered held i true e there = let same : id ≡ i = (id_decides id i).0 e in rw (same, there) refl
  answered held i false e there = omega arith

module _ {P : Type 0} (id : Id) where
  -- an act neither adds nor loses what is due
  due_act : (d : Queues P) (act : Act P) → due id (does d act) ≡ due id d
  due_act d (cancels_such such) =
      let ids = ids_where such (pending_of d.asked) in
      let both = how_many-append (is_reply_under id) d.sent (cancel_all ids) in
      let none = none_cancelled id ids in
      omega (arith, both, none)
  due_act d (replies i outcome) = grind (arith, how_many-append, held_remove, answered)
  due_act d act = grind (arith, how_many-append)

  pub due_acts : (d : Queues P) (acts : List (Act P)) → due id (does_all d acts) ≡ due id d
  due_acts d [] = refl
  due_acts d (act ∷ acts) = due_acts (does d act) acts ∙ due_act d act

  -- when the server acts, one reply more is due if a request under the id came
  due_at : (d : Queues P) (m : Option Message) (payload : Option P)
      → due id (queues_at d m payload) ≡ how_many (is_reply_under id) d.sent + cond (came_with (is_request_under id) m)
      1 (held_under id d.held)
  due_at d (Some (request i method params)) payload = ap (λ n. how_many (is_reply_under id) d.sent + n) (held_insert id
      d.held i)
  due_at d (Some (response i outcome)) (Some payload) = refl
  due_at d m payload = refl

-- the last state is that after the last exchange, unless an allocation failed
kept_by_stop : {T : Type 0} (can : Behavior T) (p : Phase) (s s' : T) (stop : Stop) (answer : SessionAnswer)
    → Stops can p s stop answer s'
    → (stop ≡ exhausted) ⊎ (s' ≡ s)
kept_by_stop can p s s' exhausted answer stops = inl refl
kept_by_stop can (ended by) s s' decided answer stops = inr stops.1
kept_by_stop can (ended by) s s' stop answer stops = absurd stops
kept_by_stop can (broken by) s s' (refused fault) answer stops = inr stops.2
kept_by_stop can (broken by) s s' stop answer stops = absurd stops
kept_by_stop can p s s' decided answer stops = absurd stops
kept_by_stop can p s s' (refused fault) answer stops = absurd stops
kept_by_stop can (asked i) s s' stop answer stops = inr stops.1
kept_by_stop can p s s' timed_out answer stops = absurd stops
kept_by_stop can p s s' stop answer stops = inr stops.1

pub kept_to_last : {T : Type 0} (can : Behavior T) (p : Phase) (s s' : T) (stop : Stop) (answer : SessionAnswer)
    → StopsAfter can p s stop answer s'
    → (stop ≡ exhausted) ⊎ (s' ≡ s)
kept_to_last can p s s' stop answer (inl stops) = kept_by_stop can p s s' stop answer stops
kept_to_last can p s s' stop answer (inr broke) = inr broke.3

module _ {S P : Type 0} (may : Stated S P) where
  -- nothing was asked or held, and nothing is to be sent
  abbrev pub Fresh : ServerApplication S P → Type 0
  Fresh w = queues_of w.queues ≡ empty_queues

  -- nothing is to be sent, and before `initialized` nothing is held
  abbrev Clean : Phase → ServerApplication S P → Type 0
  Clean starting w = Fresh w
  Clean in_reply w = Fresh w
  Clean serving w = (queues_of w.queues).sent ≡ []
  Clean phase w = Unit {0}

  -- a test that fails counts nothing
  none_if : (b : Bool) (n : ℕ) → one_if b ≡ 0 → cond b 1 n ≡ n
  none_if true n e = absurd (omega (arith, e))
  none_if false n e = refl

  few_if : (b : Bool) (n : ℕ) → cond b 1 n ≤ one_if b + n
  few_if true n = omega arith
  few_if false n = omega arith

  one_most : (b : Bool) (r n x : ℕ) → r ≡ one_if b → n ≡ 0 → r + n ≤ cond b 1 x
  one_most true r n x one none = omega (arith, one, none)
  one_most false r n x one none = omega (arith, one, none)

  module _ (id : Id) where
    abbrev owed : ServerApplication S P → ℕ
    owed w = held_under id (queues_of w.queues).held

    abbrev R : List Message → ℕ
    R = how_many (is_reply_under id)

    abbrev Q : List Message → ℕ
    Q = how_many (is_request_under id)

    -- how many requests under the id came in an exchange
    abbrev came : Option Message → ℕ
    came m = one_if (came_with (is_request_under id) m)

    came_more : (x : Exchange) (xs : List Exchange) → Q (messages_of (x ∷ xs)) ≡ came x.came + Q (messages_of xs)
    came_more x xs = at x.came
      where
        at : (arrived : Option Message) → Q (messages_of (record { came = arrived; sent = []; not_sent = None } ∷
            xs)) ≡ came arrived + Q
            (messages_of xs)
        at None = omega arith
        at (Some m) = refl

    unowed : (w : ServerApplication S P) → Fresh w → owed w ≡ 0
    unowed w fresh = ap (λ (d : Queues P). held_under id d.held) fresh ∙ ap (λ o. one_if (is_some o))
        (get-empty id_cmp id)

    -- 1 if a request is held that may still be answered, else 0: after `shutdown` none is
    abbrev pending : Phase → ServerApplication S P → ℕ
    pending (asked i) w = 0
    pending (broken fault) w = 0
    pending (ended by) w = 0
    pending p w = owed w

    -- What is due after the server acted: nothing is lost, and of a request that came one reply.
    due_one : (w w' : ServerApplication S P) (m : Option Message) (output : List Message) → (queues_of w.queues).sent ≡
        []
        → WorksSending may (seen w) m output (seen w')
        → (1 ≤ came m + owed w → 1 ≤ R output + owed w')
        × (R output + owed w' ≤ cond (came_with (is_request_under id) m) 1 (owed w))
    due_one w w' m output silent step =
        let a = acts_at may (seen w) m output (seen w') step in
        let all = due_acts id (queues_at (queues_of w.queues) m a.payload) (acts_done_at m a.acts)
        ∙ due_at id (queues_of w.queues) m a.payload in
        let none : R (queues_of w.queues).sent ≡ 0 = ap R silent in
        let kept = ap (λ (d : Queues P). held_under id d.held) a.queues in
        let sent = ap R (sent_so may (seen w) m output (seen w') a) in
        counted (came_with (is_request_under id) m) (R output) (owed w') (owed w) (omega (arith, all, none, kept, sent))
      where
        counted : (b : Bool) (r h' h : ℕ) → r + h' ≡ cond b 1 h → (1 ≤ one_if b + h → 1 ≤ r + h')
            × (r + h' ≤ cond b 1 h)
        counted true r h' h e = (λ some. omega (arith, e), omega (arith, e))
        counted false r h' h e = (λ some. omega (arith, e, some), omega (arith, e))

    -- what is sent at `initialized` answers nothing
    due_opened : (w w' : ServerApplication S P) (output : List Message) → Fresh w → (with_queues may).at_initialized w
        output
        w' → R output + owed w' ≡ 0
    due_opened w w' output fresh opened =
        let kept : owed w' ≡ held_under id opened.0.1.held = ap (λ (x : S × Queues P). held_under id x.1.held)
        opened.3 in
        let none : due id opened.0.1 ≡ due id (queues_of w.queues) = ap (due id) opened.1.4
        ∙ due_acts id (queues_of w.queues) opened.1.0 in
        let silent : R (queues_of w.queues).sent ≡ 0 = ap (λ (d : Queues P). R d.sent) fresh in
        let sent : R output ≡ R opened.0.1.sent = ap R opened.2 in
        omega (arith, kept, none, silent, sent, unowed w fresh)

    -- the message is a request under the id, and the session ends since the lifecycle does not allow it
    abbrev Unallowed : Option Message → Phase → Type 0
    Unallowed arrived q =
        IsSomeAnd arrived (λ m. is_request_under id m ≡ true) × (fault : ProtocolFault)
        × (q ≡ ended (Err fault)) × ShowsUnallowed fault

    -- one exchange
    record Count (p : Phase) (w w' : ServerApplication S P) (q : Phase) (m : Option Message) (output : List Message) :
        Type 0 where
      last : R output + pending q w' ≤ cond (came_with (is_request_under id) m) 1 (pending p w)
      least : 1 ≤ came m + owed w → (1 ≤ R output + owed w') ⊎ Unallowed m q
      clean : Clean q w'

    -- one reply for a request, or nothing for another message
    count_even : (p : Phase) (w w' : ServerApplication S P) (q : Phase) (m : Option Message) (output : List Message)
        → R output ≡ came m → owed w' ≡ owed w → pending q w' ≡ 0 → Clean q w'
        → Count p w w' q m output
    count_even p w w' q m output one same none clean = record {
      last = one_most (came_with (is_request_under id) m) (R output) (pending q w') (pending p w) one none;
      least = λ some. inl (omega (arith, one, same, some));
      clean = clean;
    }

    -- a fault ends the session
    count_fault : (p : Phase) (w w' : ServerApplication S P) (q : Phase) (m : Message) (output : List Message)
        (fault : ProtocolFault) → output ≡ [] → q ≡ ended (Err fault)
        → w' ≡ w
        → (is_request_under id m ≡ true → ShowsUnallowed fault) → Count p w w' q (Some m) output
    count_fault p w w' q m output fault silent next same unallowed = rw (silent, next, same)
        (at (is_request_under id m) refl)
      where
        at : (b : Bool) → is_request_under id m ≡ b → Count p w w (ended (Err fault)) (Some m) []
        at true e = record {
          last = omega arith;
          least = λ some. inr (e, fault, refl, unallowed e);
          clean = tt;
        }
        at false e = record {
          last = omega arith;
          least = λ some. inl (let n = (rw e at some) in omega (arith, n));
          clean = tt;
        }

    -- a message that is no request
    none_under : (m : Message) → IsNoRequest m → 0 ≡ one_if (is_request_under id m)
    none_under (request i method params) mute = absurd mute
    none_under m mute = refl

    -- the server is not called
    count_idle : (p q : Phase) (w : ServerApplication S P) (m : Message) (output : List Message) → Clean p w
        → Idle p m output q → Count p w w q (Some m) output
    count_idle p q w m output clean (early_request i method params reply begun is early sent next) =
        rw (is, sent, early.is, next) (count_even p w w starting (Some (request i method params)) (response i _ ∷ [])
        (omega arith) refl (unowed w (rw begun at clean)) (rw begun at clean))
    count_idle p q w m output clean (early_note begun mute e sent next) =
        rw (sent, next) (count_even p w w starting (Some m) [] (none_under m mute) refl (unowed w (rw begun at clean))
        (rw begun at clean))
    count_idle p q w m output clean (unasked shown begun mute other sent next) =
        rw (sent, next) (count_even p w w (ended (Err (expected_initialize shown))) (Some m) [] (none_under m mute)
        refl refl tt)
    count_idle p q w m output clean (uninvited shown begun e sent next) =
        count_fault p w w q m output (expected_initialized shown) sent next refl (λ is. inl (shown, refl))
    count_idle p q w m output clean (leaves begun e sent next) =
        rw (sent, next) (count_even p w w (ended (Ok Closed)) (Some m) [] (none_under m (exit_no_request m e)) refl
        refl tt)
    count_idle p q w m output clean (exits i begun e sent next) =
        rw (sent, next) (count_even p w w (ended (Ok ShutDown)) (Some m) []
        (none_under m (exit_no_request m e)) refl refl tt)
    count_idle p q w m output clean (late i begun is sent next) =
        rw (sent, next) (count_even p w w (asked i) (Some m) [] (none_under m (reply_no_request m is)) refl refl tt)
    count_idle p q w m output clean (stays i shown begun e sent next) =
        count_fault p w w q m output (unexpected_in_shutdown shown) sent next refl
        (λ is. inr (shown, refl))

    -- at `shutdown` what was held is answered, and `shutdown` itself
    count_shut : (w w' : ServerApplication S P) (i : Id) (method : List ℕ) (params : Data) (parting : List Message)
        → (queues_of w.queues).sent ≡ [] → PartsSending may (seen w) i parting (seen w')
        → Count serving w w' (asked i) (Some (request i method params)) (parting ++ null_reply i ∷ [])
    count_shut w w' i method params parting silent gives =
        let a = acts_at_shutdown may (seen w) i parting (seen w') gives in
        let d = queues_of w.queues in
        let done = does_all (released d i) (a.acts ++ ends_all a.ids) in
        let all = due_acts id (released d i) (a.acts ++ ends_all a.ids) in
        let first = held_remove id d.held i in
        let none : R d.sent ≡ 0 = ap R silent in
        let kept : owed w' ≡ held_under id done.held = ap (λ (x : Queues P). held_under id x.held) a.queues in
        let free : owed w' ≡ 0 = ap (λ m. held_under id m) a.none ∙ ap (λ o. one_if (is_some o))
        (get-empty id_cmp id) in
        let sent : R parting ≡ R done.sent = ap R (sent_at_shutdown may (seen w) i parting (seen w') a) in
        let whole = how_many-append (is_reply_under id) parting (null_reply i ∷ []) in
        let so = counted (eq_by_cmp id_cmp id i) (R (parting ++ null_reply i ∷ [])) (owed w) (omega (
          arith,
          all,
          first,
          none,
          kept,
          free,
          sent,
          whole,
        )) free in
        record { last = so.0; least = so.1; clean = tt }
      where
        counted : (b : Bool) (r h : ℕ) → r ≡ cond b 0 h + (one_if b + 0) → owed w' ≡ 0
            → (r + 0 ≤ cond b 1 h) × (1 ≤ one_if b + h → (1 ≤ r + owed w') ⊎ Unallowed (Some (request i method params))
            (asked i))
        counted true r h e free = (omega (arith, e), λ some. inl (omega (arith, e)))
        counted false r h e free = (omega (arith, e), λ some. inl (omega (arith, e, some)))

    clean_after : (outcome : Result Data ErrorObject) (w : ServerApplication S P) → Fresh w → Clean
        (phase_after outcome) w
    clean_after (Ok result) w clear = clear
    clean_after (Err error) w clear = clear

    none_after : (outcome : Result Data ErrorObject) (w : ServerApplication S P) → Fresh w
        → pending (phase_after outcome) w ≡ 0
    none_after (Ok result) w clear = unowed w clear
    none_after (Err error) w clear = unowed w clear

    count : (p q : Phase) (w w' : ServerApplication S P) (x : Option Message) (output : List Message) → Clean p w
        → Step (with_queues may) p w x output q w' → Count p w w' q x output
    count p q w w' x output clean step = by (row (with_queues may) p q w w' x output step)
      where
        called : (m : Option Message) → Clean serving w → WorksSending may (seen w) m output (seen w')
            → Count serving w w' serving m output
        called m silent gives =
            let due = due_one w w' m output silent gives in
            record {
              last = due.1;
              least = λ some. inl (due.0 some);
              clean = ap (λ (x : S × Queues P). x.1.sent)
                  gives.3;
            }

        by : StepCase (with_queues may) p w x output q w' → Count p w w' q x output
        by (at_initialize i method params outcome begun is e init sent next) =
            let fresh : Fresh w' = init.1 ∙ (rw begun at clean) in
            rw (is, sent, next) (count_even p w w' (phase_after outcome) (Some (request i method params))
            (response i outcome ∷ []) (omega arith)
            (ap (λ (d : Queues P). held_under id d.held) init.1) (none_after outcome w' fresh) (clean_after outcome
            w' fresh))
        by (at_initialized m begun there e opened next) =
            let fresh : Fresh w = (rw begun at clean) in
            let none = due_opened w w' output fresh opened in
            let other = none_under m (initialized_no_request m e) in
            let empty = unowed w fresh in
            rw (there, next) (record {
              last = omega (arith, none);
              least = λ some. absurd (omega (arith, some, other, empty));
              clean = ap (λ (x : S × Queues P). x.1.sent) opened.3;
            })
        by (at_served m begun there e gives next) = rw (begun, there, next) (called (Some m) (rw begun at clean) gives)
        by (at_woken begun none gives next) = rw (begun, none, next) (called None (rw begun at clean) gives)
        by (at_shutdown i method params parting begun there e gives sent next) = rw (begun, there, sent, next)
            (count_shut w w' i method params parting (rw begun at clean) gives)
        by (idle m there same any is) = rw (there, same) (count_idle p q w m output clean is)

    -- a beginning of the exchanges, the last of which may be cut off
    most_of : (before after xs : List Exchange) (p q : Phase) (w w' : ServerApplication S P)
        → Ran (with_queues may) p w xs q w' → Clean p w
        → xs ≡ before ++ after → R (sends_of before) ≤ Q (messages_of before) + pending p w
    most_of [] after xs p q w w' run clean e = omega arith
    most_of (b ∷ bs) after [] p q w w' run clean e = cc (e)
    most_of (b ∷ bs) after (x ∷ xs) p q w w' run clean e =
        let one = count p run.4 w run.5 x.came run.0 clean run.6 in
        let more = most_of bs after xs run.4 q run.5 w' run.8 one.clean (cc (e)) in
        let same : x ≡ b = cc (e) in
        let sent = how_many-append (is_reply_under id) (offered x) (sends_of bs) in
        let whole : R run.0 ≡ R (offered x) + R run.1 = ap R (sym run.2) ∙ how_many-append (is_reply_under id)
        (offered x)
        run.1 in
        let most = one.last in
        let few = few_if (came_with (is_request_under id) x.came) (pending p w) in
        let came' = came_more x bs in
        rw (sym same) (omega (arith, more, sent, most, few, whole, came'))

    pub never_more : (w w' : ServerApplication S P) (xs : List Exchange) (q : Phase)
        → Steps (with_queues may) starting w xs q w'
        → Clean starting w → NeverMore id xs
    never_more w w' xs q reached clean before after e =
        let way = ran (with_queues may) starting q w w' xs reached in
        let most = most_of before after xs starting way.0 w w' way.1 clean e in
        let none = unowed w clean in
        omega (arith, most, none)

    -- the last of these is a request under the id that the lifecycle does not allow
    abbrev EndsUnallowed : List Exchange → Phase → Type 0
    EndsUnallowed xs q = (before : List Exchange) × (x : Exchange) × (xs ≡ before ++ x ∷ []) × Unallowed x.came q

    over : (xs : List Exchange) (q : Phase) (by : SessionAnswer) (w w' : ServerApplication S P)
        → Rows (with_queues may) (ended by) w xs q w' → (xs ≡ []) × (q ≡ ended by)
    over [] q by w w' run = (refl, run.0)
    over (x ∷ xs) q by w w' run = absurd run.2

    least_of : (xs : List Exchange) (p q : Phase) (w w' : ServerApplication S P) → Rows (with_queues may) p w xs q w'
        → Clean p w
        → 1 ≤ Q (messages_of xs) + owed w → (1 ≤ R (sends_of xs) + owed w') ⊎ EndsUnallowed xs q
    least_of [] p q w w' run clean some = inl (rw run.1 (omega (arith, some)))
    least_of (x ∷ xs) p q w w' run clean some =
        at (Q (messages_of xs) + owed run.1) refl (λ clean some. least_of xs run.0 q run.1 w' run.3 clean some)
      where
        one : Count p w run.1 run.0 x.came (offered x)
        one = count p run.0 w run.1 x.came (offered x) clean run.2

        at : (n : ℕ) → Q (messages_of xs) + owed run.1 ≡ n
            → (Clean run.0 run.1 → 1 ≤ Q (messages_of xs) + owed run.1 → (1 ≤ R (sends_of xs) + owed w')
            ⊎ EndsUnallowed xs q)
            → (1 ≤ R (offered x ++ sends_of xs) + owed w') ⊎ EndsUnallowed (x ∷ xs) q
        at zero e more = elim (one.least (let came' = came_more x xs in omega (arith, e, some, came'))) [
          | inl found ↦ inl (let sent = how_many-append (is_reply_under id) (offered x) (sends_of xs) in omega (
            arith,
            sent,
            e,
            found,
          ))
          | inr unallowed ↦ (
              let rest = over xs q (Err unallowed.1) run.1 w' (rw unallowed.2 at run.3) in
              let same : q ≡ run.0 = rest.1 ∙ sym unallowed.2 in
              inr (rw (rest.0, same) ([], x, refl, unallowed))
              )
        ]
        at (suc n) e more = elim (more one.clean (omega (arith, e))) [
          | inl found ↦ inl (let sent = how_many-append (is_reply_under id) (offered x) (sends_of xs) in omega (
            arith,
            sent,
            found,
          ))
          | inr ends ↦ inr (x ∷ ends.0, ends.1, ap (λ (l : List Exchange). x ∷ l) ends.2, ends.3)
        ]

    -- no request under the id comes: no more replies than were due
    last_of : (xs : List Exchange) (p q : Phase) (w w' : ServerApplication S P) → Rows (with_queues may) p w xs q w'
        → Clean p w → Q (messages_of xs) ≡ 0
        → R (sends_of xs) + pending q w' ≤ pending p w
    last_of [] p q w w' run clean none = rw (run.0, run.1) (omega arith)
    last_of (x ∷ xs) p q w w' run clean none =
        let one = count p run.0 w run.1 x.came (offered x) clean run.2 in
        let came' = came_more x xs in
        let first = one.last in
        let more = last_of xs run.0 q run.1 w' run.3 one.clean (omega (arith, none, came')) in
        let none_came = none_if (came_with (is_request_under id) x.came) (pending p w) (omega (arith, none, came')) in
        let sent = how_many-append (is_reply_under id) (offered x) (sends_of xs) in
        omega (arith, first, more, sent, none_came)

    -- where some exchanges lead, and what follows them
    record Halfway (p : Phase) (w : ServerApplication S P) (xs ys : List Exchange) (q : Phase)
        (w' : ServerApplication S P) :
        Type 0 where
      next : Phase
      mid : ServerApplication S P
      first : Rows (with_queues may) p w xs next mid
      clean : Clean next mid
      rest : Rows (with_queues may) next mid ys q w'

    halfway : (xs ys : List Exchange) (p q : Phase) (w w' : ServerApplication S P) → Rows (with_queues may) p w
        (xs ++ ys) q
        w' → Clean p w → Halfway p w xs ys q w'
    halfway [] ys p q w w' run clean = record { next = p; mid = w; first = (refl, refl); clean = clean; rest = run }
    halfway (x ∷ xs) ys p q w w' run clean =
        let h = halfway xs ys run.0 q run.1 w' run.3 (count p run.0 w run.1 x.came (offered x) clean run.2).clean in
        record { next = h.next; mid = h.mid; first = (run.0, run.1, run.2, h.first); clean = h.clean; rest = h.rest }

    -- from the last request under the id on, at most one reply
    from_last : (x : Exchange) (xs : List Exchange) (p q : Phase) (w w' : ServerApplication S P) → Rows
        (with_queues may) p
        w (x ∷ xs) q w' → Clean p w
        → came_with (is_request_under id) x.came ≡ true → Q (messages_of xs) ≡ 0 → R (sends_of (x ∷ xs)) + pending
        q w' ≤ 1
    from_last x xs p q w w' run clean asks none =
        let one = count p run.0 w run.1 x.came (offered x) clean run.2 in
        let first : R (offered x) + pending run.0 run.1 ≤ 1 = rw asks at one.last in
        let more = last_of xs run.0 q run.1 w' run.3 one.clean none in
        let sent = how_many-append (is_reply_under id) (offered x) (sends_of xs) in
        omega (arith, first, more, sent)

    some_came : (x : Exchange) (xs : List Exchange) → came_with (is_request_under id) x.came ≡ true
        → 1 ≤ Q (messages_of (x ∷ xs))
    some_came x xs asks =
        let came' = came_more x xs in
        let one : came x.came ≡ 1 = ap one_if asks in
        omega (arith, came', one)

    is_one : (o : Option (Unit {0})) → 1 ≤ 0 + one_if (is_some o) → one_if (is_some o) ≡ 1
    is_one None one = absurd (omega (arith, one))
    is_one (Some u) one = refl

    pub answered_last : (stop : Stop) (answer : SessionAnswer) (w after w' : ServerApplication S P) (xs : List Exchange)
        (q : Phase)
        → Rows (with_queues may) starting w xs q after
        → StopsAfter (with_queues may) q after stop answer w' → Clean starting w → (stop ≡ exhausted → ⊥)
        → AnswersLast id xs stop (queues_of w'.queues).held answer
    answered_last stop answer w after w' xs q steps stops clean enough before last since cut asks none = at
        (R (sends_of (last ∷ since))) refl
      where
        h : Halfway starting w before (last ∷ since) q after
        h = halfway before (last ∷ since) starting q w after (subst (λ l. Rows (with_queues may) starting w l q after)
            cut steps) clean

        at : (n : ℕ) → R (sends_of (last ∷ since)) ≡ n → OnceOrEnded id (last ∷ since) stop
            (queues_of w'.queues).held answer
        at (suc n) e = inl (let most = from_last last since h.next q h.mid after h.rest h.clean asks none in omega
            (arith, e, most))
        at zero e = inr (
          e,
          elim (least_of (last ∷ since) h.next q h.mid after h.rest h.clean (let some = some_came last since asks in
              omega (arith, some))) [
                | inl found ↦ inl (elim (kept_to_last (with_queues may) q after w' stop answer stops) [
                  | inl out ↦ absurd (enough out)
                  | inr same ↦ ap owed same ∙ is_one _ (omega (arith, e, found))
                ])
                | inr ends ↦ inr (
                    let by = decided_by {S = ServerApplication S P} (with_queues may) q after w' stop answer stops in
                    let so = (rw ends.3.2 at by) in
                    ((ends.0, ends.1, ends.2, ends.3.0), so.0, rw so.1 ends.3.3)
                    )
              ],
        )

    -- ---- a request that was cancelled

    -- after its answer it is held no more
    gone : (d : Queues P) (outcome : Result Data ErrorObject) → held_under id (does d (replies id outcome)).held ≡ 0
    gone d outcome = at (map.contains_key d.held id) refl
      where
        at : (b : Bool) → map.contains_key d.held id ≡ b → held_under id (does d (replies id outcome)).held ≡ 0
        at true e = rw e (held_remove id d.held id ∙ ap (λ (b : Bool). cond b 0 (held_under id d.held))
            ((id_decides id id).1 refl))
        at false e = rw e (ap one_if e)

    -- a fault that shows an unallowed message ended the session
    abbrev EndsBadly : Phase → Type 0
    EndsBadly q = (fault : ProtocolFault) × (q ≡ ended (Err fault))
        × ShowsUnallowed fault

    no_exit : (method : List ℕ) (params : Data) → cancelled_by method params ≡ Some id
        → is_exit (notification method params) ≡ true → ⊥
    no_exit method params cancels named_so =
        let named : method ≡ codes "exit" = (bytes_eq-Decides method (codes "exit")).0 named_so in
        let e : None ≡ Some id = ap (λ (m : List ℕ). cancelled_by m params) (sym named) ∙ cancels in
        cc (e)

    no_exit_at : (m : Message) → Cancels id (Some m) → is_exit m ≡ true → ⊥
    no_exit_at (request i method params) cancels named_so = cancels
    no_exit_at (notification method params) cancels named_so = no_exit method params cancels named_so
    no_exit_at (response i outcome) cancels named_so = cancels

    no_reply_at : (m : Message) → Cancels id (Some m) → is_reply m ≡ true → ⊥
    no_reply_at (notification method params) cancels is = cc (is)
    no_reply_at (request i method params) cancels is = cancels
    no_reply_at (response i outcome) cancels is = cancels

    none_cancels : (came : Option Message) → Cancels id came → one_if (came_with (is_request_under id) came) ≡ 0
    none_cancels None cancels = absurd cancels
    none_cancels (Some (request i method params)) cancels = absurd cancels
    none_cancels (Some (notification method params)) cancels = refl
    none_cancels (Some (response i outcome)) cancels = absurd cancels

    cancel_served : (w w' : ServerApplication S P) (m : Message) (output : List Message) → Cancels id (Some m)
        → WorksSending may (seen w) (Some m) output (seen w') → owed w' ≡ 0
    cancel_served w w' (request i method params) output cancels gives = absurd cancels
    cancel_served w w' (response i outcome) output cancels gives = absurd cancels
    cancel_served w w' (notification method params) output cancels gives =
        let a = acts_at may (seen w) (Some (notification method params)) output (seen w') gives in
        let d = queues_of w.queues in
        let done : List (Act P) = a.acts ++ replies id (Err canceled) ∷ [] in
        let acts : acts_done_at (Some (notification method params)) a.acts ≡ done = ap (λ (o : Option Id). a.acts
        ++ cancelled_answer o) cancels in
        let held : owed w' ≡ held_under id (does_all d done).held =
        ap (λ (x : Queues P). held_under id x.held) a.queues ∙ ap (λ l. held_under id (does_all d l).held) acts in
        held ∙ ap (λ (x : Queues P). held_under id x.held) (does_push d a.acts (replies id (Err canceled)))
        ∙ gone (does_all d a.acts) (Err canceled)

    cancel_step : (p q : Phase) (w w' : ServerApplication S P) (came : Option Message) (output : List Message)
        → Cancels id came → Clean p w
        → Step (with_queues may) p w came output q w' → (owed w' ≡ 0) ⊎ EndsBadly q
    cancel_step p q w w' came output cancels clean step = by (row (with_queues may) p q w w' came output step)
      where
        by : StepCase (with_queues may) p w came output q w' → (owed w' ≡ 0) ⊎ EndsBadly q
        by (at_initialize i method params outcome begun is e init sent next) = absurd (rw is at cancels)
        by (at_initialized m begun there e opened next) = inl (let none = due_opened w w' output (rw begun at clean)
            opened in omega (arith, none))
        by (at_served m begun there e gives next) = inl (cancel_served w w' m output (rw there at cancels) gives)
        by (at_woken begun none gives next) = absurd (rw none at cancels)
        by (at_shutdown i method params parting begun there e gives sent next) = absurd (rw there at cancels)
        by (idle m there same any (early_request i method params reply begun is early sent next)) = absurd (rw (
          there,
          is,
        ) at cancels)
        by (idle m there same any (early_note begun mute e sent next)) = inl (ap owed same
            ∙ unowed w (rw begun at clean))
        by (idle m there same any (unasked shown begun mute other sent next)) = inl (ap owed same
            ∙ unowed w (rw begun at clean))
        by (idle m there same any (uninvited shown begun e sent next)) = inl (ap owed same
            ∙ unowed w (rw begun at clean))
        by (idle m there same any (leaves begun e sent next)) = absurd (no_exit_at m (rw there at cancels) e)
        by (idle m there same any (exits i begun e sent next)) = absurd (no_exit_at m (rw there at cancels) e)
        by (idle m there same any (late i begun is sent next)) = absurd (no_reply_at m (rw there at cancels) is)
        by (idle m there same any (stays i shown begun e sent next)) = inr (
          unexpected_in_shutdown
              shown,
          next,
          inr (shown, refl),
        )

    pub answers_cancelled : (stop : Stop) (answer : SessionAnswer) (w after w' : ServerApplication S P)
        (xs : List Exchange)
        (q : Phase)
        → Rows (with_queues may) starting w xs q after
        → StopsAfter (with_queues may) q after stop answer w' → Clean starting w → AnswersCancelled id xs stop answer
    answers_cancelled stop answer w after w' xs q steps stops clean earlier cancel later cut cancels before last since
        cut' asks none =
        elim (cancel_step one.next run.0 one.mid run.1 cancel.came (offered cancel) cancels one.clean run.2) [
          | inl free ↦ (elim (least_of all two.next run.0 two.mid run.1 done two.clean (let some = some_came last (since
              ++ cancel ∷ []) asks in omega (arith, some))) [
                | inl found ↦ inl (omega (arith, free, found, most))
                | inr ends ↦ inr (badly (ends.3.1, ends.3.2, ends.3.3))
              ])
          | inr bad ↦ inr (badly bad)
        ]
      where
        all : List Exchange
        all = (last ∷ since) ++ cancel ∷ []

        one : Halfway starting w earlier (cancel ∷ later) q after
        one = halfway earlier (cancel ∷ later) starting q w after (subst (λ l. Rows (with_queues may) starting w l q
            after) cut steps) clean

        two : Halfway starting w before (last ∷ since) one.next one.mid
        two = halfway before (last ∷ since) starting one.next w one.mid (subst (λ l. Rows (with_queues may) starting w
            l one.next one.mid) cut' one.first) clean

        run : Rows (with_queues may) one.next one.mid (cancel ∷ later) q after
        run = one.rest

        done : Rows (with_queues may) two.next two.mid all run.0 run.1
        done = rows_both (with_queues may) two.next one.next run.0 two.mid one.mid run.1 (last ∷ since) (cancel ∷ [])
            two.rest (run.0, run.1, run.2, (refl, refl))

        most : R (sends_of all) ≤ 1
        most =
            let first = from_last last since two.next one.next two.mid one.mid two.rest two.clean asks none in
            let second = (count one.next run.0 one.mid run.1 cancel.came (offered cancel) one.clean run.2).last in
            let other = none_if (came_with (is_request_under id) cancel.came) (pending one.next one.mid)
            (none_cancels cancel.came cancels) in
            let sent = ap R (sends_both (last ∷ since) (cancel ∷ [])) ∙ how_many-append (is_reply_under id)
            (sends_of (last ∷ since)) (sends_of (cancel ∷ [])) in
            let sent' = how_many-append (is_reply_under id) (offered cancel) [] in
            omega (arith, first, second, other, sent, sent')

        badly : EndsBadly run.0 → (stop ≡ decided) × IsErrAnd answer ShowsUnallowed
        badly bad =
            let rest = over later q (Err bad.0) run.1 after (rw bad.1 at run.3) in
            let by = decided_by {S = ServerApplication S P} (with_queues may) q after w' stop answer stops in
            let so = (rw rest.1 at by) in
            (so.0, rw so.1 bad.2)

-- what was to be sent, the rows of that, and where the session stopped
pub all_rows : {T : Type 0} (can : Behavior T) (stop : Stop) (answer : SessionAnswer) (p q : Phase) (s after s' : T)
    (xs : List Exchange) → IsSound p → Steps can p s xs q after → Stops can q after stop answer s'
    → (all : List Exchange) × WasToSend stop xs all × (end : Phase) × Rows can p s all end after
    × StopsAfter can end after stop answer s'
all_rows can stop answer p q s after s' xs sound steps stops =
    let rows = rows_of can p q s after xs steps in (
      rows.0,
      by_stop stop rows.0 rows.1 rows.3 (rows_sound can p rows.1 s after rows.0 sound rows.2) stops,
      rows.1,
      rows.2,
      stops_after can xs rows.0 rows.1 q after s' stop answer rows.3 stops,
    )
  where
    no_refusal : (q : Phase) (by : SendFault) → IsSound q → Stops can q after (refused by) answer s' → ⊥
    no_refusal (broken fault) by sound stops = sound
    no_refusal (ended other) by sound stops = stops
    no_refusal starting by sound stops = stops
    no_refusal in_reply by sound stops = stops
    no_refusal serving by sound stops = stops
    no_refusal (asked i) by sound stops = stops

    by_stop : (stop : Stop) (all : List Exchange) (end : Phase) → Completes can xs all end q → IsSound end
        → Stops can q after stop answer s' → WasToSend stop xs all
    by_stop (refused by) all end (inl so) sound stops =
        absurd (no_refusal q by (rw so.0 at sound) stops)
    by_stop (refused by) all end (inr broke) sound stops = (broke.3, broke.4, broke.5, broke.6, broke.7)
    by_stop decided all end (inl so) sound stops = so.1
    by_stop decided all end (inr broke) sound stops = absurd (rw broke.1 at stops)
    by_stop no_more all end (inl so) sound stops = so.1
    by_stop no_more all end (inr broke) sound stops = absurd (rw broke.1 at stops)
    by_stop timed_out all end (inl so) sound stops = so.1
    by_stop timed_out all end (inr broke) sound stops = absurd (rw broke.1 at stops)
    by_stop exhausted all end (inl so) sound stops = so.1
    by_stop exhausted all end (inr broke) sound stops = absurd (rw broke.1 at stops)

-- ---- `shutdown`

module _ {S P : Type 0} (may : Stated S P) where
  -- after `shutdown` the service stays as it is
  asked_keeps : (i : Id) (xs : List Exchange) (q : Phase) (w w' : ServerApplication S P) → Rows (with_queues may)
      (asked i) w
      xs q w' → (w' ≡ w) × ((q ≡ asked i) ⊎ ((by : SessionAnswer) × (q ≡ ended by)))
  asked_keeps i [] q w w' run = (run.1, inl run.0)
  asked_keeps i (x ∷ xs) q w w' run =
      by (λ more. asked_keeps i xs q run.1 w' more) (row (with_queues may) (asked i) run.0 w run.1 x.came (offered x)
      run.2)
    where
      Later : Type 0
      Later = Rows (with_queues may) (asked i) run.1 xs q w'
          → (w' ≡ run.1) × ((q ≡ asked i) ⊎ ((by : SessionAnswer) × (q ≡ ended by)))

      over : (by : SessionAnswer) → run.1 ≡ w → run.0 ≡ ended by → (w' ≡ w)
          × ((q ≡ asked i) ⊎ ((by : SessionAnswer) × (q ≡ ended by)))
      over by same next = at xs (rw next at run.3)
        where
          at : (ys : List Exchange) → Rows (with_queues may) (ended by) run.1 ys q w' → (w' ≡ w)
              × ((q ≡ asked i) ⊎ ((by : SessionAnswer) × (q ≡ ended by)))
          at [] rest = (rest.1 ∙ same, inr (by, rest.0))
          at (y ∷ ys) rest = absurd rest.2

      by : Later → StepCase (with_queues may) (asked i) w x.came (offered x) run.0 run.1 → (w' ≡ w)
          × ((q ≡ asked i) ⊎ ((by : SessionAnswer) × (q ≡ ended by)))
      by later (at_initialize j method params outcome begun is e gives sent next) = absurd (cc (begun))
      by later (at_initialized m begun there e gives next) = absurd (cc (begun))
      by later (at_served m begun there e gives next) = absurd (cc (begun))
      by later (at_woken begun none gives next) = absurd (cc (begun))
      by later (at_shutdown j method params parting begun there e gives sent next) = absurd (cc (begun))
      by later (idle m there same any (early_request j method params reply begun is early sent next)) =
          absurd (cc (begun))
      by later (idle m there same any (early_note begun mute e sent next)) = absurd (cc (begun))
      by later (idle m there same any (unasked shown begun mute other sent next)) = absurd (cc (begun))
      by later (idle m there same any (uninvited shown begun e sent next)) = absurd (cc (begun))
      by later (idle m there same any (leaves begun e sent next)) = absurd (cc (begun))
      by later (idle m there same any (exits j begun e sent next)) = over (Ok ShutDown) same next
      by later (idle m there same any (late j begun is sent next)) =
          let stays_on : run.0 ≡ asked i = next ∙ sym begun in
          let rest = later (rw stays_on at run.3) in
          (rest.0 ∙ same, rest.1)
      by later (idle m there same any (stays j shown begun e sent next)) =
          over (Err (unexpected_in_shutdown shown)) same next

  one_last : (parting : List Message) (m n : Message) → parting ++ m ∷ [] ≡ n ∷ [] → m ≡ n
  one_last [] m n e = cc (e)
  one_last (k ∷ parting) m n e =
      let none : parting ++ m ∷ [] ≡ [] = cc (e) in absurd (no_one parting [] m none)

  -- the reply to `shutdown` is given only where all that is held was answered
  asks_at : (p next : Phase) (w mid : ServerApplication S P) (i : Id) (method : List ℕ) (params : Data)
      (parting : List Message) → is_shutdown (request i method params) ≡ true → Step (with_queues may) p w
      (Some (request i method params)) (parting ++ null_reply i ∷ []) next mid → (next ≡ asked i)
      × ((queues_of mid.queues).held ≡ map.empty)
  asks_at p next w mid i method params parting asks step = by (row (with_queues may) p next w mid (Some (request i
      method params)) (parting ++ null_reply i ∷ []) step)
    where
      named : method ≡ codes "shutdown"
      named = (bytes_eq-Decides method (codes "shutdown")).0 asks

      by : StepCase (with_queues may) p w (Some (request i method params)) (parting ++ null_reply i ∷ []) next mid
          → (next ≡ asked i) × ((queues_of mid.queues).held ≡ map.empty)
      by (at_initialize j other given outcome begun is e gives sent goes) =
          let same : method ≡ other = cc (is) in
          let wrong : false ≡ true = (rw (sym same, named) at e) in
          absurd (cc (wrong))
      by (at_initialized m begun is e gives goes) =
          let same : request i method params ≡ m = cc (is) in
          let wrong : false ≡ true = (rw (sym same) at e) in
          absurd (cc (wrong))
      by (at_served m begun is e gives goes) =
          let same : request i method params ≡ m = cc (is) in
          let wrong : false ≡ true = (rw (sym same, asks) at e) in
          absurd (cc (wrong))
      by (at_woken begun none gives goes) = absurd (cc (none))
      by (at_shutdown j other given before begun is e gives sent goes) =
          let same : i ≡ j = cc (is) in
          (rw same goes, (acts_at_shutdown may (seen w) j before (seen mid) gives).none)
      by (idle m is same any (early_request j other given reply begun there early sent goes)) =
          let wrong : null_reply i ≡ reply = one_last parting (null_reply i) reply sent in
          absurd (cc (wrong ∙ early.is))
      by (idle m is same any (early_note begun mute e sent goes)) = absurd (no_one parting [] (null_reply i) sent)
      by (idle m is same any (unasked shown begun mute other sent goes)) =
          absurd (no_one parting [] (null_reply i) sent)
      by (idle m is same any (uninvited shown begun e sent goes)) = absurd (no_one parting [] (null_reply i) sent)
      by (idle m is same any (leaves begun e sent goes)) = absurd (no_one parting [] (null_reply i) sent)
      by (idle m is same any (exits j begun e sent goes)) = absurd (no_one parting [] (null_reply i) sent)
      by (idle m is same any (late j begun e sent goes)) = absurd (no_one parting [] (null_reply i) sent)
      by (idle m is same any (stays j shown begun e sent goes)) = absurd (no_one parting [] (null_reply i) sent)

  pub none_held : (stop : Stop) (answer : SessionAnswer) (w after w' : ServerApplication S P) (xs : List Exchange)
      (q : Phase) → Rows (with_queues may) starting w xs q after → StopsAfter (with_queues may) q after stop answer w'
      → GetsShutdownReply xs → (queues_of w'.queues).held ≡ map.empty
  none_held stop answer w after w' xs q run stops g =
      at g.before starting w (subst (λ (l : List Exchange). Rows (with_queues may) starting w l q after) g.cut run)
    where
      stays_so : q ≡ asked g.id ⊎ ((by : SessionAnswer) × (q ≡ ended by)) → w' ≡ after
      stays_so q_is = elim stops [
        | inr broke ↦ broke.3
        | inl stopped ↦ elim q_is [
          | inl is ↦ (elim (kept_by_stop (with_queues may) (asked g.id) after w' stop answer (rw is at stopped)) [
            | inl out ↦ (let so : Stops (with_queues may) (asked g.id) after exhausted answer w' = rw (is, out) at
                stopped in so.1)
            | inr same ↦ same
          ])
          | inr over ↦ (elim (kept_by_stop (with_queues may) (ended over.0) after w' stop answer (rw over.1 at
              stopped)) [
                | inl out ↦ (let never : ⊥ = rw (over.1, out) at stopped in absurd never)
                | inr same ↦ same
              ])
        ]
      ]

      at : (before : List Exchange) (p : Phase) (v : ServerApplication S P) → Rows (with_queues may) p v
          (before ++ g.asking
          ∷ g.after) q after → (queues_of w'.queues).held ≡ map.empty
      at (x ∷ before) p v rows = at before rows.0 rows.1 rows.3
      at [] p v rows =
          let asked_so = asks_at p rows.0 v rows.1 g.id g.method g.params g.parting g.asks (rw (g.came, g.gets) at
          rows.2) in
          let kept = asked_keeps g.id g.after q rows.1 after (rw asked_so.0 at rows.3) in
          ap (λ (x : ServerApplication S P). (queues_of x.queues).held) (stays_so kept.1 ∙ kept.0) ∙ asked_so.1

-- nobody waits any more
pub answered_in_full : (id : Id) (xs : List Exchange) (stop : Stop) (held : Pending (Unit {0})) (answer : SessionAnswer)
    → held ≡ map.empty → AnswersLast id xs stop held answer
    → AnswersLastInFull id xs stop answer
answered_in_full id xs stop held answer none answers before last since cut asks alone = elim (answers before last since
    cut asks alone) [
      | inl one ↦ inl one
      | inr rest ↦ inr (rest.0, elim rest.1 [ inl kept ↦ absurd (never kept) | inr ends ↦ ends ])
    ]
  where
    never : held_under id held ≡ 1 → ⊥
    never kept =
        let free : held_under id held ≡ 0 = ap (held_under id) none ∙ ap (λ o. one_if (is_some o))
        (get-empty id_cmp id) in
        let wrong : 0 ≡ 1 = sym free ∙ kept in
        cc (wrong)

-- ---- an id that was used once

module _ (id : Id) where
  -- the last request under the id
  record LastAsked (xs : List Exchange) : Type 0 where
    before : List Exchange
    last : Exchange
    since : List Exchange
    cut : xs ≡ before ++ last ∷ since
    asks : came_with (is_request_under id) last.came ≡ true
    none_before : how_many (is_request_under id) (messages_of before) ≡ 0
    none : how_many (is_request_under id) (messages_of since) ≡ 0

  came_one : (came : Option Message) (xs : List Exchange) (sent : List Message)
      → how_many (is_request_under id) (messages_of (record { came = came; sent = sent; not_sent = None } ∷ xs))
      ≡ one_if (came_with (is_request_under id) came) + how_many (is_request_under id) (messages_of xs)
  came_one None xs sent = omega arith
  came_one (Some m) xs sent = refl

  last_asked : (xs : List Exchange) → how_many (is_request_under id) (messages_of xs) ≡ 1 → LastAsked xs
  last_asked [] one = absurd (omega (arith, one))
  last_asked (x ∷ xs) one = at (came_with (is_request_under id) x.came) refl (λ one. last_asked xs one)
    where
      all : how_many (is_request_under id) (messages_of (x ∷ xs)) ≡ one_if (came_with (is_request_under id) x.came) +
          how_many (is_request_under id) (messages_of xs)
      all = came_one x.came xs (offered x)

      at : (b : Bool) → came_with (is_request_under id) x.came ≡ b → (how_many (is_request_under id) (messages_of xs)
          ≡ 1 → LastAsked xs) → LastAsked (x ∷ xs)
      at true e later = record {
        before = [];
        last = x;
        since = xs;
        cut = refl;
        asks = e;
        none_before = refl;
        none = let
            n = (rw e at all) in omega (arith, one, n);
      }
      at false e later =
          let n = (rw e at all) in
          let l = later (omega (arith, one, n)) in
          let more = came_one x.came l.before (offered x) in
          record {
            before = x ∷ l.before;
            last = l.last;
            since = l.since;
            cut = ap (λ (ys : List Exchange). x ∷ ys) l.cut;
            asks = l.asks;
            none_before = let m = (rw e at more) in let k = l.none_before in omega (arith, m, k);
            none = l.none;
          }

  pub used_once : (xs all : List Exchange) (stop : Stop) (held : Pending (Unit {0})) (answer : SessionAnswer)
      → WasToSend stop xs all → IsWhole stop → NeverMore id xs
      → AnswersLast id all stop held answer → how_many (is_request_under id) (messages_of xs) ≡ 1 → OnceOrEnded id xs
      stop held answer
  used_once xs all stop held answer meant whole never answers one = elim (answers l.before l.last l.since
      (same stop meant whole ∙ l.cut) l.asks l.none) [
        | inl replied ↦ inl (sent ∙ replied)
        | inr rest ↦ inr (
          sent ∙ rest.0,
          elim rest.1 [
            | inl kept ↦ inl kept
            | inr ends ↦ inr (
              (
                l.before ++ ends.0.0,
                ends.0.1,
                l.cut ∙ ap (λ ys. l.before ++ ys) ends.0.2
                    ∙ sym (append_assoc l.before ends.0.0 (ends.0.1 ∷ [])),
                ends.0.3,
              ),
              ends.1,
              ends.2,
            )
          ],
        )
      ]
    where
      l : LastAsked xs
      l = last_asked xs one

      same : (stop : Stop) → WasToSend stop xs all → IsWhole stop → all ≡ xs
      same (refused fault) meant whole = absurd whole
      same exhausted meant whole = absurd whole
      same stop meant whole = meant

      sent : how_many (is_reply_under id) (sends_of xs) ≡ how_many (is_reply_under id) (sends_of (l.last ∷ l.since))
      sent =
          let none = never l.before (l.last ∷ l.since) l.cut in
          let first = l.none_before in
          let both = ap (λ ys. how_many (is_reply_under id) (sends_of ys)) l.cut ∙ ap (how_many (is_reply_under id))
          (sends_both l.before (l.last ∷ l.since))
          ∙ how_many-append (is_reply_under id) (sends_of l.before) (sends_of (l.last ∷ l.since)) in
          omega (arith, none, first, both)

-- a client that is gone
pub owed_what_is_held : (id : Id) (xs : List Exchange) (stop : Stop) (held : Pending (Unit {0}))
    (answer : SessionAnswer) → IsGone answer
    → AnswersLast id xs stop held answer → IsOwedWhatIsHeld id xs held
owed_what_is_held id xs stop held answer lost answers before last since cut asks none = elim (answers before last since
    cut asks none) [
      | inl one ↦ inl one
      | inr rest ↦ elim rest.1 [
        | inl kept ↦ inr (rest.0, kept)
        | inr ends ↦ absurd (shown answer lost ends.2)
      ]
    ]
  where
    shown : (answer : SessionAnswer) → IsGone answer → IsErrAnd answer ShowsUnallowed → ⊥
    shown (Ok end) lost shows = shows
    shown (Err fault) lost (inl shows) = let e = (rw shows.1 at lost) in cc (e)
    shown (Err fault) lost (inr shows) = let e = (rw shows.1 at lost) in cc (e)
