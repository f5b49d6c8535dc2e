-- A server takes part in its session, by its stated meaning, and the session keeps the laws.
use Rattle.std.proofs.Common.{◌≡◌, refl, sym, ◌∙◌, ap, subst, inl, inr, Bool, true, false, List, [], ◌∷◌, ◌++◌}
use Rattle.std.proofs.Common.{append-nil, append_assoc, Option, Some, None}
use Rattle.std.proofs.lemmas.List.Folds.{list_all-append}
use Rattle.std.specs.Bool.{MatchBool}
use Rattle.std.specs.List.{list_all}
use Rattle.serde_json.specs.Data.{Data}
use Rattle.std.specs.Prelude.{Result, Ok, Err, IsSomeAnd, map as map_list}
use Rattle.std.proofs.lemmas.List.{map-append}
use Rattle.lsp_queue.specs.Queue.{count_of}
use Rattle.lsp_message.specs.Id.{Id}
use Rattle.lsp_message.specs.Message.{Message, ErrorObject, request, notification, response}
use Rattle.lsp_message.specs.Methods.{is_initialize, is_initialized, is_exit}
use Rattle.lsp_session.proofs.Ran.{sends_both, early_request, early_note, unasked as unasked_for, uninvited}
use Rattle.lsp_session.proofs.Ran.{leaves as goes, exits, late, stays, StepCase, at_initialize, at_initialized}
use Rattle.lsp_session.proofs.Ran.{at_served, at_woken, at_shutdown, idle, row}
use Rattle.lsp_session.specs.ProtocolError.{expected_initialize, expected_initialized, unexpected_in_shutdown}
use Rattle.lsp_session.specs.Replies.{null_reply, IsEarlyReply}
use Rattle.lsp_session.specs.Session.{Exchange, came_of, offered, sends_of, SessionAnswer, Stop, Phase, starting}
use Rattle.lsp_session.specs.Session.{replied as in_reply, serving, asked, ended, phase_after, is_reply, is_served}
use Rattle.lsp_session.specs.Session.{Fails, Leaves, Step, SessionOut}
use Rattle.lsp_session.proofs.Rows.{Rows}
use Rattle.lsp_session.specs.SessionLaws.{is_refusal}
use Rattle.lsp_session.specs.declared.loops.handler.SessionEnd.TheVariants.{Closed, ShutDown}
use Rattle.lsp_acts.specs.Acts.{Act, Queues, TakesBack, cleared, does_all, empty_queues, ends_all, released, unsent}
use Rattle.lsp_acts.specs.Law.{requests_in, request_of, ids_after_all, all_sent, acts_of, is_call, IsUnserved}
use Rattle.lsp_acts.specs.Law.{PartsFirst, SendsActs, TakesCalls, TakesPart, GivesPayloads, GoesOn, Initializes}
use Rattle.lsp_acts.specs.Law.{KeepsLaws, LawfulSession}
use Rattle.lsp_acts.specs.ServerApplication.{with_queues, held_by, OpensSending, ServerSession, WorksSending}
use Rattle.lsp_acts.specs.declared.server_application.ServerApplication.{ServerApplication}
use Rattle.lsp_acts.specs.SentByActs.{ActsAtShutdown}
use Rattle.lsp_acts.proofs.Acting.{acts_at_shutdown, sent_at_shutdown, sent_all as acts_sent}
use Rattle.lsp_acts.proofs.Counting.{Fresh, kept_to_last, never_more, answered_last, answers_cancelled, all_rows}
use Rattle.lsp_acts.proofs.Counting.{none_held}
use Rattle.lsp_acts.proofs.Returning.{requests-append, ids_all, sent-append, sent_all, parted_none, Agrees}
use Rattle.lsp_acts.proofs.Returning.{agrees_start, agrees_acts, Fits, own_payloads, GivesAll, call_all}
use Rattle.lsp_acts.specs.View.{queues_of, seen}
use Rattle.lsp_acts.specs.declared.server.Server.{Ghosts as Stated}
use Rattle.lsp_session.proofs.Ordering.{keeps_order}

module _ {S P : Type 0} (may : Stated S P) where
  abbrev Runs_from : Phase → ServerApplication S P → List Exchange → Phase → ServerApplication S P → Type 0
  Runs_from = Rows (with_queues may)

  -- ---- from `initialized` on

  over : (xs : List Exchange) (by : SessionAnswer) (q : Phase) (w w' : ServerApplication S P)
      → Runs_from (ended by) w xs q w'
      → (xs ≡ []) × (w' ≡ w)
  over [] by q w w' run = (refl, run.1)
  over (x ∷ xs) by q w w' run = absurd run.2

  -- after the reply to `shutdown` nothing is sent, and the server stays
  quiet : (xs : List Exchange) (i : Id) (q : Phase) (w w' : ServerApplication S P) → Runs_from (asked i) w xs q w'
      → (sends_of xs ≡ []) × (w' ≡ w)
  quiet [] i q w w' run = (refl, run.1)
  quiet (x ∷ xs) i q w w' run = by (λ rest. quiet xs i q run.1 w' rest) x.came run.2
    where
      none : (by : SessionAnswer) → run.1 ≡ w → offered x ≡ [] → run.0 ≡ ended by
          → (offered x ++ sends_of xs ≡ []) × (w' ≡ w)
      none by same silent next =
          let rest = over xs by q run.1 w' (rw next at run.3) in
          (rw (silent, rest.0) refl, rest.1 ∙ same)

      at : (Runs_from (asked i) run.1 xs q w' → (sends_of xs ≡ []) × (w' ≡ run.1)) → (b c : Bool)
          → MatchBool b ((offered x ≡ []) × (run.0 ≡ ended (Ok ShutDown)))
          (MatchBool c ((offered x ≡ []) × (run.0 ≡ asked i)) (Fails unexpected_in_shutdown (offered x) run.0))
          → run.1 ≡ w → (offered x ++ sends_of xs ≡ []) × (w' ≡ w)
      at later true c step same = none (Ok ShutDown) same step.0 step.1
      at later false true step same = let rest = later (rw step.1 at run.3) in (rw (step.0, rest.0) refl, rest.1 ∙ same)
      at later false false step same = none (Err (unexpected_in_shutdown step.0)) same step.1 step.2

      by : (Runs_from (asked i) run.1 xs q w' → (sends_of xs ≡ []) × (w' ≡ run.1)) → (came : Option Message)
          → Step (with_queues may) (asked i) w came (offered x) run.0 run.1
          → (offered x ++ sends_of xs ≡ []) × (w' ≡ w)
      by later None step = absurd step
      by later (Some m) step = at later (is_exit m) (is_reply m) step.0 step.1

  -- the server's calls, and what came after them
  record SessionOutcome (w w' : ServerApplication S P) (xs : List Exchange) : Type 0 where
    served : List Exchange
    rest : List Exchange
    mid : ServerApplication S P
    given : GivesAll may w served mid
    all_served : list_all is_call (came_of served) ≡ true
    unserved : IsUnserved (came_of rest)
    cut : xs ≡ served ++ rest
    parting : List (Act P)
    parted : PartsFirst may (seen mid) rest parting (seen w')
    last : requests_in (sends_of rest) ≡ map_list request_of (all_sent (count_of (queues_of mid.queues).asked) parting)

  -- `shutdown` or `exit` comes, or nothing
  serve_left : (w w' : ServerApplication S P) (xs : List Exchange) (parting : List (Act P)) → IsUnserved (came_of xs)
      → PartsFirst may (seen w) xs parting (seen w')
      → requests_in (sends_of xs) ≡ map_list request_of (all_sent (count_of (queues_of w.queues).asked) parting)
      → SessionOutcome w w' xs
  serve_left w w' xs parting unserved parted last =
      record {
        served = [];
        rest = xs;
        mid = w;
        given = refl;
        all_served = refl;
        unserved = unserved;
        cut = refl;
        parting = parting;
        parted = parted;
        last = last;
      }

  -- one more call comes first
  serve_more : (w mid w' : ServerApplication S P) (x : Exchange) (xs : List Exchange) → is_call x.came ≡ true
      → WorksSending may (seen w) x.came (offered x) (seen mid) → SessionOutcome mid w' xs
      → SessionOutcome w w' (x ∷ xs)
  serve_more w mid w' x xs call gives s = record {
    served = x ∷ s.served;
    rest = s.rest;
    mid = s.mid;
    given = (mid, gives, s.given);
    all_served = rw call s.all_served;
    unserved = s.unserved;
    cut = ap (λ (l : List Exchange). x ∷ l) s.cut;
    parting = s.parting;
    parted = s.parted;
    last = s.last;
  }

  -- the requests that are sent at `shutdown`
  parting_asks : (w mid : ServerApplication S P) (i : Id) (parting : List Message)
      (a : ActsAtShutdown may (seen w) i parting
      (seen mid)) → (queues_of w.queues).sent ≡ []
      → requests_in parting ≡ map_list request_of (all_sent (count_of (queues_of w.queues).asked) a.acts)
  parting_asks w mid i parting a silent =
      let d = queues_of w.queues in
      ap requests_in (sent_at_shutdown may (seen w) i parting (seen mid) a) ∙ sent_all (released d i) (a.acts
      ++ ends_all a.ids)
      ∙ (λ j. requests_in (silent j) ++ map_list request_of (parted_none (count_of d.asked) a.acts a.ids j))

  -- a message that is not served comes
  leave : (w mid w' : ServerApplication S P) (q next : Phase) (x : Exchange) (xs : List Exchange) (m : Message)
      → (queues_of w.queues).sent ≡ [] → x.came ≡ Some m → is_served m ≡ false
      → Leaves (with_queues may) w m (offered x) next mid → Runs_from next mid xs q w' → SessionOutcome w w' (x ∷ xs)
  leave w mid w' q next x xs (request i method params) silent there other leaves run =
      let a = acts_at_shutdown may (seen w) i leaves.0 (seen mid) leaves.1 in
      let rest = quiet xs i q mid w' (rw leaves.3 at run) in
      let asks : requests_in (offered x ++ sends_of xs) ≡ requests_in leaves.0 =
      rw rest.0 (ap requests_in (append-nil (offered x) ∙ leaves.2) ∙ requests-append leaves.0 (null_reply i ∷ [])
      ∙ append-nil (requests_in leaves.0)) in
      serve_left w w' (x ∷ xs) a.acts (ap is_call there ∙ other) (rw (there, rest.1) (leaves.0, a, refl, leaves.2))
      (asks ∙ parting_asks w mid i leaves.0 a silent)
  leave w mid w' q next x xs (notification method params) silent there other leaves run =
      let rest = over xs (Ok Closed) q mid w' (rw leaves.1 at run) in
      serve_left w w' (x ∷ xs) [] (ap is_call there ∙ other) (rw there (
        refl,
        ap (λ (v : ServerApplication S P). seen v)
            (rest.1 ∙ leaves.2),
      )) (rw (leaves.0, rest.0) refl)
  leave w mid w' q next x xs (response i outcome) silent there other leaves run = absurd (cc (other))

  serve_all : (xs : List Exchange) (q : Phase) (w w' : ServerApplication S P) → (queues_of w.queues).sent ≡ []
      → Runs_from serving w xs q w' → SessionOutcome w w' xs
  serve_all [] q w w' silent run = serve_left w w' [] [] tt (refl, ap (λ (v : ServerApplication S P). seen v) run.1)
      refl
  serve_all (x ∷ xs) q w w' silent run = by (λ quiet rest. serve_all xs q run.1 w' quiet rest) x.came refl run.2
    where
      Rest : Type 0
      Rest = (queues_of run.1.queues).sent ≡ [] → Runs_from serving run.1 xs q w' → SessionOutcome run.1 w' xs

      call : Rest → is_call x.came ≡ true
          → WorksSending may (seen w) x.came (offered x) (seen run.1) × (run.0 ≡ serving)
          → SessionOutcome w w' (x ∷ xs)
      call later is step = serve_more w run.1 w' x xs is step.0 (later (ap (λ (v : S × Queues P). v.1.sent) step.0.3)
          (rw step.1 at run.3))

      at : Rest → (m : Message) → x.came ≡ Some m → (b : Bool) → is_served m ≡ b
          → MatchBool b ((with_queues may).outputs w m (offered x) run.1 × (run.0 ≡ serving)) (Leaves (with_queues
          may) w m
          (offered x) run.0 run.1)
          → SessionOutcome w w' (x ∷ xs)
      at later m there true e step = call later (rw (there, e) refl) (rw there step)
      at later m there false e step = leave w run.1 w' q run.0 x xs m silent there e step run.3

      by : Rest → (came : Option Message) → x.came ≡ came
          → Step (with_queues may) serving w came (offered x) run.0 run.1
          → SessionOutcome w w' (x ∷ xs)
      by later None none step = call later (rw none refl) (rw none step)
      by later (Some m) there step = at later m there (is_served m) refl step

  -- ---- from the result of `initialize` on

  -- The server's part: what it sent at `initialized`, its calls, and what came after these.
  takes_part : (w mid w' : ServerApplication S P) (x : Exchange) (xs : List Exchange) → Fresh may w → OpensSending may
      (seen w) (offered x) (seen mid)
      → SessionOutcome mid w' xs → TakesPart may w.server w'.server x xs
  takes_part w mid w' x xs fresh opens s =
      let opened : OpensSending may (w.server, empty_queues) (offered x) (seen mid) = subst (λ (d : Queues P).
      OpensSending
      may (w.server, d) (offered x) (seen mid)) fresh opens in
      let begun = opened.1.0 in
      let asked : (queues_of mid.queues).asked ≡ (does_all empty_queues begun).asked =
      ap (λ (x : S × Queues P). x.1.asked) opened.3 ∙ ap (λ (x : Queues P). x.asked) opened.1.4 in
      let count : count_of (queues_of mid.queues).asked ≡ ids_after_all 0 begun = ap count_of asked
      ∙ ids_all empty_queues begun in
      let first : requests_in (offered x) ≡ map_list request_of (all_sent 0 begun) =
      ap requests_in opened.2 ∙ ap (λ (x : Queues P). requests_in x.sent) opened.1.4 ∙ sent_all empty_queues begun in
      let t = call_all may mid s.mid s.served (all_sent 0 begun) [] (ap (λ (x : S × Queues P). x.1.sent) opened.3)
      (subst (Agrees (all_sent 0 begun) []) (sym asked) (agrees_acts [] [] empty_queues begun agrees_start)) s.given in
      let n = ids_after_all 0 begun in
      let done = acts_of t.calls in
      let later : map_list request_of (all_sent n done) ≡ requests_in (sends_of s.served) = sym (t.sent
      ∙ ap (λ k. map_list request_of (all_sent k done)) count) in
      let counted : count_of (queues_of s.mid.queues).asked ≡ ids_after_all n done = t.counted
      ∙ ap (λ k. ids_after_all k done) count in
      let last : map_list request_of (all_sent (ids_after_all n done) s.parting) ≡ requests_in (sends_of s.rest) =
      sym (s.last ∙ ap (λ k. map_list request_of (all_sent k s.parting)) counted) in
      let sends : requests_in (offered x ++ sends_of xs) ≡ requests_in (offered x) ++ (requests_in (sends_of s.served)
      ++ requests_in (sends_of s.rest)) =
      requests-append (offered x) (sends_of xs)
      ∙ ap (λ l. requests_in (offered x) ++ l) (ap (λ l. requests_in (sends_of l)) s.cut
      ∙ ap requests_in (sends_both s.served s.rest)
      ∙ requests-append (sends_of s.served) (sends_of s.rest)) in
      let asks : map_list request_of (all_sent n (done ++ s.parting)) ≡ map_list request_of (all_sent n done)
      ++ map_list request_of (all_sent (ids_after_all n done) s.parting) =
      ap (λ l. map_list request_of l) (sent-append n done s.parting) ∙ map-append request_of (all_sent n done)
      (all_sent (ids_after_all n done) s.parting) in
      let start : seen mid ≡ (mid.server, cleared (does_all empty_queues begun)) =
      ap (λ (d : Queues P). (mid.server, d)) (ap (λ (x : S × Queues P). x.1) opened.3 ∙ ap (λ (d : Queues P). cleared d)
      opened.1.4) in
      record {
        begun = begun;
        calls = t.calls;
        at_calls = s.served;
        rest = s.rest;
        cut = s.cut;
        came = sym t.came_are;
        served = s.all_served;
        ended = s.unserved;
        did = opened.1.1;
        first = mid.server;
        began = opened.1.2;
        took_back = subst (λ (v : S). TakesBack may.ids_exhausted_post opened.1.1 (unsent 0 begun) v)
            (sym (ap (λ (x : S × Queues P). x.0) opened.3)) opened.1.3;
        called = s.mid.server;
        took_calls = subst (λ k. TakesCalls may k mid.server t.calls s.mid.server) count t.took;
        opened = opened.2 ∙ ap (λ (d : Queues P). d.sent) opened.1.4 ∙ acts_sent empty_queues begun;
        queues = queues_of s.mid.queues;
        acted = subst (λ (a : S × Queues P). SendsActs may a t.calls s.served (seen s.mid)) start t.acted;
        parting = s.parting;
        left = queues_of w'.queues;
        parted = s.parted;
        sent = ap (λ l. map_list request_of (all_sent 0 l)) (append_assoc begun done s.parting)
            ∙ ap (λ l. map_list request_of l) (sent-append 0 begun (done ++ s.parting))
            ∙ map-append request_of (all_sent 0 begun) (all_sent n (done ++ s.parting))
            ∙ (λ i. sym first i ++ (asks ∙ (λ j. later j ++ last j)) i) ∙ sym sends;
        payloads = own_payloads begun t.calls (subst (λ k. Fits k (all_sent 0 begun) [] t.calls) count t.fits);
      }

  after_result : (xs : List Exchange) (q : Phase) (w w' : ServerApplication S P) → Fresh may w → Runs_from in_reply w
      xs q w'
      → GoesOn may w.server w'.server xs
  after_result [] q w w' fresh run = ap (λ (x : ServerApplication S P). x.server) run.1
  after_result (x ∷ xs) q w w' fresh run = by x.came refl run.2
    where
      -- what follows, as the message tells
      Next : Bool → Type 0
      Next b = MatchBool b (TakesPart may w.server w'.server x xs) ((sends_of (x ∷ xs) ≡ []) × (w'.server ≡ w.server))

      goes_on : (m : Message) → x.came ≡ Some m → (b : Bool) → is_initialized m ≡ b → Next b → GoesOn may w.server
          w'.server (x ∷ xs)
      goes_on m there b e next = subst (λ (came : Option Message). IsSomeAnd came (λ m. Next (is_initialized m)))
          (sym there) (subst (λ (b : Bool). Next b) (sym e) next)

      at : (m : Message) → x.came ≡ Some m → (b : Bool) → is_initialized m ≡ b
          → MatchBool b ((with_queues may).at_initialized w (offered x) run.1 × (run.0 ≡ serving))
          (Fails expected_initialized (offered x) run.0 × (run.1 ≡ w))
          → GoesOn may w.server w'.server (x ∷ xs)
      at m there true e step = goes_on m there true e (takes_part w run.1 w' x xs fresh step.0 (serve_all xs q run.1 w'
          (ap (λ (v : S × Queues P). v.1.sent) step.0.3) (rw step.1 at run.3)))
      at m there false e step =
          let rest = over xs (Err (expected_initialized step.0.0)) q run.1 w' (rw step.0.2 at run.3) in
          goes_on m there false e (
            rw (step.0.1, rest.0) refl,
            ap (λ (x : ServerApplication S P). x.server) (rest.1
                ∙ step.1),
          )

      by : (came : Option Message) → x.came ≡ came → Step (with_queues may) in_reply w came (offered x) run.0 run.1
          → GoesOn may w.server w'.server (x ∷ xs)
      by None none step = absurd step
      by (Some m) there step = at m there (is_initialized m) refl step

  -- ---- from the beginning on

  -- at a message before the result the server answers an `initialize`, or stays
  abbrev Begun : S → Option Message → List Message → S → Type 0
  Begun s came output s' = IsSomeAnd came (λ m. MatchBool (is_initialize m) (Initializes may s m output s') (s' ≡ s))

  begun_one : (w w' : ServerApplication S P) (m : Option Message) (output : List Message) (next : Phase)
      → Step (with_queues may) starting w m output next w' → Begun w.server m output w'.server
  begun_one w w' (Some (request i method params)) output next step = at (is_initialize (request i method params)) step
    where
      at : (b : Bool)
          → MatchBool b ((outcome : Result Data ErrorObject) × (with_queues may).initializes w params outcome w'
          × (output ≡ response i outcome ∷ []) × (next ≡ phase_after outcome))
          ((reply : Message) × IsEarlyReply i reply × (output ≡ reply ∷ []) × (next ≡ starting) × (w' ≡ w))
          → MatchBool b (Initializes may w.server (request i method params) output w'.server) (w'.server ≡ w.server)
      at true step =
          record {
            id = i;
            method = method;
            params = params;
            outcome = step.0;
            came = refl;
            gave = step.1.0;
            told = step.2;
          }
      at false step = ap (λ (x : ServerApplication S P). x.server) step.4
  begun_one w w' (Some m) output next step = ap (λ (x : ServerApplication S P). x.server) step.1
  begun_one w w' None output next step = step

  -- one more error comes first, or a message without a reply
  payloads_more : (s mid last : S) (x : Exchange) (xs : List Exchange) → list_all is_refusal (offered x) ≡ true
      → Begun s x.came (offered x) mid
      → GivesPayloads may mid last xs → GivesPayloads may s last (x ∷ xs)
  payloads_more s mid last x xs errors begun payloads = elim payloads [
    | inl none ↦ inl (
      list_all-append is_refusal (offered x) (sends_of xs) ∙ (rw (errors, none.0) refl),
      (mid, begun, none.1),
    )
    | inr p ↦ inr (
      x ∷ p.0,
      p.1,
      ap (λ (l : List Exchange). x ∷ l) p.2,
      record {
        before = x ∷ p.3.before;
        id = p.3.id;
        method = p.3.method;
        params = p.3.params;
        result = p.3.result;
        asks = p.3.asks;
        last = p.3.last;
        cut = ap (λ (l : List Exchange). x ∷ l) p.3.cut;
        came = p.3.came;
        gets = p.3.gets;
      },
      list_all-append is_refusal (offered x) (sends_of p.3.before) ∙ (rw (errors, p.4) refl),
      p.5,
      (mid, begun, p.6),
      p.7,
    )
  ]

  payloads_from : (xs : List Exchange) (q : Phase) (w w' : ServerApplication S P) → Fresh may w
      → Runs_from starting w xs q w' → GivesPayloads may w.server w'.server xs
  payloads_from [] q w w' fresh run = inl (refl, ap (λ (x : ServerApplication S P). x.server) run.1)
  payloads_from (x ∷ xs) q w w' fresh run =
      by (λ fresh rest. payloads_from xs q run.1 w' fresh rest) (row (with_queues may) starting run.0 w run.1 x.came
      (offered x) run.2)
    where
      begun : Begun w.server x.came (offered x) run.1.server
      begun = begun_one w run.1 x.came (offered x) run.0 run.2

      more : list_all is_refusal (offered x) ≡ true → GivesPayloads may run.1.server w'.server xs → GivesPayloads may
          w.server w'.server (x ∷ xs)
      more errors rest = payloads_more w.server run.1.server w'.server x xs errors begun rest

      by : (Fresh may run.1 → Runs_from starting run.1 xs q w' → GivesPayloads may run.1.server w'.server xs)
          → StepCase (with_queues may) starting w x.came (offered x) run.0 run.1 → GivesPayloads may w.server w'.server
          (x ∷ xs)
      by later (at_initialize i method params (Ok result) first is e init sent next) = inr (
        x ∷ [],
        xs,
        refl,
        record {
          before = [];
          id = i;
          method = method;
          params = params;
          result = result;
          asks = e;
          last = x;
          cut = refl;
          came = is;
          gets = sent;
        },
        refl,
        run.1.server,
        (run.1.server, begun, refl),
        after_result xs q run.1 w' (init.1 ∙ fresh) (rw next at run.3),
      )
      by later (at_initialize i method params (Err error) first is e init sent next) =
          more (rw sent refl)
          (later (init.1 ∙ fresh) (rw next at run.3))
      by later (at_initialized m first there e opened next) = absurd (cc (first))
      by later (at_served m first there e gives next) = absurd (cc (first))
      by later (at_woken first none woken next) = absurd (cc (first))
      by later (at_shutdown i method params parting first there e gives sent next) = absurd (cc (first))
      by later (idle m there same any (early_request i method params reply first is replies sent next)) =
          more (rw (sent, replies.is) refl) (later (rw same fresh) (rw next at run.3))
      by later (idle m there same any (early_note first mute e sent next)) = more (rw sent refl) (later (rw same fresh)
          (rw next at run.3))
      by later (idle m there same any (unasked_for shown first mute other sent next)) =
          let rest = over xs (Err (expected_initialize shown)) q run.1 w' (rw next at run.3) in
          inl (
            rw (sent, rest.0) refl,
            (
              run.1.server,
              begun,
              rw rest.0 (ap (λ (x : ServerApplication S P). x.server)
                  rest.1),
            ),
          )
      by later (idle m there same any (uninvited shown first e sent next)) = absurd (cc (first))
      by later (idle m there same any (goes first e sent next)) = absurd (cc (first))
      by later (idle m there same any (exits i first e sent next)) = absurd (cc (first))
      by later (idle m there same any (late i first is sent next)) = absurd (cc (first))
      by later (idle m there same any (stays i shown first e sent next)) = absurd (cc (first))

module _ {S P : Type 0} (may : Stated S P) where
  -- a session of a server that was put beside its queues and taken out again
  pub session_of : (old new : ServerApplication S P) (first last : S) → seen old ≡ (first, empty_queues) → last ≡
      new.server
      → (xs : List Exchange) (stop : Stop) (answer : SessionAnswer)
      → SessionOut (with_queues may) old new xs stop answer → ServerSession may first last xs stop answer
  session_of old new first last begun left xs stop answer out =
      record { old = old; new = new; from_first = begun; to_last = left; out = out }

  module _ (first last : S) (xs : List Exchange) (stop : Stop) (answer : SessionAnswer) where
    pub keeps_laws : (session : ServerSession may first last xs stop answer) → KeepsLaws may first last
        (held_by may session) xs stop answer
    keeps_laws session =
        let out = session.out in
        let fresh : queues_of session.old.queues ≡ empty_queues = ap (λ (x : S × Queues P). x.1) session.from_first in
        let all = all_rows (with_queues may) stop answer starting out.last session.old out.after session.new xs tt
        out.reached out.stopped in
        record {
          never_more = λ id. never_more may id session.old out.after xs out.last out.reached fresh;
          order = keeps_order (with_queues may) session.old session.new xs stop answer out;
          all = all.0;
          to_send = all.1;
          once = λ enough id. answered_last may id stop answer session.old out.after session.new all.0 all.2 all.3
              all.4 fresh enough;
          cancelled = λ id. answers_cancelled may id stop answer session.old out.after session.new all.0 all.2 all.3
              all.4 fresh;
          none_held = none_held may stop answer session.old out.after session.new all.0 all.2 all.3 all.4;
          after = out.after.server;
          payloads = subst (λ (s : S). GivesPayloads may s out.after.server all.0) (ap (λ (x : S × Queues P). x.0)
              session.from_first)
              (payloads_from may all.0 all.2 session.old out.after fresh all.3);
          kept = elim (kept_to_last (with_queues may) all.2 out.after session.new stop answer all.4) [
            | inl e ↦ inl e
            | inr e ↦ inr (session.to_last ∙ ap (λ (x : ServerApplication S P). x.server) e)
          ];
        }

    pub lawful : ServerSession may first last xs stop answer → LawfulSession may first last xs stop answer
    lawful session = (session, keeps_laws session)
