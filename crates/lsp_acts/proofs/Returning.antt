-- Each reply of the client comes to the server with the payload of its own request.
use Rattle.std.proofs.Common.{◌≡◌, refl, sym, ◌∙◌, ap, subst, ℕ, ◌+◌, ◌≤◌, Bool, true, false, ◌||◌, ◌&&◌, cond, is_some}
use Rattle.std.proofs.Common.{List, [], ◌∷◌, ◌++◌, append_assoc, append-nil, arith, Option, Some, None}
use Rattle.std.proofs.lemmas.List.{map-append}
use Rattle.std.specs.FinMap as map
use Rattle.std.specs.FinMap.{get-insert, get-remove, get-empty}
use Rattle.std.specs.Ordering.{eq_by_cmp}
use Rattle.std.specs.Prelude.{Result, pos, map as map_list, if◌then◌else◌}
use Rattle.serde_json.specs.Data.{Data}
use Rattle.lsp_message.specs.Id.{Id, id_cmp, number}
use Rattle.lsp_message.specs.IdLaws.{id_total, id_decides}
use Rattle.lsp_message.specs.Message.{Message, ErrorObject, request, notification, response}
use Rattle.lsp_queue.specs.Queue.{Asked, pending_of, count_of, ids_where}
use Rattle.lsp_session.specs.Session.{offered, Exchange, came_of, sends_of}
use Rattle.lsp_acts.specs.Acts.{Act, tells, asks, cancels, cancelled_by, ends_all, Queues, is_spent, sends_request}
use Rattle.lsp_acts.specs.Acts.{does, does_all, ids_after, cancel_all}
use Rattle.lsp_acts.specs.Law.{came_with, is_reply_under, Sent, Call, requests_in, request_of, ids_after_all}
use Rattle.lsp_acts.specs.Law.{sent_by, all_sent, kept_under, acts_of, was_given, brings, GivesOwnPayloads}
use Rattle.lsp_acts.specs.Law.{SendsActs, TakesCalls}
use Rattle.lsp_acts.specs.ServerApplication.{WorksSending}
use Rattle.lsp_acts.specs.View.{seen, queues_of}
use Rattle.lsp_acts.specs.declared.server_application.ServerApplication.{ServerApplication}
use Rattle.lsp_acts.specs.SentByActs.{brought_by, queues_at, cancelled_answer, acts_done_at}
use Rattle.lsp_acts.proofs.Acting.{acts_at, at_count, at_sent, sent_so, ids_counted}
use Rattle.lsp_acts.specs.declared.server.Server.{Ghosts as Stated}

pub requests-append : (xs ys : List Message) → requests_in (xs ++ ys) ≡ requests_in xs ++ requests_in ys
requests-append [] ys = refl
requests-append (request id method params ∷ xs) ys = ap (λ l. request id method params ∷ l) (requests-append xs ys)
requests-append (x ∷ xs) ys = requests-append xs ys

-- a cancellation is no request
none_cancelled : (ids : List Id) → requests_in (cancel_all ids) ≡ []
none_cancelled [] = refl
none_cancelled (id ∷ ids) = none_cancelled ids

-- the second of two, where the first is nothing
abbrev or_kept : {P : Type 0} → Option P → Option P → Option P
or_kept None second = second
or_kept (Some payload) second = Some payload

-- two numbers that are one id are equal
same_number : (n m : ℕ) → eq_by_cmp id_cmp (number (pos n)) (number (pos m)) ≡ true → n ≡ m
same_number n m e = let same : number (pos n) ≡ number (pos m) = (id_decides (number (pos n)) (number (pos m))).0 e in
    cc (same)

other_number : (n m : ℕ) → m + 1 ≤ n → eq_by_cmp id_cmp (number (pos n)) (number (pos m)) ≡ false
other_number n m more = let same = same_number n m in grind (arith, same, more)

module _ {P : Type 0} where
  pub ids_all : (d : Queues P) (acts : List (Act P)) → count_of (does_all d acts).asked
      ≡ ids_after_all (count_of d.asked) acts
  ids_all d [] = refl
  ids_all d (act ∷ acts) = ids_all (does d act) acts ∙ ap (λ n. ids_after_all n acts) (ids_counted d act)

  pub sent-append : (count : ℕ) (xs ys : List (Act P)) → all_sent count (xs ++ ys) ≡ all_sent count xs
      ++ all_sent (ids_after_all count xs) ys
  sent-append count [] ys = refl
  sent-append count (x ∷ xs) ys =
      ap (λ l. sent_by count x ++ l) (sent-append (ids_after count x) xs ys)
      ∙ sym (append_assoc (sent_by count x) (all_sent (ids_after count x) xs)
      (all_sent (ids_after_all (ids_after count x) xs) ys))

  -- the same of how many ids were given out
  pub ids-append : (count : ℕ) (xs ys : List (Act P)) → ids_after_all count (xs ++ ys)
      ≡ ids_after_all (ids_after_all count xs) ys
  ids-append count [] ys = refl
  ids-append count (x ∷ xs) ys = ids-append (ids_after count x) xs ys

  -- what an act makes of requests is what it sends
  sent_one : (d : Queues P) (act : Act P) → requests_in (does d act).sent ≡ requests_in d.sent ++ map_list request_of
      (sent_by (count_of d.asked) act)
  sent_one d (tells method params) = requests-append d.sent (notification method params ∷ [])
  sent_one d (cancels such) =
      let ids = ids_where such (pending_of d.asked) in
      requests-append d.sent (cancel_all ids) ∙ ap (λ l. requests_in d.sent ++ l) (none_cancelled ids)
  sent_one d act = grind (arith, append-nil, requests-append)

  pub sent_all : (d : Queues P) (acts : List (Act P)) → requests_in (does_all d acts).sent ≡ requests_in d.sent
      ++ map_list request_of (all_sent (count_of d.asked) acts)
  sent_all d [] = sym (append-nil (requests_in d.sent))
  sent_all d (act ∷ acts) =
      let one = sent_by (count_of d.asked) act in
      let rest = all_sent (ids_after (count_of d.asked) act) acts in
      sent_all (does d act) acts
      ∙ ap (λ n. requests_in (does d act).sent ++ map_list request_of (all_sent n acts)) (ids_counted d act)
      ∙ ap (λ l. l ++ map_list request_of rest) (sent_one d act)
      ∙ append_assoc (requests_in d.sent) (map_list request_of one) (map_list request_of rest)
      ∙ ap (λ l. requests_in d.sent ++ l) (sym (map-append request_of one rest))

  kept-append : (id : Id) (xs ys : List (Sent P)) → kept_under id (xs ++ ys) ≡ or_kept (kept_under id xs)
      (kept_under id ys)
  kept-append id [] ys = refl
  kept-append id (x ∷ xs) ys = let more = kept-append id xs ys in grind (arith, more)

  given-push : (id : Id) (calls : List (Call P)) (call : Call P)
      → was_given id (calls ++ call ∷ []) ≡ (was_given id calls || (is_some call.payload
      && came_with (is_reply_under id) call.came))
  given-push id [] call = grind arith
  given-push id (t ∷ calls) call = let more = given-push id calls call in grind (arith, more)

  -- the queue has what these requests kept, but for the replies that were given
  pub record Agrees (sent : List (Sent P)) (before : List (Call P)) (asked : Asked P) : Type 0 where
    pub pending : (id : Id) → map.get (pending_of asked) id ≡ brings id sent before
    pub fresh : (n : ℕ) → count_of asked ≤ n → kept_under (number (pos n)) sent ≡ None
    pub ungiven : (n : ℕ) → count_of asked ≤ n → was_given (number (pos n)) before ≡ false

  pub agrees_start : Agrees [] [] (map.empty, 0)
  agrees_start = record { pending = λ id. get-empty id_cmp id; fresh = λ n more. refl; ungiven = λ n more. refl }

  agrees_none : (sent : List (Sent P)) (before : List (Call P)) (asked asked' : Asked P) → asked' ≡ asked
      → Agrees sent before asked
      → Agrees (sent ++ []) before asked'
  agrees_none sent before asked asked' same agrees = rw (append-nil sent, same) agrees

  agrees_asked : (sent : List (Sent P)) (before : List (Call P)) (asked : Asked P) (method : List ℕ) (params : Data)
      (payload : P) → Agrees sent before asked
      → Agrees (sent ++ record {
        id = number (pos (count_of asked));
        method = method;
        params = params;
        payload = payload;
      } ∷ []) before
      (map.insert (pending_of asked) (number (pos (count_of asked))) payload, count_of asked + 1)
  agrees_asked sent before asked method params payload agrees = record {
    pending = λ id. get-insert id_total (pending_of asked) next payload id ∙ at id (eq_by_cmp id_cmp id next) refl;
    fresh = λ n more. kept-append (number (pos n)) sent (one ∷ []) ∙ rw (
      agrees.fresh n (omega (arith, more)),
      other_number n (count_of asked) more,
    ) refl;
    ungiven = λ n more. agrees.ungiven n (omega (arith, more));
  }
    where
      next : Id
      next = number (pos (count_of asked))

      one : Sent P
      one = record { id = next; method = method; params = params; payload = payload }

      at : (id : Id) (b : Bool) → eq_by_cmp id_cmp id next ≡ b
          → cond b (Some payload) (map.get (pending_of asked) id) ≡ (if was_given id before then None else kept_under id
          (sent ++ one ∷ []))
      at id true e =
          let same : id ≡ next = (id_decides id next).0 e in
          let ungiven : was_given id before ≡ false = ap (λ i. was_given i before) same
          ∙ agrees.ungiven (count_of asked) (omega arith) in
          let none : kept_under id sent ≡ None = ap (λ i. kept_under i sent) same ∙ agrees.fresh (count_of asked)
          (omega arith) in
          rw (ungiven, kept-append id sent (one ∷ []), none, e) refl
      at id false e =
          let kept = kept-append id sent (one ∷ []) in
          let others : kept_under id (one ∷ []) ≡ None = ap (λ (x : Bool). if x then Some payload else None) e in
          let before = agrees.pending id in
          grind (arith, kept, others, before)

  agrees_act : (sent : List (Sent P)) (before : List (Call P)) (d : Queues P) (act : Act P) → Agrees sent before d.asked
      → Agrees (sent ++ sent_by (count_of d.asked) act) before (does d act).asked
  agrees_act sent before d (asks method params payload) agrees = at (is_spent (count_of d.asked))
    where
      at : (b : Bool) → Agrees (sent ++ (if b then [] else record {
        id = number (pos (count_of d.asked));
        method = method;
        params = params;
        payload = payload;
      } ∷ [])) before
          (if b then d else sends_request d method params payload).asked
      at true = agrees_none sent before d.asked d.asked refl agrees
      at false = agrees_asked sent before d.asked method params payload agrees
  agrees_act sent before d act agrees = agrees_none sent before d.asked (does d act).asked (grind arith) agrees

  pub agrees_acts : (sent : List (Sent P)) (before : List (Call P)) (d : Queues P) (acts : List (Act P))
      → Agrees sent before d.asked
      → Agrees (sent ++ all_sent (count_of d.asked) acts) before (does_all d acts).asked
  agrees_acts sent before d [] agrees = agrees_none sent before d.asked d.asked refl agrees
  agrees_acts sent before d (act ∷ acts) agrees =
      let one = sent_by (count_of d.asked) act in
      let more = agrees_acts (sent ++ one) before (does d act) acts (agrees_act sent before d act agrees) in
      rw (sym (append_assoc sent one (all_sent (ids_after (count_of d.asked) act) acts))) (rw (ids_counted d act)
      at more)

  abbrev pub FitsOne : List (Sent P) → List (Call P) → Call P → Type 0
  FitsOne sent before call = (id : Id) → came_with (is_reply_under id) call.came ≡ true → call.payload
      ≡ brings id sent before

  abbrev pub Fits : ℕ → List (Sent P) → List (Call P) → List (Call P) → Type 0
  Fits count sent before [] = Unit {0}
  Fits count sent before (call ∷ calls) =
      FitsOne sent before call × Fits (ids_after_all count call.acts) (sent ++ all_sent count call.acts) (before ++ call
      ∷ []) calls

  fits_at : (count : ℕ) (sent : List (Sent P)) (before between after : List (Call P)) (call : Call P)
      → Fits count sent before (between ++ call ∷ after)
      → FitsOne (sent ++ all_sent count (acts_of between)) (before ++ between) call
  fits_at count sent before [] after call fits = rw (append-nil sent, append-nil before) fits.0
  fits_at count sent before (t ∷ between) after call fits =
      let count' = ids_after_all count t.acts in
      let more = fits_at count' (sent ++ all_sent count t.acts) (before ++ t ∷ []) between after call fits.1 in
      rw (
        sent-append count t.acts (acts_of between),
        sym (append_assoc sent (all_sent count t.acts) (all_sent count' (acts_of between))),
        sym (append_assoc before (t ∷ []) between),
      ) more

  pub own_payloads : (begun : List (Act P)) (calls : List (Call P)) → Fits (ids_after_all 0 begun) (all_sent 0 begun) []
      calls → GivesOwnPayloads begun calls
  own_payloads begun calls fits before after call id cut under =
      rw (sent-append 0 begun (acts_of before)) (fits_at (ids_after_all 0 begun) (all_sent 0 begun) [] before after call
      (rw cut at fits) id under)

  -- a call in which nothing came
  agrees_other : (sent : List (Sent P)) (before : List (Call P)) (asked : Asked P) (call : Call P) → call.payload ≡ None
      → Agrees sent before asked
      → Agrees sent (before ++ call ∷ []) asked
  agrees_other sent before asked call none agrees = record {
    pending = λ id. agrees.pending id ∙ ap (λ (b : Bool). if b then None else kept_under id sent) (sym (same id));
    fresh = agrees.fresh;
    ungiven = λ n more. same (number (pos n)) ∙ agrees.ungiven n more;
  }
    where
      same : (id : Id) → was_given id (before ++ call ∷ []) ≡ was_given id before
      same id = let push = given-push id before call in grind (arith, push, none)

  -- a call in which a reply came
  agrees_given : (sent : List (Sent P)) (before : List (Call P)) (asked : Asked P) (call : Call P) (i : Id)
      (outcome : Result Data ErrorObject) (payload : P)
      → call.came ≡ Some (response i outcome) → call.payload ≡ Some payload → map.get (pending_of asked) i
      ≡ Some payload → Agrees sent before asked
      → Agrees sent (before ++ call ∷ []) (map.remove (pending_of asked) i, count_of asked)
  agrees_given sent before asked call i outcome payload arrived came kept agrees = record {
    pending = λ id. let got = get-remove id_total (pending_of asked) i id in let had = agrees.pending id in let
        now = now id in grind (arith, got, had, now);
    fresh = agrees.fresh;
    ungiven = λ n more. now (number (pos n)) ∙ rw (agrees.ungiven n more) (other n more (eq_by_cmp id_cmp
        (number (pos n)) i) refl);
  }
    where
      now : (id : Id) → was_given id (before ++ call ∷ []) ≡ (was_given id before || eq_by_cmp id_cmp id i)
      now id = given-push id before call ∙ rw (came, arrived) refl

      other : (n : ℕ) → count_of asked ≤ n → (b : Bool) → eq_by_cmp id_cmp (number (pos n)) i ≡ b → b ≡ false
      other n more true e =
          let same = (id_decides (number (pos n)) i).0 e in
          let none : map.get (pending_of asked) (number (pos n)) ≡ None =
          agrees.pending (number (pos n)) ∙ rw (agrees.ungiven n more, agrees.fresh n more) refl in
          absurd (cc (same, none, kept))
      other n more false e = refl

  -- the answer of a cancelled request is no request
  answered_none : (count : ℕ) (acts : List (Act P)) (cancelled : Option Id)
      → (ids_after_all count (acts ++ cancelled_answer cancelled) ≡ ids_after_all count acts)
      × (all_sent count (acts ++ cancelled_answer cancelled) ≡ all_sent count acts)
  answered_none count [] None = (refl, refl)
  answered_none count [] (Some id) = (refl, refl)
  answered_none count (act ∷ acts) cancelled =
      let more = answered_none (ids_after count act) acts cancelled in (more.0, ap (λ l. sent_by count act ++ l) more.1)

  -- nor are the answers at `shutdown`
  ended_none : (count : ℕ) (ids : List Id) → ◌≡◌ {A = List (Sent P)} (all_sent count (ends_all ids)) []
  ended_none count [] = refl
  ended_none count (id ∷ ids) = ended_none count ids

  pub parted_none : (count : ℕ) (acts : List (Act P)) (ids : List Id) → all_sent count (acts ++ ends_all ids)
      ≡ all_sent count acts
  parted_none count acts ids =
      sent-append count acts (ends_all ids) ∙ ap (λ l. all_sent count acts ++ l) (ended_none (ids_after_all count acts)
      ids) ∙ append-nil (all_sent count acts)

  answered_at : (count : ℕ) (m : Option Message) (acts : List (Act P))
      → (ids_after_all count (acts_done_at m acts) ≡ ids_after_all count acts) × (all_sent count (acts_done_at m acts)
      ≡ all_sent count acts)
  answered_at count (Some (notification method params)) acts = answered_none count acts (cancelled_by method params)
  answered_at count m acts = (refl, refl)

  -- one more call
  agrees_at : (sent : List (Sent P)) (before : List (Call P)) (d : Queues P) (m : Option Message) (payload : Option P)
      (acts : List (Act P))
      → payload ≡ brought_by d m → Agrees sent before d.asked
      → Agrees sent (before ++ record { came = m; payload = payload; acts = acts } ∷ []) (queues_at d m payload).asked
  agrees_at sent before d (Some (response i outcome)) None acts is agrees = agrees_other sent before d.asked _
      refl agrees
  agrees_at sent before d (Some (response i outcome)) (Some payload) acts is agrees =
      agrees_given sent before d.asked _ i outcome payload refl refl (sym is) agrees
  agrees_at sent before d m payload acts is agrees = agrees_other sent before d.asked _ is agrees

  fits_one : (sent : List (Sent P)) (before : List (Call P)) (d : Queues P) (m : Option Message) (payload : Option P)
      (acts : List (Act P))
      → payload ≡ brought_by d m → Agrees sent before d.asked → FitsOne sent before
      (record { came = m; payload = payload; acts = acts })
  fits_one sent before d (Some (response i outcome)) payload acts is agrees id under =
      let same : id ≡ i = (id_decides id i).0 under in
      is ∙ sym (ap (λ j. map.get (pending_of d.asked) j) same) ∙ agrees.pending id
  fits_one sent before d m payload acts is agrees id under = absurd (cc (under))

module _ {S P : Type 0} (may : Stated S P) where
  -- the server has these calls, and this is sent at each
  abbrev pub GivesAll : ServerApplication S P → List Exchange → ServerApplication S P → Type 0
  GivesAll w [] w' = w' ≡ w
  GivesAll w (x ∷ xs) w' = (mid : ServerApplication S P) × WorksSending may (seen w) x.came (offered x) (seen mid)
      × GivesAll mid xs w'

  -- they are as many calls
  pub record Turned (w w' : ServerApplication S P) (xs : List Exchange) (asked : List (Sent P))
      (before : List (Call P)) :
      Type 0 where
    pub calls : List (Call P)
    pub came_are : map_list (λ (call : Call P). call.came) calls ≡ came_of xs
    pub took : TakesCalls may (count_of (queues_of w.queues).asked) w.server calls w'.server
    pub sent : requests_in (sends_of xs) ≡ map_list request_of (all_sent (count_of (queues_of w.queues).asked)
        (acts_of calls))
    pub fits : Fits (count_of (queues_of w.queues).asked) asked before calls
    pub acted : SendsActs may (seen w) calls xs (seen w')
    pub counted : count_of (queues_of w'.queues).asked ≡ ids_after_all (count_of (queues_of w.queues).asked)
        (acts_of calls)

  pub call_all : (w w' : ServerApplication S P) (xs : List Exchange) (sent : List (Sent P)) (before : List (Call P))
      → (queues_of w.queues).sent ≡ []
      → Agrees sent before (queues_of w.queues).asked → GivesAll w xs w' → Turned w w' xs sent before
  call_all w w' [] sent before silent agrees all = record {
    calls = [];
    came_are = refl;
    took = ap (λ (x : ServerApplication S P). x.server) all;
    sent = refl;
    fits = tt;
    acted = ap (λ (x : ServerApplication S P). seen x) all;
    counted = ap (λ (x : ServerApplication S P). count_of (queues_of x.queues).asked) all;
  }
  call_all w w' (x ∷ xs) sent before silent agrees all =
      let mid = all.0 in
      let d : Queues P = queues_of w.queues in
      let a = acts_at may (seen w) x.came (offered x) (seen mid) all.1 in
      let call : Call P = record { came = x.came; payload = a.payload; acts = a.acts } in
      let start : Queues P = queues_at d x.came a.payload in
      let acts = acts_done_at x.came a.acts in
      let n = count_of d.asked in
      let same : count_of start.asked ≡ n = at_count d x.came a.payload in
      let asked : (queues_of mid.queues).asked ≡ (does_all start acts).asked = ap (λ (d : Queues P). d.asked)
      a.queues in
      let count : count_of (queues_of mid.queues).asked ≡ ids_after_all n a.acts =
      ap count_of asked ∙ ids_all start acts ∙ ap (λ k. ids_after_all k acts) same ∙ (answered_at n x.came a.acts).0 in
      let sends : all_sent (count_of start.asked) acts ≡ all_sent n a.acts = ap (λ k. all_sent k acts) same
      ∙ (answered_at n x.came a.acts).1 in
      let agrees' : Agrees (sent ++ all_sent n a.acts) (before ++ call ∷ []) (queues_of mid.queues).asked =
      subst (Agrees (sent ++ all_sent n a.acts) (before ++ call ∷ [])) (sym asked)
      (subst (λ l. Agrees (sent ++ l) (before ++ call ∷ []) (does_all start acts).asked) sends
      (agrees_acts sent (before ++ call ∷ []) start acts (agrees_at sent before d x.came a.payload a.acts a.brought
      agrees))) in
      let rest = call_all mid w' xs (sent ++ all_sent n a.acts) (before ++ call ∷ []) (ap (λ (d : Queues P). d.sent)
      a.queues) agrees' all.2 in
      let now : requests_in (offered x) ≡ map_list request_of (all_sent n a.acts) =
      ap requests_in (sent_so may (seen w) x.came (offered x) (seen mid) a) ∙ sent_all start acts
      ∙ (λ i. requests_in ((at_sent d x.came a.payload ∙ silent) i) ++ map_list request_of (sends i)) in
      let later : requests_in (sends_of xs) ≡ map_list request_of (all_sent (ids_after_all n a.acts)
      (acts_of rest.calls)) =
      rest.sent ∙ ap (λ k. map_list request_of (all_sent k (acts_of rest.calls))) count in
      record {
        calls = call ∷ rest.calls;
        came_are = ap (λ l. x.came ∷ l) rest.came_are;
        took = (
          a.did,
          mid.server,
          a.handed,
          a.back,
          subst (λ k. TakesCalls may k mid.server rest.calls w'.server) count
              rest.took,
        );
        sent = requests-append (offered x) (sends_of xs) ∙ (λ i. now i ++ later i)
            ∙ sym (ap (λ l. map_list request_of l) (sent-append n a.acts (acts_of rest.calls))
            ∙ map-append request_of (all_sent n a.acts) (all_sent (ids_after_all n a.acts) (acts_of rest.calls)));
        fits = (
          fits_one sent before d x.came a.payload a.acts a.brought agrees,
          subst (λ k. Fits k (sent ++ all_sent n a.acts) (before ++ call ∷ []) rest.calls) count rest.fits,
        );
        acted = (seen mid, a, refl, rest.acted);
        counted = rest.counted ∙ ap (λ k. ids_after_all k (acts_of rest.calls)) count
            ∙ sym (ids-append n a.acts (acts_of rest.calls));
      }
