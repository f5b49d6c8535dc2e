-- Of each reply that is sent at a wake: whose it is. And wakes and sessions that the laws of jobs refuse.
use Rattle.serde_json.specs.Data.{Data}
use Rattle.std.proofs.Common.{◌≡◌, ◌⊎◌, refl, sym, ◌∙◌, ap, subst, inl, inr, ℕ, ◌+◌, ◌≤◌, Bool, true, false, List, []}
use Rattle.std.proofs.Common.{◌∷◌, ◌++◌, append_assoc, append-nil, arith, Option, Some, None}
use Rattle.std.specs.FinMap as map
use Rattle.std.specs.Ordering.{eq_by_cmp}
use Rattle.std.specs.Prelude.{Err, pos, map as map_list, if◌then◌else◌}
use Rattle.lsp_message.specs.Id.{Id, id_cmp, number}
use Rattle.lsp_message.specs.IdLaws.{id_decides}
use Rattle.lsp_message.specs.Message.{Message, request, notification, response}
use Rattle.lsp_queue.specs.Queue.{count_of, pending_of, ids_where}
use Rattle.lsp_session.proofs.Ran.{messages_both}
use Rattle.lsp_session.specs.Session.{Exchange, offered, SessionAnswer, Stop, messages_of, sends_of}
use Rattle.lsp_acts.proofs.Counting.{how_many-append}
use Rattle.lsp_acts.specs.Acts.{Act, Queues, tells, asks, replies, cancels, cancelled_by, does, is_spent}
use Rattle.lsp_acts.specs.Acts.{cancel_all, cancel_method, cancel_params}
use Rattle.lsp_acts.specs.Law.{how_many, is_reply_under, is_request_under, one_if}
use Rattle.lsp_acts.specs.SentByActs.{all_sends}
use Rattle.lsp_acts.specs.declared.server.Server.{Ghosts as Plain}
use Rattle.lsp_jobs.proofs.LastJobs.{job_of_last}
use Rattle.lsp_jobs.specs.Asking.{by_server, of_job}
use Rattle.lsp_jobs.specs.Ends.{Came, ComesTo, End, Outcome, end_of, reply_of, too_many}
use Rattle.lsp_jobs.specs.JobLaw.{AnswersRequest, IsQuiet, LastRequest, LawfulJobSession, Leads, RepliesItself}
use Rattle.lsp_jobs.specs.JobLaw.{WakeSends}
use Rattle.lsp_jobs.specs.Pooled.{reply_at, IsAtOnce}
use Rattle.lsp_jobs.specs.KeyedJobLaw.{AllQuiet, IsCalled, IsTurn, JobSays, LastGiven, Left, MayPass, Spares, Stands}
use Rattle.lsp_jobs.specs.KeyedJobLaw.{Turn}
use Rattle.lsp_jobs.specs.KeyedJobLaw.{WakeDoes, at_ends, concerns, is_that}
use Rattle.lsp_jobs.specs.declared.asking.RequestOrigin.{RequestOrigin}
use Rattle.lsp_jobs.specs.declared.asking.RequestOrigin.TheVariants.{ByJob}
use Rattle.lsp_jobs.specs.Stated.{SeesEnd, StatedJobs}
use Rattle.lsp_jobs.specs.declared.names.JobName.{JobName}
use Rattle.lsp_jobs.specs.declared.names.JobName.TheVariants.{Request, Keyed}

same : (id : Id) → eq_by_cmp id_cmp id id ≡ true
same id = (id_decides id id).1 refl

not_empty : {A B : Type 0} (xs rest : List A) (x : A) → [] ≡ xs ++ x ∷ rest → B
not_empty [] rest x e = absurd (cc (e))
not_empty (first ∷ xs) rest x e = absurd (cc (e))

-- ---- which act sends a reply

abbrev Has : {A : Type 0} → A → List A → Type 0
Has {A} x all = (xs : List A) × (ys : List A) × (all ≡ xs ++ x ∷ ys)

has_later : {A : Type 0} (x y : A) (all : List A) → Has x all → Has x (y ∷ all)
has_later {A} x y all has = (y ∷ has.0, has.1, ap (λ (l : List A). y ∷ l) has.2)

has_either : {A : Type 0} (x : A) (first second xs ys : List A) → first ++ second ≡ xs ++ x ∷ ys → Has x first
    ⊎ Has x second
has_either x [] second xs ys e = inr (xs, ys, e)
has_either {A} x (y ∷ first) second [] ys e = let is : y ≡ x = cc (e) in inl ([], first, ap (λ (z : A). z ∷ first) is)
has_either x (y ∷ first) second (z ∷ xs) ys e =
    let rest : first ++ second ≡ xs ++ x ∷ ys = cc (e) in
    elim (has_either x first second xs ys rest) [
      | inl own ↦ inl (has_later x y first own)
      | inr other ↦ inr other
    ]

-- a message is the first of these, or follows it
first_or_later : {A : Type 0} (m r : A) (rest before after : List A) → m ∷ rest ≡ before ++ r ∷ after → (m ≡ r)
    ⊎ ((more : List A) × (rest ≡ more ++ r ∷ after))
first_or_later m r rest [] after e = inl (cc (e))
first_or_later m r rest (b ∷ before) after e = inr (before, cc (e))

-- what an act sends, and then others
sent_or_later : (b : Bool) (m r : Message) (rest before after : List Message) → (if b then m ∷ [] else []) ++ rest
    ≡ before ++ r ∷ after → (m ≡ r) ⊎ ((more : List Message) × (rest ≡ more ++ r ∷ after))
sent_or_later true m r rest before after e = first_or_later m r rest before after e
sent_or_later false m r rest before after e = inr (before, e)

asked_or_later : (b : Bool) (m r : Message) (rest before after : List Message) → (if b then [] else m ∷ []) ++ rest
    ≡ before ++ r ∷ after → (m ≡ r) ⊎ ((more : List Message) × (rest ≡ more ++ r ∷ after))
asked_or_later true m r rest before after e = inr (before, e)
asked_or_later false m r rest before after e = first_or_later m r rest before after e

no_notice : {A : Type 0} (method : List ℕ) (params : Data) (id : Id) (outcome : Outcome) → notification method params
    ≡ response id outcome → A
no_notice method params id outcome e = absurd (cc (e))

no_request_is_reply : {A : Type 0} (i : Id) (method : List ℕ) (params : Data) (id : Id) (outcome : Outcome) → request i
    method params ≡ response id outcome → A
no_request_is_reply i method params id outcome e = absurd (cc (e))

-- cancellations are sent, and then others
cancelled_before : (ids : List Id) (id : Id) (outcome : Outcome) (rest before after : List Message) → cancel_all ids
    ++ rest ≡ before ++ response id outcome ∷ after → (more : List Message) × (rest ≡ more ++ response id outcome
    ∷ after)
cancelled_before [] id outcome rest before after e = (before, e)
cancelled_before (i ∷ ids) id outcome rest before after e =
    elim (first_or_later (notification cancel_method (cancel_params i)) (response id outcome) (cancel_all ids ++ rest)
    before after e) [
      | inl wrong ↦ no_notice cancel_method (cancel_params i) id outcome wrong
      | inr later ↦ cancelled_before ids id outcome rest later.0 after later.1
    ]

module _ {P : Type 0} where
  -- a reply is sent by an act that gives it
  by_an_act : (acts : List (Act P)) (d : Queues P) (id : Id) (outcome : Outcome) (before after : List Message)
      → all_sends d acts ≡ before ++ response id outcome ∷ after → Has (replies id outcome) acts
  by_an_act [] d id outcome before after e = not_empty before after (response id outcome) e
  by_an_act (tells method params ∷ acts) d id outcome before after e =
      elim (first_or_later (notification method params) (response id outcome) _ before after e) [
        | inl wrong ↦ no_notice method params id outcome wrong
        | inr later ↦ has_later _ _ acts (by_an_act acts (does d (tells method params)) id outcome later.0 after
            later.1)
      ]
  by_an_act (asks method params payload ∷ acts) d id outcome before after e =
      elim (asked_or_later (is_spent (count_of d.asked)) (request (number (pos (count_of d.asked))) method params)
      (response id outcome) _ before after e) [
        | inl wrong ↦ no_request_is_reply _ method params id outcome wrong
        | inr later ↦ has_later _ _ acts (by_an_act acts (does d (asks method params payload)) id outcome later.0 after
            later.1)
      ]
  by_an_act (replies i o ∷ acts) d id outcome before after e =
      elim (sent_or_later (map.contains_key d.held i) (response i o) (response id outcome) _ before after e) [
        | inl is ↦
            let the : i ≡ id = cc (is) in
            let it : o ≡ outcome = cc (is) in
            ([], acts, λ k. replies (the k) (it k) ∷ acts)
        | inr later ↦ has_later _ _ acts (by_an_act acts (does d (replies i o)) id outcome later.0 after later.1)
      ]
  by_an_act (cancels such ∷ acts) d id outcome before after e =
      let later = cancelled_before (ids_where such (pending_of d.asked)) id outcome _ before after e in
      has_later _ _ acts (by_an_act acts (does d (cancels such)) id outcome later.0 after later.1)

  -- an act of the server that gives it
  own_reply : (act : Act P) (id : Id) (outcome : Outcome) → by_server act ≡ replies id outcome → act
      ≡ replies id outcome
  own_reply (tells method params) id outcome e = absurd (cc (e))
  own_reply (asks method params payload) id outcome e = absurd (cc (e))
  own_reply (replies i o) id outcome e =
      let the : i ≡ id = cc (e) in let it : o ≡ outcome = cc (e) in λ k. replies (the k) (it k)
  own_reply (cancels z) id outcome e = absurd (cc (e))

  by_own : (acts : List (Act P)) (id : Id) (outcome : Outcome) → Has (replies id outcome) (map_list by_server acts)
      → Has (replies id outcome) acts
  by_own [] id outcome has = not_empty has.0 has.1 (replies id outcome) has.2
  by_own (act ∷ acts) id outcome has =
      elim (first_or_later (by_server act) (replies id outcome) (map_list by_server acts) has.0 has.1 has.2) [
        | inl is ↦ ([], acts, ap (λ (a : Act P). a ∷ acts) (own_reply act id outcome is))
        | inr later ↦ has_later _ act acts (by_own acts id outcome (later.0, has.1, later.1))
      ]

-- the last of a list is the one that is named, or follows it
last_of : {A : Type 0} (xs : List A) (x : A) (before : List A) (r : A) (since : List A)
    → xs ++ x ∷ [] ≡ before ++ r ∷ since → (x ≡ r) ⊎ ((more : List A) × (since ≡ more ++ x ∷ []))
last_of [] x [] r since e = inl (cc (e))
last_of [] x (b ∷ before) r since e = let rest : [] ≡ before ++ r ∷ since = cc (e) in not_empty before since r rest
last_of (y ∷ xs) x [] r since e = let rest : xs ++ x ∷ [] ≡ since = cc (e) in inr (xs, sym rest)
last_of (y ∷ xs) x (b ∷ before) r since e = last_of xs x before r since (cc (e))

-- two places in a list: the same, or one follows the other
two_places : {A : Type 0} (before since later after : List A) (x y : A)
    → before ++ x ∷ since ≡ later ++ y ∷ after
    → (x ≡ y) ⊎ (Has y since ⊎ Has x after)
two_places [] since [] after x y e = inl (cc (e))
two_places [] since (b ∷ later) after x y e = inr (inl (later, after, cc (e)))
two_places (b ∷ before) since [] after x y e =
    let rest : before ++ x ∷ since ≡ after = cc (e) in inr (inr (before, since, sym rest))
two_places (b ∷ before) since (c ∷ later) after x y e = two_places before since later after x y (cc (e))

-- the last of quiet exchanges is quiet
quiet_last : (id : Id) (xs : List Exchange) (x : Exchange) → IsQuiet id (xs ++ x ∷ []) → (concerns id x.came ≡ false)
    × (how_many (is_reply_under id) (offered x) ≡ 0)
quiet_last id [] x quiet = (quiet.0, quiet.1)
quiet_last id (y ∷ xs) x quiet = quiet_last id xs x quiet.2

-- the latest exchange came with this very request, or is quiet, and sent no reply under the id
latest : (xs : List Exchange) (x : Exchange) (id : Id) (method : List ℕ) (params : Data) → LastRequest (xs ++ x ∷ []) id
    method params
    → ((x.came ≡ Some (request id method params)) ⊎ (concerns id x.came ≡ false))
    × (how_many (is_reply_under id) (offered x) ≡ 0)
latest xs x id method params l =
    elim (last_of xs x l.before l.asking l.since l.cut) [
      | inl is ↦ (
        inl (ap (λ (y : Exchange). y.came) is ∙ l.came),
        ap (λ (y : Exchange). how_many (is_reply_under id) (offered y)) is ∙ l.unanswered,
      )
      | inr later ↦ (let q = quiet_last id later.0 x (subst (IsQuiet id) later.1 l.quiet) in (inr q.0, q.1))
    ]

module _ {S J F P : Type 0} (plain : Plain S P) (may : StatedJobs S J F P) where
  abbrev Whose : S → List Exchange → List Message → Id → Outcome → Type 0
  Whose first earlier output id outcome =
      AnswersRequest plain may first earlier id outcome ⊎ RepliesItself plain may first earlier output id outcome

  by_left : (left : List (Left may)) (id : Id) (outcome : Outcome) → Has (replies id outcome) (at_ends may left)
      → (l : Left may) × Has l left × Has (replies id outcome) l.acts
  by_left [] id outcome has = not_empty has.0 has.1 (replies id outcome) has.2
  by_left (l ∷ left) id outcome has =
      elim (has_either (replies id outcome) l.acts (at_ends may left) has.0 has.1 has.2) [
        | inl own ↦ (l, ([], left, refl), own)
        | inr later ↦ (let r = by_left left id outcome later in (r.0, has_later r.0 l left r.1, r.2))
      ]

  -- a reply among acts of which there is one
  only_reply : {A Q : Type 0} (act : Act Q) (id : Id) (outcome : Outcome) → (act ≡ replies id outcome → A)
      → Has (replies id outcome) (act ∷ []) → A
  only_reply act id outcome gives has =
      elim (first_or_later act (replies id outcome) [] has.0 has.1 has.2) [
        | inl is ↦ gives is
        | inr later ↦ not_empty later.0 has.1 (replies id outcome) later.1
      ]

  -- that of the job that stands
  by_name : (first : S) (earlier : List Exchange) (turns : List (Turn plain may)) (now : S) (name : JobName) (job : J)
      (came : Came F) (id : Id) (outcome : Outcome) → Leads plain may first earlier turns now
      → Stands plain may turns name job → ComesTo may.run_post job came
      → Has {A = Act P} (replies id outcome) (reply_at name came) → AnswersRequest plain may first earlier id outcome
  by_name first earlier turns now (Keyed key) job came id outcome led stands comes has =
      not_empty has.0 has.1 (replies id outcome) has.2
  by_name first earlier turns now (Request i) job came id outcome led stands comes has =
      only_reply (replies i (reply_of came)) id outcome (λ is.
      let the : i ≡ id = cc (is) in
      let it : reply_of came ≡ outcome = cc (is) in record {
        job = job;
        given = job_of_last plain may first earlier turns now id job led
            (subst (λ (x : Id). LastGiven plain may turns x job) the stands);
        came = came;
        comes = comes;
        reply = sym it;
      }) has

  by_job : (first : S) (earlier : List Exchange) (output : List Message) (w : WakeSends plain may first earlier output)
      (name : JobName) (job : J) (id : Id) (outcome : Outcome) → Stands plain may w.turns name job
      → JobSays plain may w.turn name job → Has (replies id outcome) w.turn.call.acts
      → Whose first earlier output id outcome
  by_job first earlier output w name job id outcome stands (inl r) has =
      only_reply (tells r.0 r.1) id outcome (λ wrong. absurd (cc (wrong)))
      (subst (Has (replies id outcome)) r.3 has)
  by_job first earlier output w name job id outcome stands (inr (inl a)) has =
      only_reply (asks a.0 a.1 (ByJob a.2)) id outcome (λ wrong. absurd (cc (wrong)))
      (subst (Has (replies id outcome)) a.4 has)
  by_job first earlier output w name job id outcome stands (inr (inr o)) has =
      let t = w.turn in
      let own = by_own ((o.1 ++ reply_at name o.0) ++ at_ends may t.left) id outcome
      (subst (Has (replies id outcome)) o.4 has) in
      elim (has_either (replies id outcome) (o.1 ++ reply_at name o.0) (at_ends may t.left) own.0 own.1 own.2) [
        | inr later ↦
            let r = by_left t.left id outcome later in
            let l = r.0 in
            inr (record {
              wake = w;
              name = Keyed l.key;
              end = l.end;
              old = l.old;
              before = r.2.0;
              after = r.2.1;
              new = l.new;
              saw = subst (λ (acts : List (Act P)). SeesEnd may l.old (Keyed l.key) l.end acts l.new) r.2.2 l.saw;
              at = inr (l, r.1.0, r.1.1, r.1.2, refl, refl, refl, sym r.2.2, refl);
            })
        | inl now ↦ elim (has_either (replies id outcome) o.1 (reply_at name o.0) now.0 now.1 now.2) [
          | inl itself ↦ inr (record {
            wake = w;
            name = name;
            end = end_of o.0;
            old = t.old;
            before = itself.0;
            after = itself.1;
            new = t.asked;
            saw = subst (λ (acts : List (Act P)). SeesEnd may t.old name (end_of o.0) acts t.asked) itself.2 o.3;
            at = inl (o.5, refl, refl);
          })
          | inr reply ↦ inl (by_name first earlier w.turns t.old name job o.0 id outcome w.led stands o.2 reply)
        ]
      ]

  -- whose reply it is
  pub whose : (first : S) (earlier : List Exchange) (output before after : List Message) (id : Id) (outcome : Outcome)
      → WakeSends plain may first earlier output → output ≡ before ++ response id outcome ∷ after
      → Whose first earlier output id outcome
  whose first earlier output before after id outcome w cut = at w.does
    where
      has : Has (replies id outcome) w.turn.call.acts
      has = by_an_act w.turn.call.acts w.sent.0 id outcome before (after ++ w.lost)
          (w.sent.1 ∙ ap (λ (l : List Message). l ++ w.lost) cut
          ∙ append_assoc before (response id outcome ∷ after) w.lost)

      at : WakeDoes plain may w.turns w.turn → Whose first earlier output id outcome
      at (inl nothing) = not_empty has.0 has.1 (replies id outcome) (sym nothing.0 ∙ has.2)
      at (inr (inl s)) = by_job first earlier output w s.0 s.1 id outcome s.2 s.3 has
      at (inr (inr c)) = only_reply (cancels (of_job c.0)) id outcome (λ wrong. absurd (cc (wrong)))
          (subst (Has (replies id outcome)) c.1 has)

  -- at a wake, after these exchanges, one reply is sent, and no more
  abbrev Gives : S → List Exchange → Id → Outcome → Type 0
  Gives first earlier id outcome = WakeSends plain may first earlier (response id outcome ∷ [])

  its_own : (first : S) (earlier : List Exchange) (id : Id) (outcome : Outcome)
      → (RepliesItself plain may first earlier (response id outcome ∷ []) id outcome → ⊥)
      → Gives first earlier id outcome → AnswersRequest plain may first earlier id outcome
  its_own first earlier id outcome silent gives =
      elim (whose first earlier (response id outcome ∷ []) [] [] id outcome gives refl) [
        | inl r ↦ r
        | inr itself ↦ absurd (silent itself)
      ]

  module _ (first : S) (silent : (earlier : List Exchange) (output : List Message) (id : Id) (outcome : Outcome)
      → RepliesItself plain may first earlier output id outcome → ⊥) where
    -- a reply to which no job may come that the server may give for the last request under the id, be it that of an
    -- earlier or another one, or of a job that is for the request and was not given
    forbidden : (xs : List Exchange) (id : Id) (method : List ℕ) (params : Data) (output : List Message)
        (outcome : Outcome)
        → ((server : S) (job : J) (came : Came F) → may.job_post server id method params job
        → may.is_for job method params → ComesTo may.run_post job came → outcome ≡ reply_of came → ⊥)
        → Gives first (xs ++ record { came = Some (request id method params); sent = output; not_sent = None } ∷ [])
        id outcome → ⊥
    forbidden xs id method params output outcome never gives =
        let r = its_own first all id outcome (silent all (response id outcome ∷ []) id outcome) gives in
        at r (latest xs asks id r.given.method r.given.params r.given.last).0
      where
        asks : Exchange
        asks = record { came = Some (request id method params); sent = output; not_sent = None }

        all : List Exchange
        all = xs ++ asks ∷ []

        at : (r : AnswersRequest plain may first all id outcome)
            → (◌≡◌ {A = Option Message} (Some (request id method params))
            (Some (request id r.given.method r.given.params)))
            ⊎ (eq_by_cmp id_cmp id id ≡ false) → ⊥
        at r (inl is) =
            let m : method ≡ r.given.method = cc (is) in
            let p : params ≡ r.given.params = cc (is) in
            let both = subst (λ (x : List ℕ × Data). may.job_post r.given.server id x.0 x.1 r.job
            × may.is_for r.job x.0 x.1) (λ k. (sym m k, sym p k)) (r.given.gives, r.given.is_for) in
            never r.given.server r.job r.came both.0 both.1 r.comes r.reply
        at r (inr calm) = let e : true ≡ false = sym (same id) ∙ calm in absurd (cc (e))

    -- a reply after the request's cancellation
    after_cancellation : (xs : List Exchange) (id : Id) (method : List ℕ) (params : Data) (output : List Message)
        (outcome : Outcome) → cancelled_by method params ≡ Some id
        → Gives first (xs ++ record { came = Some (notification method params); sent = output; not_sent = None } ∷
        []) id outcome → ⊥
    after_cancellation xs id method params output outcome is gives =
        let all = xs ++ record { came = Some (notification method params); sent = output; not_sent = None } ∷ [] in
        let r = its_own first all id outcome (silent all (response id outcome ∷ []) id outcome) gives in
        elim (latest xs (record { came = Some (notification method params); sent = output; not_sent = None }) id
        r.given.method
        r.given.params r.given.last).0 [
          | inl wrong ↦ absurd (cc (wrong))
          | inr calm ↦ (let e : true ≡ false = sym (same id) ∙ sym (ap (is_that id) is) ∙ calm in absurd (cc (e)))
        ]

    -- a second reply; and the outcome of a job after its request was refused
    second_reply : (xs : List Exchange) (id : Id) (came : Option Message) (one outcome : Outcome)
        → Gives first (xs ++ record { came = came; sent = response id one ∷ []; not_sent = None } ∷ []) id outcome → ⊥
    second_reply xs id came one outcome gives =
        let all = xs ++ record { came = came; sent = response id one ∷ []; not_sent = None } ∷ [] in
        let r = its_own first all id outcome (silent all (response id outcome ∷ []) id outcome) gives in
        let none : one_if (eq_by_cmp id_cmp id id) + 0 ≡ 0 = (latest xs (record {
          came = came;
          sent = response id one
              ∷ [];
          not_sent = None;
        }) id r.given.method r.given.params r.given.last).1 in
        let some : one_if (eq_by_cmp id_cmp id id) ≡ 1 = ap one_if (same id) in
        omega (arith, none, some)

    after_refusal : (xs : List Exchange) (id : Id) (method : List ℕ) (params : Data) (outcome : Outcome)
        → Gives first (xs ++ record {
          came = Some (request id method params);
          sent = response id (Err too_many) ∷ [];
          not_sent = None;
        } ∷ []) id outcome → ⊥
    after_refusal xs id method params outcome = second_reply xs id (Some (request id method params))
        (Err too_many) outcome

    -- a reply, and no request under its id came
    no_request : (earlier : List Exchange) (id : Id) (outcome : Outcome) → how_many (is_request_under id)
        (messages_of earlier) ≡ 0 → Gives first earlier id outcome → ⊥
    no_request earlier id outcome none gives =
        let r = its_own first earlier id outcome (silent earlier (response id outcome ∷ []) id outcome) gives in
        let l = r.given.last in
        let all : messages_of earlier
        ≡ messages_of l.before ++ request id r.given.method r.given.params ∷ messages_of l.since =
        ap messages_of l.cut ∙ messages_both l.before (l.asking ∷ l.since)
        ∙ ap (λ (o : Option Message). messages_of l.before
        ++ messages_of (record { came = o; sent = []; not_sent = None } ∷ l.since)) l.came in
        let count = ap (how_many (is_request_under id)) all ∙ how_many-append (is_request_under id)
        (messages_of l.before) (request id r.given.method r.given.params ∷ messages_of l.since) in
        let one : one_if (eq_by_cmp id_cmp id id) ≡ 1 = ap one_if (same id) in
        omega (arith, none, count, one)

module _ (T : Type 0) {S J F P : Type 0} (plain : Plain S P) (may : StatedJobs S J F P) where
  -- one request gets two replies
  two_replies : (first last : S) (exchanges : List Exchange) (stop : Stop)
      (answer : SessionAnswer) (id : Id)
      → how_many (is_request_under id) (messages_of exchanges) ≡ 1 → how_many (is_reply_under id)
      (sends_of exchanges) ≡ 2
      → LawfulJobSession T plain may first last exchanges stop answer → ⊥
  two_replies first last exchanges stop answer id one two session =
      let few : how_many (is_reply_under id) (sends_of exchanges) ≤ how_many (is_request_under id)
      (messages_of exchanges) = session.laws.never_more id exchanges [] (sym (append-nil exchanges)) in
      absurd (omega (arith, one, two, few))

  -- a reply goes to a request that never came
  reply_to_nobody : (first last : S) (exchanges : List Exchange) (stop : Stop)
      (answer : SessionAnswer) (id : Id)
      → how_many (is_request_under id) (messages_of exchanges) ≡ 0 → how_many (is_reply_under id)
      (sends_of exchanges) ≡ 1
      → LawfulJobSession T plain may first last exchanges stop answer → ⊥
  reply_to_nobody first last exchanges stop answer id none one session =
      let few : how_many (is_reply_under id) (sends_of exchanges) ≤ how_many (is_request_under id)
      (messages_of exchanges) = session.laws.never_more id exchanges [] (sym (append-nil exchanges)) in
      absurd (omega (arith, none, one, few))

module _ {S J F P : Type 0} (plain : Plain S P) (may : StatedJobs S J F P) where
  -- a long request has a reply at once that its server does not know, and that is no error for want of room or memory
  unknown_reply : (t : Turn plain may) (id : Id) (method : List ℕ) (params : Data) (outcome : Outcome)
      → t.call.came ≡ Some (request id method params) → t.call.acts ≡ replies id outcome ∷ []
      → (may.is_long_post t.old method params false → ⊥) → (IsAtOnce may t.old id method params outcome → ⊥)
      → IsTurn plain may t → ⊥
  unknown_reply t id method params outcome came said short unknown (inl called) =
      short (subst (λ (l : Option Message). IsCalled plain may t.old l t.heard called.0 t.asked) came called.1).0
  unknown_reply t id method params outcome came said short unknown (inr passed) =
      let long = subst (λ (l : Option Message). MayPass plain may t.old l t.call.acts) came passed.0 in
      elim long [
        | inl given ↦ (let none : replies id outcome ∷ [] ≡ [] = sym said ∙ given.1.3 in absurd (cc (none)))
        | inr known ↦
            let same : ◌≡◌ {A = List (Act (RequestOrigin P))} (replies id outcome ∷ []) (replies id known.1 ∷ []) =
            sym said ∙ known.3 in
            let it : outcome ≡ known.1 = cc (same) in
            unknown (subst (IsAtOnce may t.old id method params) (sym it) known.2)
      ]

  -- the server changes at a long request
  changed_when_long : (t : Turn plain may) (id : Id) (method : List ℕ) (params : Data)
      → t.call.came ≡ Some (request id method params) → (may.is_long_post t.old method params false → ⊥)
      → (t.new ≡ t.old → ⊥) → IsTurn plain may t → ⊥
  changed_when_long t id method params came short changed (inl called) =
      short (subst (λ (l : Option Message). IsCalled plain may t.old l t.heard called.0 t.asked) came called.1).0
  changed_when_long t id method params came short changed (inr passed) = changed passed.3

  quiet_at : (id : Id) (before after : List (Turn plain may)) (t : Turn plain may)
      → AllQuiet plain may id (before ++ t ∷ after) → concerns id t.call.came ≡ false
  quiet_at id [] after t quiet = quiet.0
  quiet_at id (x ∷ before) after t quiet = quiet_at id before after t quiet.2

  -- no request under this id is among quiet turns
  no_other : (id : Id) (turns : List (Turn plain may)) (t : Turn plain may) (method : List ℕ) (params : Data)
      → AllQuiet plain may id turns → Has t turns → t.call.came ≡ Some (request id method params) → ⊥
  no_other id turns t method params quiet has came =
      let calm = quiet_at id has.0 has.1 t (subst (AllQuiet plain may id) has.2 quiet) in
      let no : true ≡ false = sym (same id) ∙ sym (ap (concerns id) came) ∙ calm in
      absurd (cc (no))

  -- two jobs have a say in the name of one request
  two_jobs : (earlier : List (Turn plain may)) (id : Id) (one other : J) → (one ≡ other → ⊥)
      → Stands plain may earlier (Request id) one → Stands plain may earlier (Request id) other → ⊥
  two_jobs earlier id one other differ a b =
      elim (two_places a.before a.since b.before b.since a.turn b.turn (sym a.cut ∙ b.cut)) [
        | inl is ↦
            let e : Some one ≡ Some other =
            sym a.given ∙ ap (λ (t : Turn plain may). t.given) is ∙ b.given in
            differ (cc (e))
        | inr apart ↦ elim apart [
          | inl later ↦ no_other id a.since b.turn b.method b.params a.quiet later b.came
          | inr sooner ↦ no_other id b.since a.turn a.method a.params b.quiet sooner a.came
        ]
      ]

  -- no request came under this id in these turns
  abbrev Unasked : List (Turn plain may) → Id → Type 0
  Unasked earlier id = (t : Turn plain may) (method : List ℕ) (params : Data) → Has t earlier
      → t.call.came ≡ Some (request id method params) → ⊥

  -- a job has a say in the name of a request that never came
  for_no_request : (earlier : List (Turn plain may)) (id : Id) (job : J) → Unasked earlier id
      → Stands plain may earlier (Request id) job → ⊥
  for_no_request earlier id job unasked last =
      unasked last.turn last.method last.params (last.before, last.since, last.cut) last.came

  last_quiet : (id : Id) (xs : List (Turn plain may)) (t : Turn plain may) → AllQuiet plain may id (xs ++ t ∷ [])
      → (concerns id t.call.came ≡ false) × Spares id t.call.acts
  last_quiet id [] t quiet = (quiet.0, quiet.1)
  last_quiet id (x ∷ xs) t quiet = last_quiet id xs t quiet.2

  -- a job has a say after its request was answered: because there was no room for it, or since it came to something
  after_its_reply : (xs : List (Turn plain may)) (t : Turn plain may) (id : Id) (job : J) (outcome : Outcome)
      → t.call.acts ≡ replies id outcome ∷ [] → Stands plain may (xs ++ t ∷ []) (Request id) job → ⊥
  after_its_reply xs t id job outcome said last =
      elim (last_of xs t last.before last.turn last.since last.cut) [
        | inl is ↦
            let none : replies id outcome ∷ [] ≡ [] =
            sym said ∙ ap (λ (x : Turn plain may). x.call.acts) is ∙ last.is_given.3 in
            absurd (cc (none))
        | inr later ↦
            let quiet = last_quiet id later.0 t (subst (AllQuiet plain may id) later.1 last.quiet) in
            let spares = subst (Spares id) said quiet.1 in
            let no : true ≡ false = sym (same id) ∙ spares.0 in
            absurd (cc (no))
      ]

  -- a job has a say after its request was cancelled
  after_its_cancellation : (xs : List (Turn plain may)) (t : Turn plain may) (id : Id) (job : J) (method : List ℕ)
      (params : Data) → t.call.came ≡ Some (notification method params) → cancelled_by method params ≡ Some id
      → Stands plain may (xs ++ t ∷ []) (Request id) job → ⊥
  after_its_cancellation xs t id job method params came is last =
      elim (last_of xs t last.before last.turn last.since last.cut) [
        | inl at ↦
            let no : ◌≡◌ {A = Option Message} (Some (notification method params))
            (Some (request id last.method last.params)) =
            sym came ∙ ap (λ (x : Turn plain may). x.call.came) at ∙ last.came in
            absurd (cc (no))
        | inr later ↦
            let quiet = last_quiet id later.0 t (subst (AllQuiet plain may id) later.1 last.quiet) in
            let no : true ≡ false =
            sym (same id) ∙ sym (ap (is_that id) is) ∙ sym (ap (concerns id) came) ∙ quiet.0 in
            absurd (cc (no))
      ]

  module _ (silent : (old : S) (name : JobName) (end : End F) (acts : List (Act P)) (new : S)
      → SeesEnd may old name end acts new → acts ≡ []) where
    none_at : (left : List (Left may)) → at_ends may left ≡ []
    none_at [] = refl
    none_at (l ∷ ls) =
        ap (λ (acts : List (Act P)). acts ++ at_ends may ls) (silent l.old (Keyed l.key) l.end l.acts l.new l.saw)
        ∙ none_at ls

    -- at a wake a reply is given under an id under which no request came
    reply_unasked : (earlier : List (Turn plain may)) (t : Turn plain may) (id : Id) (outcome : Outcome)
        → Unasked earlier id → t.call.acts ≡ replies id outcome ∷ [] → WakeDoes plain may earlier t → ⊥
    reply_unasked earlier t id outcome unasked said (inl nothing) =
        let no : replies id outcome ∷ [] ≡ [] = sym said ∙ nothing.0 in absurd (cc (no))
    reply_unasked earlier t id outcome unasked said (inr (inr c)) =
        let no : replies id outcome ∷ [] ≡ cancels (of_job c.0) ∷ [] = sym said ∙ c.1 in absurd (cc (no))
    reply_unasked earlier t id outcome unasked said (inr (inl w)) = elim w.3 [
      | inl r ↦ (let no : replies id outcome ∷ [] ≡ tells r.0 r.1 ∷ [] = sym said ∙ r.3 in absurd (cc (no)))
      | inr more ↦ elim more [
        | inl a ↦
            let no : replies id outcome ∷ [] ≡ asks a.0 a.1 (ByJob a.2) ∷ [] = sym said ∙ a.4 in absurd (cc (no))
        | inr o ↦ at w.0 w.1 w.2 o.0 (sym said ∙ o.4 ∙ ap (map_list by_server) (λ k.
            (silent t.old w.0 (end_of o.0) o.1 t.asked o.3 k ++ reply_at w.0 o.0) ++ none_at t.left k))
      ]
    ]
      where
        at : (name : JobName) (job : J) → Stands plain may earlier name job → (came : Came F)
            → ◌≡◌ {A = List (Act (RequestOrigin P))} (replies id outcome ∷ [])
            (map_list by_server (([] ++ reply_at name came) ++ [])) → ⊥
        at (Keyed key) job stands came e = absurd (cc (e))
        at (Request i) job stands came e =
            let is : id ≡ i = cc (e) in
            for_no_request earlier id job unasked
            (subst (λ (x : Id). Stands plain may earlier (Request x) job) (sym is) stands)
