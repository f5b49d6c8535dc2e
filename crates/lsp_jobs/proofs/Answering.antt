-- What acts send, and where the jobs come from that are pending for requests.
use Rattle.serde_json.specs.Data.{Data}
use Rattle.std.proofs.Common.{◌≡◌, ◌⊎◌, refl, sym, ◌∙◌, ap, subst, inl, inr, ℕ, ◌+◌, Bool, true, false, cond, List, []}
use Rattle.std.proofs.Common.{◌∷◌, ◌++◌, append_assoc, append-nil, arith, Option, Some, None}
use Rattle.std.specs.FinMap as map
use Rattle.std.specs.Ordering.{eq_by_cmp}
use Rattle.std.specs.Prelude.{pos, map as map_list, if◌then◌else◌}
use Rattle.lsp_message.specs.Id.{Id, id_cmp, number}
use Rattle.lsp_message.specs.IdLaws.{id_decides}
use Rattle.lsp_message.specs.Message.{Message, request, notification, response}
use Rattle.lsp_queue.specs.Queue.{count_of, pending_of, ids_where}
use Rattle.lsp_acts.proofs.Counting.{how_many-append, none_cancelled}
use Rattle.lsp_acts.specs.Acts.{Act, Queues, tells, asks, replies, cancels, TakesBack, cancelled_by}
use Rattle.lsp_acts.specs.Acts.{does, does_all, is_spent}
use Rattle.lsp_acts.specs.Law.{Handed, how_many, is_reply_under}
use Rattle.lsp_acts.specs.SentByActs.{all_sends, sends_by, acts_done_at, cancelled_answer}
use Rattle.lsp_acts.specs.declared.server.Server.{Ghosts as Plain}
use Rattle.lsp_jobs.proofs.KeyChanges.{spares-append, fewer_requests, unanswered_has, went_all, without_request, Went}
use Rattle.lsp_jobs.specs.Asking.{by_server, of_job, ByServers}
use Rattle.lsp_jobs.specs.JobSession.{seen_with_jobs}
use Rattle.lsp_jobs.specs.PendingJobs.{PendingJobs, without, with_job}
use Rattle.lsp_jobs.specs.PoolView.{pending_jobs}
use Rattle.lsp_jobs.specs.Pooled.{unanswered, without_cancelled, ChangesJobs, Does, Finishes, TakesLong}
use Rattle.lsp_jobs.specs.Seen.{seen}
use Rattle.lsp_jobs.specs.KeyedJobLaw.{concerns, is_that, IsGiven, Left, Spares, at_ends}
use Rattle.lsp_jobs.specs.KeyedJobLaw.{lefts_of}
use Rattle.lsp_jobs.specs.Stated.{StatedJobs}
use Rattle.lsp_jobs.specs.declared.asking.RequestOrigin.{RequestOrigin}
use Rattle.lsp_jobs.specs.declared.asking.RequestOrigin.TheVariants.{ByJob, ByServer}
use Rattle.lsp_jobs.specs.declared.names.JobName.TheVariants.{Request}
use Rattle.lsp_jobs.specs.declared.pooled_server.PooledServer.{PooledServer}

-- ---- acts, and what they send

none_if : (p : Message → Bool) (b : Bool) (m : Message) → p m ≡ false → how_many p (if b then m ∷ [] else []) ≡ 0
none_if p true m is = rw is refl
none_if p false m is = refl

none_unless : (p : Message → Bool) (b : Bool) (m : Message) → p m ≡ false → how_many p (if b then [] else m ∷ []) ≡ 0
none_unless p true m is = refl
none_unless p false m is = rw is refl

module _ {P : Type 0} where
  -- so they send no reply under it
  mute_more : (id : Id) (d : Queues P) (act : Act P) (acts : List (Act P)) → how_many (is_reply_under id)
      (sends_by d act) ≡ 0
      → how_many (is_reply_under id) (all_sends (does d act) acts) ≡ 0 → how_many (is_reply_under id) (all_sends d (act
      ∷ acts)) ≡ 0
  mute_more id d act acts one rest =
      how_many-append (is_reply_under id) (sends_by d act) (all_sends (does d act) acts)
      ∙ ap (λ n. n + how_many (is_reply_under id) (all_sends (does d act) acts)) one ∙ ap (λ n. 0 + n) rest

  pub mute : (id : Id) (acts : List (Act P)) (d : Queues P) → Spares id acts → how_many (is_reply_under id)
      (all_sends d acts) ≡ 0
  mute id [] d spares = refl
  mute id (replies i outcome ∷ acts) d spares =
      mute_more id d (replies i outcome) acts (none_if (is_reply_under id) (map.contains_key d.held i)
      (response i outcome) spares.0)
      (mute id acts (does d (replies i outcome)) spares.1)
  mute id (tells method params ∷ acts) d spares = mute_more id d (tells method params) acts refl
      (mute id acts (does d (tells method params)) spares)
  mute id (asks method params payload ∷ acts) d spares =
      mute_more id d (asks method params payload) acts
      (none_unless (is_reply_under id) (is_spent (count_of d.asked)) (request (number (pos (count_of d.asked))) method
      params) refl)
      (mute id acts (does d (asks method params payload)) spares)
  mute id (cancels such ∷ acts) d spares =
      mute_more id d (cancels such) acts (none_cancelled id (ids_where such (pending_of d.asked)))
      (mute id acts (does d (cancels such)) spares)

  sent_one : (d : Queues P) (act : Act P) → (does d act).sent ≡ d.sent ++ sends_by d act
  sent_one d (tells method params) = refl
  sent_one d (cancels such) = refl
  sent_one d act = grind (arith, append-nil)

  pub sent_all : (d : Queues P) (acts : List (Act P)) → (does_all d acts).sent ≡ d.sent ++ all_sends d acts
  sent_all d [] = sym (append-nil d.sent)
  sent_all d (act ∷ acts) =
      sent_all (does d act) acts ∙ ap (λ (l : List Message). l ++ all_sends (does d act) acts) (sent_one d act)
      ∙ append_assoc d.sent (sends_by d act) (all_sends (does d act) acts)

  -- the answer to a request that is cancelled is under no other id
  pub settled_spares : (arrived : Option Message) (acts : List (Act P)) (id : Id) → Spares id acts
      → (concerns id arrived ≡ false) ⊎ ((method : List ℕ) × (params : Data)
      × (arrived ≡ Some (request id method params))) → Spares id (acts_done_at arrived acts)
  settled_spares None acts id spares calm = spares
  settled_spares (Some (request i method params)) acts id spares calm = spares
  settled_spares (Some (response i outcome)) acts id spares calm = spares
  settled_spares (Some (notification method params)) acts id spares calm =
      spares-append id acts (cancelled_answer (cancelled_by method params)) spares (other (cancelled_by method params)
      (elim calm [
        | inl is ↦ is
        | inr came ↦ (let e = came.2 in absurd (cc (e)))
      ]))
    where
      other : (cancelled : Option Id) → is_that id cancelled ≡ false → Spares {P = P} id (cancelled_answer cancelled)
      other None is = tt
      other (Some i) is = (is, tt)

module _ {P : Type 0} where
  -- the server's acts reply under the same ids
  spares_by_server : (id : Id) (acts : List (Act P)) → Spares id acts → Spares id (map_list by_server acts)
  spares_by_server id [] spares = tt
  spares_by_server id (replies i outcome ∷ acts) spares = (spares.0, spares_by_server id acts spares.1)
  spares_by_server id (tells method params ∷ acts) spares = spares_by_server id acts spares
  spares_by_server id (asks method params payload ∷ acts) spares = spares_by_server id acts spares
  spares_by_server id (cancels z ∷ acts) spares = spares_by_server id acts spares

-- ---- where the jobs of requests come from

module _ {S J F P : Type 0} (plain : Plain S P) (may : StatedJobs S J F P) where
  -- A pending job was there before, and no act replied under its id.
  abbrev AllCome : (Id → J → Type 0) → List (Act P) → PendingJobs J → Type 0
  AllCome from acts pending = (id : Id) (e : J) → pending (Request id) ≡ Some e → from id e × Spares id acts

  -- When keys are changed, what is done then follows.
  changes_jobs : (from : Id → J → Type 0) (before : List (Act P)) (old new : S × PendingJobs J)
      (acts all : List (Act P)) → ChangesJobs may old acts all new → AllCome from before old.1 → AllCome from all new.1
      × ((left : List (Left may)) × (all ≡ acts ++ at_ends may left))
  changes_jobs from before old new acts all c come = (after, (lefts_of may went.events, went.acts))
    where
      went : Went plain may (c.mid, unanswered acts old.1, acts) (new.0, new.1, all)
      went = (went_all plain may c.changes (c.mid, unanswered acts old.1, acts) (new.0, new.1, all) c.made).0

      after : AllCome from all new.1
      after id e has =
          let later = went.requests id e has in
          let own = unanswered_has acts old.1 id e later.0 in (
            (come id e own.0).0,
            subst (Spares id) (sym went.acts) (spares-append id acts (at_ends may
                (lefts_of may went.events)) own.1 later.1),
          )

  pub does_jobs : (from : Id → J → Type 0) (did : List (Act P) → S → Type 0)
      (pending : PendingJobs J) (all : List (Act P)) (new : S × PendingJobs J)
      → AllCome from [] pending → Does may did pending all new → AllCome from all new.1
  does_jobs from did pending all new come d = (changes_jobs from [] (d.1, pending) new d.0 all d.3 come).0

-- a pending job stays when the message does not concern its id, or the message is its request
abbrev pub FromCall : {J : Type 0} → (Id → List ℕ → Data → J → Type 0) → PendingJobs J → Option Message → Id → J
    → Type 0
FromCall given old arrived id e =
    ((old (Request id) ≡ Some e) × (concerns id arrived ≡ false))
    ⊎ ((method : List ℕ) × (params : Data) × (arrived ≡ Some (request id method params)) × given id method params e)

module _ {S J F P : Type 0} (plain : Plain S P) (may : StatedJobs S J F P)
    (given : Id → List ℕ → Data → J → Type 0) where
  stay : (old : PendingJobs J) (arrived : Option Message) → ((id : Id) → concerns id arrived ≡ false)
      → (acts : List (Act P)) → ((id : Id) → Spares id acts)
      → AllCome plain may (FromCall given old arrived) acts old
  stay old arrived none acts spares id e has = (inl (has, none id), spares id)

  stay_without : (old : PendingJobs J) (arrived : Option Message) (i : Id) → ((id : Id) → concerns id arrived
      ≡ eq_by_cmp id_cmp id i)
      → AllCome plain may (FromCall given old arrived) [] (without (Request i) old)
  stay_without old arrived i same id e has =
      let own = without_request i old id e has in (inl (own.0, same id ∙ own.1), tt)

  stay_cancelled : (old : PendingJobs J) (method : List ℕ) (params : Data)
      → AllCome plain may (FromCall given old (Some (notification method params))) []
      (without_cancelled (cancelled_by method params) old)
  stay_cancelled old method params = at (cancelled_by method params) refl
    where
      at : (cancelled : Option Id) → cancelled_by method params ≡ cancelled
          → AllCome plain may (FromCall given old (Some (notification method params))) []
          (without_cancelled cancelled old)
      at None is = stay old (Some (notification method params)) (λ id. ap (is_that id) is) [] (λ id. tt)
      at (Some i) is = stay_without old (Some (notification method params)) i (λ id. ap (is_that id) is)

  -- a job was started for a request
  started_job : (old : PendingJobs J) (id : Id) (method : List ℕ) (params : Data) (job : J)
      → given id method params job
      → AllCome plain may (FromCall given old (Some (request id method params))) []
      (with_job (Request id) job old)
  started_job old id method params job gives i e has = at (eq_by_cmp id_cmp i id) refl has
    where
      at : (b : Bool) → eq_by_cmp id_cmp i id ≡ b → cond b (Some job) (old (Request i)) ≡ Some e
          → FromCall given old (Some (request id method params)) i e × Spares {P = P} i []
      at true is has =
          let same : i ≡ id = (id_decides i id).0 is in
          let it : job ≡ e = cc (has) in (
            inr (
              method,
              params,
              ap (λ (j : Id). Some (request j method params)) (sym same),
              subst (λ (x : Id × J). given x.0 method params x.1) (λ k. (sym same k, it k)) gives,
            ),
            tt,
          )
      at false is has = (inl (has, is), tt)

module _ (T : Type 0) {S J F P : Type 0} (plain : Plain S P) (may : StatedJobs S J F P) where
  abbrev W : Plain (PooledServer T S J F) (RequestOrigin P)
  W = seen_with_jobs T plain may

  abbrev pended : PooledServer T S J F → PendingJobs J
  pended p = pending_jobs p.pool

  -- Where a job comes from that is pending for a request, at a call at which these acts are done.
  abbrev From : PooledServer T S J F → Option Message → List (Act (RequestOrigin P)) → Id → J → Type 0
  From old arrived acts = FromCall (IsGiven plain may old.server acts) (pended old) arrived

  -- Where the pending jobs come from, by acts of the server's own that reply under no other ids than these.
  abbrev Handles : PooledServer T S J F → Option Message → List (Act (RequestOrigin P)) → PendingJobs J → Type 0
  Handles old arrived acts new =
      (own : List (Act P)) × ((id : Id) → Spares id own → Spares id acts)
      × AllCome plain may (From old arrived acts) own new

  by_servers : (old : PooledServer T S J F) (arrived : Option Message) (new : PendingJobs J)
      (did : List (Act P) → Type 0) (all : List (Act (RequestOrigin P)))
      → ((acts : List (Act P)) → did acts → AllCome plain may (From old arrived all) acts new)
      → ByServers did all → Handles old arrived all new
  by_servers old arrived new did all come b = (
    b.0,
    (λ id spares. subst (Spares id) (sym b.1) (spares_by_server id b.0 spares)),
    come b.0 b.2,
  )

  -- nothing is started
  idles : (old did : PooledServer T S J F) (arrived : Option Message) (acts none : List (Act (RequestOrigin P)))
      → ((id : Id) → concerns id arrived ≡ false)
      → ((id : Id) → Spares id none) → acts ≡ none → pended did ≡ pended old
      → Handles old arrived acts (pended did)
  idles old did arrived acts none calm spares is same = (
    [],
    (λ id own. subst (Spares id) (sym is) (spares id)),
    subst (AllCome plain may (From old arrived acts) []) (sym same)
        (stay plain may (IsGiven plain may old.server acts) (pended old) arrived calm [] (λ id. tt)),
  )

  -- so it is what is seen of both
  as_seen : (old did : PooledServer T S J F) → seen did ≡ seen old → pended did ≡ pended old
  as_seen old did same = ap (λ (x : S × PendingJobs J). x.1) same

  woken : (old did : PooledServer T S J F) (acts : List (Act (RequestOrigin P))) → W.woken_post old acts did
      → Handles old None acts (pended did)
  woken old did acts (inl nothing) = idles old did None acts [] (λ id. refl) (λ id. tt) nothing.0 (as_seen old did
      nothing.1)
  woken old did acts (inr (inl r)) = idles old did None acts (tells r.method r.params ∷ []) (λ id. refl) (λ id. tt)
      r.acts (as_seen old did r.same)
  woken old did acts (inr (inr (inl a))) =
      idles old did None acts (asks a.method a.params (ByJob a.number) ∷ []) (λ id. refl) (λ id. tt) a.acts
      (as_seen old did a.same)
  woken old did acts (inr (inr (inr (inr w)))) =
      idles old did None acts (cancels (of_job w.number) ∷ []) (λ id. refl) (λ id. tt) w.acts (as_seen old did w.same)
  woken old did acts (inr (inr (inr (inl b)))) =
      by_servers old None (pended did) (λ own. Finishes may (seen old) own (seen did)) acts ended b
    where
      from : Id → J → Type 0
      from = From old None acts

      ended : (own : List (Act P)) → Finishes may (seen old) own (seen did) → AllCome plain may from own (pended did)
      ended own f = (changes_jobs plain may from [] f.did (seen did) f.acts own f.others before).0
        where
          before : AllCome plain may from [] f.did.1
          before i e has =
              let left = without f.name (pended old) in
              stay plain may (IsGiven plain may old.server acts) (pended old) None (λ id. refl) [] (λ id. tt) i e
              (fewer_requests f.name (pended old) i e (unanswered_has f.acts left i e
              (ap (λ (t : PendingJobs J). t (Request i)) (sym f.ended.3) ∙ has)).0)

  long_jobs : (old did : PooledServer T S J F) (id : Id) (method : List ℕ) (params : Data)
      (acts : List (Act (RequestOrigin P))) → may.is_long_post old.server method params true
      → TakesLong may (seen old) id method params acts (seen did)
      → Handles old (Some (request id method params)) acts (pended did)
  long_jobs old did id method params acts long (inl j) = (
    [],
    (λ i own. subst (Spares i) (sym j.acts) tt),
    subst (AllCome plain may (From old (Some (request id method params)) acts) [])
        (sym (ap (λ (x : S × PendingJobs J). x.1) j.started))
        (started_job plain may (IsGiven plain may old.server acts) (pended old) id method params j.job
        (long, j.gives, j.is_for, j.acts)),
  )
  long_jobs old did id method params acts long (inr a) = (
    replies id a.outcome ∷ [],
    (λ i own. subst (Spares i) (sym a.acts) own),
    subst (AllCome plain may (From old (Some (request id method params)) acts) (replies id a.outcome ∷ []))
        (sym (ap (λ (x : S × PendingJobs J). x.1) a.left))
        (λ i e has. let own = without_request id (pended old) i e has in (inl own, (own.1, tt))),
  )

  pub handed_jobs : (old did : PooledServer T S J F) (arrived : Option Message) (payload : Option (RequestOrigin P))
      (acts : List (Act (RequestOrigin P))) → Handed W old arrived payload acts did
      → Handles old arrived acts (pended did)
  handed_jobs old did (Some (request id method params)) payload acts h =
      elim h.0 [
        | inl long ↦ long_jobs old did id method params acts long.0 long.1
        | inr own ↦
            let left = without (Request id) (pended old) in
            by_servers old (Some (request id method params)) (pended did)
            (λ made. Does may (plain.request_post old.server id method params) left made (seen did)) acts
            (λ made d. does_jobs plain may (From old (Some (request id method params)) acts)
            (plain.request_post old.server id method params) left made (seen did)
            (stay_without plain may (IsGiven plain may old.server acts) (pended old) (Some (request id method params))
            id (λ i. refl)) d)
            own.1
      ]
  handed_jobs old did (Some (notification method params)) payload acts h =
      by_servers old (Some (notification method params)) (pended did)
      (λ own. Does may (plain.notification_post old.server method params)
      (without_cancelled (cancelled_by method params)
      (pended old)) own (seen did)) acts
      (λ own d. does_jobs plain may (From old (Some (notification method params)) acts)
      (plain.notification_post old.server method params)
      (without_cancelled (cancelled_by method params) (pended old)) own (seen did)
      (stay_cancelled plain may (IsGiven plain may old.server acts) (pended old) method params) d) h.0
  handed_jobs old did (Some (response id outcome)) (Some (ByServer payload)) acts h =
      by_servers old (Some (response id outcome)) (pended did)
      (λ own. Does may (plain.response_post old.server payload outcome) (pended old) own (seen did)) acts
      (λ own d. does_jobs plain may (From old (Some (response id outcome)) acts)
      (plain.response_post old.server payload outcome) (pended old) own (seen did)
      (stay plain may (IsGiven plain may old.server acts) (pended old) (Some (response id outcome)) (λ i. refl) []
      (λ i. tt)) d) h
  handed_jobs old did (Some (response id outcome)) (Some (ByJob n)) acts h =
      idles old did (Some (response id outcome)) acts [] (λ i. refl) (λ i. tt) h.0 (as_seen old did h.1)
  handed_jobs old did (Some (response id outcome)) None acts h =
      idles old did (Some (response id outcome)) acts [] (λ i. refl) (λ i. tt) h.1 (ap pended h.0)
  handed_jobs old did None payload acts h = woken old did acts h.0

  -- each job that is pending for a request then was before, or is given now, and no reply is given under its id
  pub requests_then : (old did : PooledServer T S J F) (arrived : Option Message) (payload : Option (RequestOrigin P))
      (acts : List (Act (RequestOrigin P))) → Handed W old arrived payload acts did → (id : Id) (e : J)
      → pended did (Request id) ≡ Some e → From old arrived acts id e × Spares id acts
  requests_then old did arrived payload acts h id e has =
      let all = handed_jobs old did arrived payload acts h in
      let own = all.2 id e has in
      (own.0, all.1 id own.1)

  back_one : (payload : RequestOrigin P) (old new : PooledServer T S J F) → W.ids_exhausted_post old payload new
      → pending_jobs new.pool ≡ pending_jobs old.pool
  back_one (ByServer payload) old new back = back.1
  back_one (ByJob n) old new same = as_seen old new same

  pub back_pending : (payloads : List (RequestOrigin P)) (old new : PooledServer T S J F)
      → TakesBack W.ids_exhausted_post old payloads new
      → pending_jobs new.pool ≡ pending_jobs old.pool
  back_pending [] old new same = ap pended same
  back_pending (payload ∷ payloads) old new back = back_pending payloads back.0 new back.2 ∙ back_one payload old
      back.0 back.1
