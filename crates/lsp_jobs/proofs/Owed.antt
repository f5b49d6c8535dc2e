-- The requests that are held, in the exchanges of a session: each is the last under its id, has no reply yet, and was
-- not cancelled.
use Rattle.serde_json.specs.Data.{Data}
use Rattle.std.proofs.Common.{◌≡◌, ◌⊎◌, refl, sym, ◌∙◌, ap, subst, inl, inr, ℕ, zero, suc, ◌+◌, ◌≤◌, Bool, true, false}
use Rattle.std.proofs.Common.{cond, List, [], ◌∷◌, ◌++◌, append_assoc, arith, Option, Some, None}
use Rattle.std.specs.FinMap as map
use Rattle.std.specs.FinMap.{get-empty, get-insert, get-remove}
use Rattle.std.specs.Ordering.{eq_by_cmp}
use Rattle.std.specs.Prelude.{Err, if◌then◌else◌, is_some}
use Rattle.lsp_message.specs.Id.{Id, id_cmp}
use Rattle.lsp_message.specs.IdLaws.{id_total, id_decides}
use Rattle.lsp_message.specs.Message.{Message, request, notification, response}
use Rattle.lsp_queue.specs.Queue.{Pending}
use Rattle.lsp_session.specs.Session.{Exchange, offered}
use Rattle.lsp_acts.proofs.Acting.{acts_at, does_push, sent_so}
use Rattle.lsp_acts.proofs.Counting.{due, due_acts, how_many-append, Fresh}
use Rattle.lsp_acts.specs.Acts.{Act, Queues, replies, cancelled_by, canceled, does, does_all}
use Rattle.lsp_acts.specs.Law.{came_with, held_under, how_many, is_reply_under, is_request_under, one_if}
use Rattle.lsp_acts.specs.ServerApplication.{OpensSending, WorksSending}
use Rattle.lsp_acts.specs.SentByActs.{acts_done_at, cancelled_answer, queues_at}
use Rattle.lsp_acts.specs.declared.server.Server.{Ghosts as Stated}
use Rattle.lsp_acts.specs.View.{queues_of, seen}
use Rattle.lsp_acts.specs.declared.server_application.ServerApplication.{ServerApplication}
use Rattle.lsp_jobs.specs.Ends.{Outcome}
use Rattle.lsp_jobs.specs.JobLaw.{IsQuiet, LastRequest}
use Rattle.lsp_jobs.specs.KeyedJobLaw.{concerns, is_that}

pub fewer : (p : Message → Bool) (output more full : List Message) → output ++ more ≡ full → how_many p full ≡ 0
    → how_many p output ≡ 0
fewer p output more full is none =
    let all : how_many p full ≡ how_many p output + how_many p more = ap (how_many p) (sym is) ∙ how_many-append p
    output more in
    omega (arith, all, none)

pub quiet_more : (id : Id) (xs : List Exchange) (x : Exchange) → IsQuiet id xs → concerns id x.came ≡ false
    → how_many (is_reply_under id) (offered x) ≡ 0 → IsQuiet id (xs ++ x ∷ [])
quiet_more id [] x quiet calm none = (calm, none, tt)
quiet_more id (y ∷ xs) x quiet calm none = (quiet.0, quiet.1, quiet_more id xs x quiet.2 calm none)

-- an exchange more, with which the request goes on waiting
pub waits_on : (earlier : List Exchange) (x : Exchange) (id : Id) (method : List ℕ) (params : Data) → concerns id x.came
    ≡ false → how_many (is_reply_under id) (offered x) ≡ 0
    → LastRequest earlier id method params → LastRequest (earlier ++ x ∷ []) id method params
waits_on earlier x id method params calm none l = record {
  before = l.before;
  asking = l.asking;
  since = l.since ++ x ∷ [];
  cut = ap (λ (es : List Exchange). es ++ x ∷ []) l.cut ∙ append_assoc l.before (l.asking ∷ l.since) (x ∷ []);
  came = l.came;
  unanswered = l.unanswered;
  quiet = quiet_more id l.since x l.quiet calm none;
}

-- the request that just came waits
pub waits_now : (earlier : List Exchange) (x : Exchange) (id : Id) (method : List ℕ) (params : Data) → x.came
    ≡ Some (request id method params)
    → how_many (is_reply_under id) (offered x) ≡ 0 → LastRequest (earlier ++ x ∷ []) id method params
waits_now earlier x id method params there none = record {
  before = earlier;
  asking = x;
  since = [];
  cut = refl;
  came = there;
  unanswered = none;
  quiet = tt;
}

module _ (id : Id) where
  held_insert : (held : Pending (Unit {0})) (i : Id) → held_under id (map.insert held i tt)
      ≡ cond (eq_by_cmp id_cmp id i) 1 (held_under id held)
  held_insert held i = let got = get-insert id_total held i tt id in grind (arith, got)

  held_remove : (held : Pending (Unit {0})) (i : Id) → held_under id (map.remove held i) ≡ cond (eq_by_cmp id_cmp id i)
      0 (held_under id held)
  held_remove held i = let got = get-remove id_total held i id in grind (arith, got)

  at_most_one : (b : Bool) → one_if b ≤ 1
  at_most_one true = omega arith
  at_most_one false = omega arith

module _ {P : Type 0} (id : Id) where
  -- a request that is answered is held no more
  answered : (d : Queues P) (outcome : Outcome) → held_under id (does d (replies id outcome)).held ≡ 0
  answered d outcome = at (map.contains_key d.held id) refl
    where
      at : (b : Bool) → map.contains_key d.held id ≡ b
          → held_under id (if b then record {
            held = map.remove d.held id;
            asked = d.asked;
            sent = d.sent
                ++ response id outcome ∷ [];
          } else d).held ≡ 0
      at true there = held_remove id d.held id ∙ ap (λ b. cond b 0 (held_under id d.held)) ((id_decides id id).1 refl)
      at false there = ap one_if there

  cancelled : (d : Queues P) (acts : List (Act P)) (which : Option Id) → is_that id which ≡ true
      → held_under id (does_all d (acts ++ cancelled_answer which)).held ≡ 0
  cancelled d acts None is = absurd (cc (is))
  cancelled d acts (Some i) is =
      let same : id ≡ i = (id_decides id i).0 is in
      subst (λ (j : Id). held_under id (does_all d (acts ++ replies j (Err canceled) ∷ [])).held ≡ 0) same
      (ap (λ (q : Queues P). held_under id q.held) (does_push d acts (replies id (Err canceled)))
      ∙ answered (does_all d acts) (Err canceled))

  -- when the server acts, one reply more is due if a request under the id came
  due_at : (d : Queues P) (m : Option Message) (payload : Option P)
      → due id (queues_at d m payload) ≡ how_many (is_reply_under id) d.sent + cond (came_with (is_request_under id) m)
      1 (held_under id d.held)
  due_at d (Some (request i method params)) payload = ap (λ n. how_many (is_reply_under id) d.sent + n) (held_insert id
      d.held i)
  due_at d (Some (response i outcome)) (Some payload) = refl
  due_at d m payload = refl

module _ {S P : Type 0} (may : Stated S P) (id : Id) where
  abbrev R : List Message → ℕ
  R = how_many (is_reply_under id)

  abbrev pub owed : ServerApplication S P → ℕ
  owed w = held_under id (queues_of w.queues).held

  -- a request under the id waits
  abbrev Waiting : List Exchange → Type 0
  Waiting earlier = (method : List ℕ) × (params : Data) × LastRequest earlier id method params

  -- if a request under the id is held, it waits
  abbrev pub HeldWaits : List Exchange → ServerApplication S P → Type 0
  HeldWaits earlier w = (owed w ≡ 0) ⊎ Waiting earlier

  -- what is sent, and what is held then
  due_one : (w w' : ServerApplication S P) (m : Option Message) (full : List Message) → (queues_of w.queues).sent ≡ []
      → WorksSending may (seen w) m full (seen w')
      → R full + owed w' ≡ cond (came_with (is_request_under id) m) 1 (owed w)
  due_one w w' m full silent step =
      let a = acts_at may (seen w) m full (seen w') step in
      let all = due_acts id (queues_at (queues_of w.queues) m a.payload) (acts_done_at m a.acts)
      ∙ due_at id (queues_of w.queues) m a.payload in
      let none : R (queues_of w.queues).sent ≡ 0 = ap R silent in
      let kept : owed w' ≡ held_under id (does_all (queues_at (queues_of w.queues) m a.payload) (acts_done_at m
      a.acts)).held = ap (λ (d : Queues P). held_under id d.held) a.queues in
      let sent = ap R (sent_so may (seen w) m full (seen w') a) in
      omega (arith, all, none, kept, sent)

  -- a request that is cancelled is held no more
  cancelled_at : (w w' : ServerApplication S P) (method : List ℕ) (params : Data) (full : List Message)
      → WorksSending may (seen w) (Some (notification method params)) full (seen w') → is_that id (cancelled_by method
      params) ≡ true → owed w' ≡ 0
  cancelled_at w w' method params full step is =
      let a = acts_at may (seen w) (Some (notification method params)) full (seen w') step in
      ap (λ (d : Queues P). held_under id d.held) a.queues ∙ cancelled id (queues_of w.queues) a.acts
      (cancelled_by method params) is

  -- the server is called
  pub waits_called : (earlier : List Exchange) (w w' : ServerApplication S P) (x : Exchange) (full more : List Message)
      → offered x ++ more ≡ full → (queues_of w.queues).sent ≡ []
      → HeldWaits earlier w → WorksSending may (seen w) x.came full (seen w') → HeldWaits (earlier ++ x ∷ []) w'
  waits_called earlier w w' x full more part silent held step = at (owed w') refl
    where
      count : R full + owed w' ≡ cond (came_with (is_request_under id) x.came) 1 (owed w)
      count = due_one w w' x.came full silent step

      at : (n : ℕ) → owed w' ≡ n → HeldWaits (earlier ++ x ∷ []) w'
      at zero is = inl is
      at (suc n) is = inr (by x.came refl)
        where
          mute : (k : ℕ) → k ≤ 1 → R full + owed w' ≡ k → R (offered x) ≡ 0
          mute k few e = fewer (is_reply_under id) (offered x) more full part (omega (arith, few, e, is))

          on : concerns id x.came ≡ false → came_with (is_request_under id) x.came ≡ false → Waiting (earlier ++ x ∷ [])
          on calm other = elim held [
            | inl none ↦ (let e : R full + owed w' ≡ owed w = count ∙ ap (λ b. cond b 1 (owed w)) other in absurd
                (omega (arith, e, none, is)))
            | inr l ↦ (
              l.0,
              l.1,
              waits_on earlier x id l.0 l.1 calm (mute (owed w) (at_most_one id
                  (is_some (map.get (queues_of w.queues).held id))) (count ∙ ap (λ b. cond b 1 (owed w)) other)) l.2,
            )
          ]

          by : (arrived : Option Message) → x.came ≡ arrived → Waiting (earlier ++ x ∷ [])
          by None there = on (ap (concerns id) there) (ap (came_with (is_request_under id)) there)
          by (Some (response i outcome)) there = on (ap (concerns id) there)
              (ap (came_with (is_request_under id)) there)
          by (Some (notification method params)) there = of (is_that id (cancelled_by method params)) refl
            where
              of : (b : Bool) → is_that id (cancelled_by method params) ≡ b → Waiting (earlier ++ x ∷ [])
              of true that =
                  let none = cancelled_at w w' method params full (subst (λ (m : Option Message). WorksSending may
                  (seen w) m full (seen w')) there step) that in
                  absurd (omega (arith, none, is))
              of false other = on (ap (concerns id) there ∙ other) (ap (came_with (is_request_under id)) there)
          by (Some (request i method params)) there = of (eq_by_cmp id_cmp id i) refl
            where
              of : (b : Bool) → eq_by_cmp id_cmp id i ≡ b → Waiting (earlier ++ x ∷ [])
              of true same =
                  let it : id ≡ i = (id_decides id i).0 same in (
                    method,
                    params,
                    waits_now earlier x id method params (there ∙ ap (λ (j : Id). Some (request j method params))
                        (sym it))
                        (mute 1 (omega arith) (count ∙ ap (λ b. cond b 1 (owed w)) (ap (came_with (is_request_under id))
                        there ∙ same))),
                  )
              of false other = on (ap (concerns id) there ∙ other) (ap (came_with (is_request_under id)) there ∙ other)

  -- at a wake each reply goes to a request that waits
  pub replies_at_wake : (earlier : List Exchange) (w w' : ServerApplication S P) (x : Exchange)
      (full more : List Message)
      → offered x ++ more ≡ full → (queues_of w.queues).sent ≡ []
      → HeldWaits earlier w → WorksSending may (seen w) None full (seen w') → (R (offered x) ≡ 0) ⊎ Waiting earlier
  replies_at_wake earlier w w' x full more part silent (inl none) step =
      let count = due_one w w' None full silent step in
      inl (fewer (is_reply_under id) (offered x) more full part (omega (arith, count, none)))
  replies_at_wake earlier w w' x full more part silent (inr waits) step = inr waits

  -- before `initialized` nothing is held, and at it nothing is answered
  pub waits_opened : (earlier : List Exchange) (w w' : ServerApplication S P) (full : List Message) → Fresh may w
      → OpensSending may (seen w) full (seen w') → HeldWaits earlier w'
  waits_opened earlier w w' full fresh opened =
      let kept : owed w' ≡ held_under id opened.0.1.held = ap (λ (x : S × Queues P). held_under id x.1.held) opened.3 in
      let all : due id opened.0.1 ≡ due id (queues_of w.queues) = ap (due id) opened.1.4
      ∙ due_acts id (queues_of w.queues) opened.1.0 in
      let silent : R (queues_of w.queues).sent ≡ 0 = ap (λ (d : Queues P). R d.sent) fresh in
      let none : owed w ≡ 0 = ap (λ (d : Queues P). held_under id d.held) fresh ∙ ap (λ o. one_if (is_some o))
      (get-empty id_cmp id) in
      inl (omega (arith, kept, all, silent, none))
