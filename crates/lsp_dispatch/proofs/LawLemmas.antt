-- Each reply is to the work of its ticket, and is the only one.
use Rattle.std.proofs.Common.{◌≡◌, suc, ℕ, List, [], ◌∷◌, ◌++◌, length, Bool, true, false, Option, None, Some, Result}
use Rattle.std.proofs.Common.{refl, sym, ap, ◌∙◌, subst, ⊎_elim, append_assoc, append-nil, arith, true≢false, ◌==◌}
use Rattle.std.proofs.Common.{◌&&◌}
use Rattle.std.proofs.lemmas.Bool.{cases_Bool, cond-true, cond-false, eq-eqb, MatchBool-at_true, MatchBool-at_false}
use Rattle.std.specs.Prelude.{codes, if◌then◌else◌, IfSome, slice_get}
use Rattle.std.specs.List.{cons_option}
use Rattle.std.specs.Str.{bytes_eq}
use Rattle.serde_json.specs.Data.{Data}
use Rattle.lsp_message.specs.Id.{Id}
use Rattle.lsp_message.specs.Message.{ErrorObject, request, notification, response}
use Rattle.lsp_dispatch.specs.DispatchAnswers.{Answer}
use Rattle.lsp_queue.specs.Queue.{cancelled_id}
use Rattle.lsp_dispatch.specs.DispatchCalls.{Call, delivers, finishes, is_own, asked_by, cancelled_by, ends}
use Rattle.lsp_dispatch.specs.Dispatch.{asked, IsLive, CancelAnswer, FinishAnswer, CallAnswer, Dispatches, AnswersEach}
use Rattle.lsp_dispatch.specs.DispatchLaw.{reply_in, work_in, RepliesTo, RepliesOnce}
use Rattle.lsp_message.proofs.Ids.{same_own}
use Rattle.lsp_dispatch.proofs.Live.{ends_asked, ends_cancelled, ends_finished}
use Rattle.lsp_dispatch.proofs.Lists.{nothing_in, none_some}

-- ---- a run in parts

-- by an answer
pub record Parts (start calls : List Call) (before : List Answer) (a : Answer) (after : List Answer) : Type 0 where
  pub earlier : List Call
  pub call : Call
  pub later : List Call
  pub place : calls ≡ earlier ++ call ∷ later
  pub run_before : Dispatches start earlier before
  pub right : CallAnswer (start ++ earlier) call a

at_answer : (start calls : List Call) (answers before after : List Answer) (a : Answer) → Dispatches start calls answers
    → answers ≡ before ++ a ∷ after → Parts start calls before a after
at_answer start [] [] before after a run place = absurd (nothing_in before a after place)
at_answer start [] (b ∷ answers) before after a run place = absurd run
at_answer start (c ∷ calls) [] before after a run place = absurd run
at_answer start (c ∷ calls) (b ∷ answers) [] after a run place = record {
  earlier = [];
  call = c;
  later = calls;
  place = refl;
  run_before = tt;
  right = let e : b ≡ a = cc in subst (λ (x : Answer). CallAnswer (start ++ []) c x) e
      (subst (λ (l : List Call). CallAnswer l c b) (sym (append-nil start)) run.0);
}
at_answer start (c ∷ calls) (b ∷ answers) (d ∷ before) after a run place =
    let t : answers ≡ before ++ a ∷ after = cc in
    let e : b ≡ d = cc in
    let p = at_answer (start ++ c ∷ []) calls answers before after a run.1 t in
    record {
      earlier = c ∷ p.earlier;
      call = p.call;
      later = p.later;
      place = ap (λ l. c ∷ l) p.place;
      run_before = (subst (λ (x : Answer). CallAnswer start c x) e run.0, p.run_before);
      right = subst (λ (l : List Call). CallAnswer l p.call a) (append_assoc start (c ∷ []) p.earlier) p.right;
    }

-- by a call
pub record Halves (start earlier : List Call) (c : Call) (since : List Call) (answers : List Answer) : Type 0 where
  pub before : List Answer
  pub answer : Answer
  pub after : List Answer
  pub place : answers ≡ before ++ answer ∷ after
  pub right : CallAnswer (start ++ earlier) c answer
  pub run_after : Dispatches ((start ++ earlier) ++ c ∷ []) since after

at_call : (start calls : List Call) (answers : List Answer) (earlier : List Call) (c : Call) (since : List Call)
    → Dispatches start calls answers → calls ≡ earlier ++ c ∷ since → Halves start earlier c since answers
at_call start [] answers earlier c since run place = absurd (nothing_in earlier c since place)
at_call start (d ∷ calls) [] earlier c since run place = absurd run
at_call start (d ∷ calls) (b ∷ answers) [] c since run place =
    let e : d ≡ c = cc in
    let t : calls ≡ since = cc in
    record {
      before = [];
      answer = b;
      after = answers;
      place = refl;
      right = subst (λ (x : Call). CallAnswer (start ++ []) x b) e (subst (λ (l : List Call). CallAnswer l d b)
          (sym (append-nil start)) run.0);
      run_after = subst (λ (l : List Call). Dispatches (l ++ c ∷ []) since answers) (sym (append-nil start))
          (subst (λ (x : Call). Dispatches (start ++ x ∷ []) since answers) e (subst (λ (l : List Call). Dispatches
          (start ++ d ∷ []) l answers) t run.1));
    }
at_call start (d ∷ calls) (b ∷ answers) (f ∷ earlier) c since run place =
    let e : d ≡ f = cc in
    let t : calls ≡ earlier ++ c ∷ since = cc in
    let h = at_call (start ++ d ∷ []) calls answers earlier c since run.1 t in
    let s : (start ++ d ∷ []) ++ earlier ≡ start ++ f ∷ earlier = append_assoc start (d ∷ []) earlier
    ∙ ap (λ (x : Call). start ++ x ∷ earlier) e in
    record {
      before = b ∷ h.before;
      answer = h.answer;
      after = h.after;
      place = ap (λ l. b ∷ l) h.place;
      right = subst (λ (l : List Call). CallAnswer l c h.answer) s h.right;
      run_after = subst (λ (l : List Call). Dispatches (l ++ c ∷ []) since h.after) s h.run_after;
    }

-- ---- what an answer says of its call

some_pair : {X Y : Type 0} (x x' : X) (y y' : Y) → ◌≡◌ {A = Option (X × Y)} (Some (x, y)) (Some (x', y')) → (x ≡ x')
    × (y ≡ y')
some_pair {X} {Y} x x' y y' e = let p : ◌≡◌ {A = X × Y} (x, y) (x', y') = cc in (
  ap (λ (q : X × Y). q.0) p,
  ap (λ (q : X × Y). q.1) p,
)

-- a reply: its ticket was live, and the call ends it
pub record Ended (before : List Call) (c : Call) (i : Option Id) (t : ℕ) : Type 0 where
  pub id : Id
  pub is : i ≡ Some id
  pub live : IsLive before id t
  pub over : ends id t c ≡ true

ended_cancel : (before : List Call) (c : Call) (o : Option Id) (a : Answer) (i : Option Id) (t : ℕ) → cancelled_by c ≡ o
    → CancelAnswer before o a → reply_in a ≡ Some (i, t) → Ended before c i t
ended_cancel before c None a i t by right reply = absurd (none_some (reply_in a) (i, t) (ap reply_in right) reply)
ended_cancel before c (Some id) a i t by right reply =
    ⊎_elim
    (λ found.
    let e : Some (Some id, found.0) ≡ Some (i, t) = sym (ap reply_in found.2) ∙ reply in
    let both = some_pair _ _ _ _ e in
    let ti : found.0 ≡ t = both.1 in
    record {
      id = id;
      is = sym both.0;
      live = subst (λ (n : ℕ). IsLive before id n) ti found.1;
      over = ends_cancelled id t c by;
    })
    (λ none. absurd (none_some (reply_in a) (i, t) (ap reply_in none.1) reply))
    right

ended_finish : (before : List Call) (id : Id) (ticket : ℕ) (outcome : Result Data ErrorObject) (a : Answer)
    (i : Option Id) (t : ℕ) → FinishAnswer before id ticket outcome a → reply_in a ≡ Some (i, t)
    → Ended before (finishes id ticket outcome) i t
ended_finish before id ticket outcome a i t right reply =
    ⊎_elim
    (λ found.
    let e : Some (Some id, ticket) ≡ Some (i, t) = sym (ap reply_in found.1) ∙ reply in
    let both = some_pair _ _ _ _ e in
    let ti : ticket ≡ t = both.1 in
    record {
      id = id;
      is = sym both.0;
      live = subst (λ (n : ℕ). IsLive before id n) ti found.0;
      over = ends_finished id t (finishes id ticket outcome) (ap (λ b. b && (ticket == t)) (same_own id)
          ∙ eq-eqb ticket t ti);
    })
    (λ none. absurd (none_some (reply_in a) (i, t) (ap reply_in none.1) reply))
    right

no_reply_own : (b : Bool) (x y a : Answer) → a ≡ (if b then x else y) → reply_in x ≡ None → reply_in y ≡ None
    → reply_in a ≡ None
no_reply_own true x y a is l r = ap reply_in is ∙ l
no_reply_own false x y a is l r = ap reply_in is ∙ r

ended : (before : List Call) (c : Call) (a : Answer) (i : Option Id) (t : ℕ) → CallAnswer before c a → reply_in a
    ≡ Some (i, t) → Ended before c i t
ended before (delivers (request id method params)) a i t right reply = absurd (none_some (reply_in a) (
  i,
  t,
) (no_reply_own (is_own method) _ _ a right refl refl) reply)
ended before (delivers (notification method params)) a i t right reply =
    ⊎_elim
    (λ cancel. ended_cancel before (delivers (notification method params)) (cancelled_id params) a i t (cond-true _ _ _
    cancel) (MatchBool-at_true _ _ cancel right) reply)
    (λ other. absurd (none_some (reply_in a) (i, t) (no_reply_own (is_own method) _ _ a (MatchBool-at_false _ _ other
    right) refl refl) reply))
    (cases_Bool (bytes_eq method (codes "$/cancelRequest")))
ended before (delivers (response id outcome)) a i t right reply = absurd (none_some (reply_in a) (
  i,
  t,
) (ap reply_in right) reply)
ended before (finishes id ticket outcome) a i t right reply = ended_finish before id ticket outcome a i t right reply

-- a request that is brought becomes work
brings_work : (before : List Call) (c : Call) (a : Answer) (id : Id) → CallAnswer before c a → asked_by c ≡ Some id
    → work_in a ≡ Some (Some id, length (asked before))
brings_work before (delivers (request key method params)) a id right brings =
    ⊎_elim
    (λ own. absurd (none_some _ id (cond-true _ _ _ own) brings))
    (λ other.
    let e : Some key ≡ Some id = sym (cond-false _ _ _ other) ∙ brings in
    let same : key ≡ id = cc in
    ap work_in (right ∙ cond-false _ _ _ other) ∙ ap (λ (q : Id). Some (Some q, length (asked before))) same)
    (cases_Bool (is_own method))
brings_work before (delivers (notification method params)) a id right brings = cc
brings_work before (delivers (response key outcome)) a id right brings = cc
brings_work before (finishes key ticket outcome) a id right brings = cc

no_work_own : (b : Bool) (x y a : Answer) → a ≡ (if b then x else y) → work_in x ≡ None → work_in y ≡ None → work_in a
    ≡ None
no_work_own true x y a is l r = ap work_in is ∙ l
no_work_own false x y a is l r = ap work_in is ∙ r

no_work_cancel : (before : List Call) (o : Option Id) (a : Answer) → CancelAnswer before o a → work_in a ≡ None
no_work_cancel before None a right = ap work_in right
no_work_cancel before (Some id) a right = ⊎_elim (λ found. ap work_in found.2) (λ none. ap work_in none.1) right

-- work is of a request that is brought
work_brings : (before : List Call) (c : Call) (a : Answer) (id : Id) (t : ℕ) → CallAnswer before c a → work_in a
    ≡ Some (Some id, t) → asked_by c ≡ Some id
work_brings before (delivers (request key method params)) a id t right is =
    ⊎_elim
    (λ own. absurd (none_some (work_in a) (Some id, t) (ap work_in (right ∙ cond-true _ _ _ own)) is))
    (λ other.
    let e : Some (Some key, length (asked before)) ≡ Some (Some id, t) = sym (ap work_in (right ∙ cond-false _ _ _
    other)) ∙ is in
    cond-false _ _ _ other ∙ (some_pair _ _ _ _ e).0)
    (cases_Bool (is_own method))
work_brings before (delivers (notification method params)) a id t right is =
    ⊎_elim
    (λ cancel. absurd (none_some (work_in a) (Some id, t) (no_work_cancel before (cancelled_id params) a
    (MatchBool-at_true _ _ cancel right)) is))
    (λ other. absurd (none_some (work_in a) (Some id, t) (no_work_own (is_own method) _ _ a (MatchBool-at_false _ _
    other right) refl refl) is))
    (cases_Bool (bytes_eq method (codes "$/cancelRequest")))
work_brings before (delivers (response key outcome)) a id t right is = absurd (none_some (work_in a) (
  Some id,
  t,
) (ap work_in right) is)
work_brings before (finishes key ticket outcome) a id t right is =
    absurd (none_some (work_in a) (Some id, t) (⊎_elim (λ found. ap work_in found.1) (λ none. ap work_in none.1) right)
    is)

-- ---- one ticket has one place

some_more : (o : Option Id) (ids : List Id) (id : Id) → o ≡ Some id → length (cons_option o ids) ≡ 0 → ⊥
some_more None ids id is none = cc
some_more (Some key) ids id is none = omega arith

same_length : (o : Option Id) (xs ys : List Id) → length (cons_option o xs) ≡ length (cons_option o ys) → length xs
    ≡ length ys
same_length None xs ys e = e
same_length (Some id) xs ys e = omega arith

one_place : (e f : List Call) (c d : Call) (s u : List Call) (i j : Id) → e ++ c ∷ s ≡ f ++ d ∷ u → length (asked e)
    ≡ length (asked f) → asked_by c ≡ Some i → asked_by d ≡ Some j → i ≡ j
one_place [] [] c d s u i j same counts ci dj = let k : c ≡ d = cc in let a = ap asked_by k in cc
one_place [] (g ∷ f) c d s u i j same counts ci dj =
    let k : c ≡ g = cc in
    absurd (some_more (asked_by g) (asked f) i (ap asked_by (sym k) ∙ ci) (sym counts))
one_place (g ∷ e) [] c d s u i j same counts ci dj =
    let k : g ≡ d = cc in
    absurd (some_more (asked_by g) (asked e) j (ap asked_by k ∙ dj) counts)
one_place (g ∷ e) (h ∷ f) c d s u i j same counts ci dj =
    let k : g ≡ h = cc in
    let t : e ++ c ∷ s ≡ f ++ d ∷ u = cc in
    one_place e f c d s u i j t (same_length (asked_by g) (asked e) (asked f) (counts
    ∙ ap (λ (x : Call). length (cons_option (asked_by x) (asked f))) (sym k))) ci dj

-- ---- the law

module _ (calls : List Call) (answers : List Answer) (run : Dispatches [] calls answers) where
  replies_to : (before after : List Answer) (answer : Answer) (id : Id) (ticket : ℕ) → answers ≡ before ++ answer
      ∷ after → reply_in answer ≡ Some (Some id, ticket) → RepliesTo before id ticket
  replies_to before after answer id ticket place reply =
      let p = at_answer [] calls answers before after answer run place in
      let done = ended p.earlier p.call answer (Some id) ticket p.right reply in
      let known : done.id ≡ id = let is = done.is in cc in
      let live : IsLive p.earlier id ticket = subst (λ (q : Id). IsLive p.earlier q ticket) known done.live in
      let h = at_call [] p.earlier before live.earlier live.call live.since p.run_before live.place in
      record {
        earlier = h.before;
        asked = h.answer;
        since = h.after;
        place = h.place;
        its_work = brings_work live.earlier live.call h.answer id h.right live.brings ∙ ap (λ (n : ℕ). Some (
          Some id,
          n,
        )) live.counted;
        once = λ x y a i at says.
            let q = at_answer (live.earlier ++ live.call ∷ []) live.since h.after x y a h.run_after at in
            let other = ended ((live.earlier ++ live.call ∷ []) ++ q.earlier) q.call a i ticket q.right says in
            let same : id ≡ other.id = one_place live.earlier other.live.earlier live.call other.live.call q.earlier
            other.live.since id other.id
            (sym (append_assoc live.earlier (live.call ∷ []) q.earlier) ∙ other.live.place) (live.counted
            ∙ sym other.live.counted) live.brings other.live.brings in
            true≢false (sym other.over ∙ ap (λ (k : Id). ends k ticket q.call) (sym same) ∙ live.unended q.earlier
            q.later q.call q.place);
        unreplaced = λ x y a t at says.
            let q = at_answer (live.earlier ++ live.call ∷ []) live.since h.after x y a h.run_after at in
            true≢false (sym (ends_asked id ticket q.call (work_brings ((live.earlier ++ live.call ∷ []) ++ q.earlier)
            q.call a id t q.right says)) ∙ live.unended q.earlier q.later q.call q.place);
      }

pub replies_once : (calls : List Call) (answers : List Answer) → Dispatches [] calls answers → RepliesOnce answers
replies_once calls answers run = λ before after answer id ticket place reply. replies_to calls answers run before after
    answer id ticket place reply

-- ---- by places

each_count : (start calls : List Call) (answers : List Answer) → Dispatches start calls answers → length answers
    ≡ length calls
each_count start [] [] run = refl
each_count start [] (a ∷ answers) run = absurd run
each_count start (c ∷ calls) [] run = absurd run
each_count start (c ∷ calls) (a ∷ answers) run = ap suc (each_count (start ++ c ∷ []) calls answers run.1)

each_right : (start calls : List Call) (answers : List Answer) → Dispatches start calls answers
    → (before after : List Call) (call : Call) → calls ≡ before ++ call ∷ after
    → IfSome (slice_get answers (length before)) (λ answer. CallAnswer (start ++ before) call answer)
each_right start [] answers run before after call place = absurd (nothing_in before call after place)
each_right start (c ∷ calls) [] run before after call place = absurd run
each_right start (c ∷ calls) (a ∷ answers) run [] after call place =
    let e : c ≡ call = cc in
    subst (λ (x : Call). CallAnswer (start ++ []) x a) e (subst (λ (l : List Call). CallAnswer l c a)
    (sym (append-nil start)) run.0)
each_right start (c ∷ calls) (a ∷ answers) run (d ∷ before) after call place =
    let e : c ≡ d = cc in
    let t : calls ≡ before ++ call ∷ after = cc in
    subst (λ (l : List Call). IfSome (slice_get answers (length before)) (λ answer. CallAnswer l call answer))
    (append_assoc start (c ∷ []) before ∙ ap (λ (x : Call). start ++ x ∷ before) e)
    (each_right (start ++ c ∷ []) calls answers run.1 before after call t)

pub answers_each : (calls : List Call) (answers : List Answer) → Dispatches [] calls answers → AnswersEach calls answers
answers_each calls answers run = record {
  count = each_count [] calls answers run;
  right = λ before after call
      place. each_right [] calls answers run before after call place;
}
