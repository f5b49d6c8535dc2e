-- Pending jobs, as maps from names.
use Rattle.serde_json.specs.Data.{Data}
use Rattle.std.proofs.Common.{◌≡◌, ◌∙◌, ap, sym, refl, inl, inr, ℕ, Bool, true, false, cond, List, [], ◌∷◌, ◌++◌}
use Rattle.std.proofs.Common.{append-nil, arith, length, Option, Some, None, option_map, Result, Ok, Err, OnErr, OnOk}
use Rattle.std.specs.Prelude.{if◌then◌else◌, is_ok, IfNone, IfOk, MatchOption}
use Rattle.std.specs.Option.{is_some}
use Rattle.lsp_message.specs.Id.{Id}
use Rattle.lsp_jobs.proofs.NameLemmas.{name_decides, name_same}
use Rattle.lsp_message.specs.View.{outcome_view}
use Rattle.lsp_acts.specs.Acts.{Act}
use Rattle.lsp_jobs.specs.Ends.{ComesTo, End, Outcome}
use Rattle.lsp_jobs.specs.Names.{same_name}
use Rattle.lsp_jobs.specs.PoolView.{came_view}
use Rattle.lsp_jobs.specs.PendingJobs.{PendingJobs, no_jobs, without, with_job}
use Rattle.lsp_jobs.specs.Pooled.{EndsThen, Frees, TakesLong}
use Rattle.lsp_jobs.specs.Stated.{StatedJobs}
use Rattle.lsp_jobs.specs.declared.asking.RequestOrigin.{RequestOrigin}
use Rattle.lsp_jobs.specs.declared.job.DoneJob.{DoneJob}
use Rattle.lsp_jobs.specs.declared.job.Interrupted.{Interrupted}
use Rattle.lsp_jobs.specs.declared.job.Interrupted.TheVariants.{Cancelled, Memory}
use Rattle.lsp_jobs.specs.declared.names.JobName.{JobName}
use Rattle.lsp_jobs.specs.declared.names.JobName.TheVariants.{Request}

pub on_err : {T E P : Type 0} (r : Result T E) → P → OnErr r P
on_err (Ok x) p = tt
on_err (Err e) p = p

pub on_ok : {T E P : Type 0} (r : Result T E) → P → OnOk r P
on_ok (Ok x) p = p
on_ok (Err e) p = tt

-- where one thing went well, so did another
pub on_ok_as : {T E U F Q P : Type 0} (r : Result T E) (s : Result U F) → is_ok r ≡ is_ok s → OnOk s Q → (Q → P)
    → OnOk r P
on_ok_as (Ok x) (Ok y) same q gives = gives q
on_ok_as (Ok x) (Err f) same q gives = absurd (cc (same))
on_ok_as (Err e) s same q gives = tt

pub on_err_as : {T E U F Q P : Type 0} (r : Result T E) (s : Result U F) → is_ok r ≡ is_ok s → OnErr s Q → (Q → P)
    → OnErr r P
on_err_as (Err e) (Err f) same q gives = gives q
on_err_as (Err e) (Ok y) same q gives = absurd (cc (same))
on_err_as (Ok x) s same q gives = tt

pub on_err_then : {T E Q P : Type 0} (r : Result T E) → OnErr r Q → (Q → P) → OnErr r P
on_err_then (Ok x) q gives = tt
on_err_then (Err e) q gives = gives q

pub if_none : {A P : Type 0} (o : Option A) → P → IfNone o P
if_none None p = p
if_none (Some x) p = tt

-- what was taken, when none is left
pub all_taken : {A : Type 0} (taken rest all : List A) → taken ++ rest ≡ all → length rest ≡ 0 → taken ≡ all
all_taken taken [] all is none = sym (append-nil taken) ∙ is
all_taken taken (x ∷ rest) all is none = absurd (omega (arith, none))

-- more was appended, if that did not fail
pub appended : {A T E Q : Type 0} (r : Result T E) (new old more : List A) → new ≡ (if is_ok r then old
    ++ more else old) → (new ≡ old ++ more → Q) → IfOk r (λ _. Q)
appended (Ok x) new old more is holds = holds is
appended (Err e) new old more is holds = tt

-- what a job came to, as it is seen
pub came : {J F : Type 0} (run_post : J → Option Outcome → Option F → Type 0) (job : J)
    (ran : Result (DoneJob F) Interrupted)
    → IfOk ran (λ done. run_post job (option_map outcome_view done.reply) done.found)
    → ComesTo run_post job (came_view ran)
came run_post job (Ok done) comes = comes
came run_post job (Err Memory) comes = tt
came run_post job (Err Cancelled) comes = tt

module _ {E J : Type 0} (f : E → J) where
  mapped_if : (b : Bool) (x y : Option E) → option_map f (cond b x y) ≡ cond b (option_map f x) (option_map f y)
  mapped_if true x y = refl
  mapped_if false x y = refl

  abbrev pub jobs_in : PendingJobs E → PendingJobs J
  jobs_in entries = λ name. option_map f (entries name)

  pub pending_empty : (entries : PendingJobs E) → entries ≡ no_jobs → jobs_in entries ≡ no_jobs
  pending_empty entries is = ap jobs_in is

  pub pending_remove : (old new : PendingJobs E) (name : JobName) → new ≡ without name old → jobs_in new
      ≡ without name (jobs_in old)
  pending_remove old new name is = ap jobs_in is ∙ (λ k n. mapped_if (same_name n name) None (old n) k)

  pub pending_insert : (old new : PendingJobs E) (name : JobName) (e : E) → new ≡ with_job name e old → jobs_in new
      ≡ with_job name (f e) (jobs_in old)
  pending_insert old new name e is = ap jobs_in is ∙ (λ k n. mapped_if (same_name n name) (Some e) (old n) k)

module _ {J : Type 0} where
  same_at : (pending : PendingJobs J) (n name : JobName) (x : Option J) → pending name ≡ x → (b : Bool)
      → same_name n name ≡ b → cond b x (pending n) ≡ pending n
  same_at pending n name x at true e =
      let same : n ≡ name = (name_decides n name).0 e in sym at ∙ ap pending (sym same)
  same_at pending n name x at false e = refl

  twice : (b : Bool) (x y z : Option J) → cond b x (cond b y z) ≡ cond b x z
  twice true x y z = refl
  twice false x y z = refl

  -- no job had the name
  pub without_absent : (pending : PendingJobs J) (name : JobName) → pending name ≡ None → without name pending
      ≡ pending
  without_absent pending name at = λ k n. same_at pending n name None at (same_name n name) refl k

  pub with_again : (pending : PendingJobs J) (name : JobName) (job : J) → with_job name job (without name pending)
      ≡ with_job name job pending
  with_again pending name job = λ k n. twice (same_name n name) (Some job) None (pending n) k

  -- no job has the name, whatever was before
  pub without_with : (pending : PendingJobs J) (name : JobName) (job : J) → without name (with_job name job pending)
      ≡ without name pending
  without_with pending name job = λ k n. twice (same_name n name) None (Some job) (pending n) k

  -- no job has the name that was given up
  pub given_up : (pending : PendingJobs J) (name : JobName) → without name pending name ≡ None
  given_up pending name = ap (λ b. cond b None (pending name)) (name_same name)

  pub without_again : (pending : PendingJobs J) (name : JobName) → without name (without name pending)
      ≡ without name pending
  without_again pending name = λ k n. twice (same_name n name) None None (pending n) k

-- an earlier job under the id of a long request was forgotten
pub long_again : {S J F P : Type 0} (may : StatedJobs S J F P) (s : S) (pending : PendingJobs J)
    (id : Id) (method : List ℕ) (params : Data) (all : List (Act (RequestOrigin P))) (new : S × PendingJobs J)
    → TakesLong may (s, without (Request id) pending) id method params all new
    → TakesLong may (s, pending) id method params all new
long_again {S} may s pending id method params all new (inl j) = inl (record {
  job = j.job;
  is_for = j.is_for;
  gives = j.gives;
  acts = j.acts;
  started = j.started ∙ ap (λ (p : PendingJobs _). (s, p)) (with_again pending (Request id) j.job);
})
long_again {S} may s pending id method params all new (inr a) = inr (record {
  outcome = a.outcome;
  is = a.is;
  acts = a.acts;
  left = a.left ∙ ap (λ (p : PendingJobs _). (s, p)) (without_again pending (Request id));
})

-- a name that no job has is free
pub was_free : {S J F P : Type 0} (may : StatedJobs S J F P) (name : JobName) (end : End F) (s : S)
    (old new : PendingJobs J) (acts : List (Act P)) → is_some (old name) ≡ false → new
    ≡ without name old → Frees may name end (s, old, acts) (s, new, acts)
was_free {S} {J} {F} {P} may name end s old new acts none is = at (old name) refl none
  where
    at : (o : Option J) → old name ≡ o → is_some o ≡ false
        → MatchOption o (◌≡◌ {A = S × PendingJobs J × List (Act P)} (s, new, acts) (s, old, acts))
        (λ (e : J). EndsThen may name end (s, without name old, acts) (s, new, acts))
    at None absent none = λ k. (s, (is ∙ without_absent old name absent) k, acts)
    at (Some e) there none = absurd (cc (none))
