-- What comes of changes of keys: which jobs are pending then, and what the server did at the ends of those that are
-- not.
use Rattle.std.proofs.Common.{◌≡◌, ◌⊎◌, refl, sym, ◌∙◌, ap, subst, inl, inr, Bool, true, false, cond, List, [], ◌∷◌}
use Rattle.std.proofs.Common.{◌++◌, append_assoc, append-nil, Option, Some, None}
use Rattle.std.specs.List.{FoldsTo}
use Rattle.std.specs.Ordering.{eq_by_cmp}
use Rattle.std.specs.Prelude.{is_some, IsSome, MatchOption}
use Rattle.lsp_message.specs.Id.{Id, id_cmp, same_id}
use Rattle.lsp_message.specs.IdLaws.{id_decides}
use Rattle.lsp_acts.specs.Acts.{Act, tells, asks, replies, cancels}
use Rattle.lsp_acts.specs.declared.server.Server.{Ghosts as Plain}
use Rattle.lsp_jobs.specs.Ends.{End, ended}
use Rattle.lsp_jobs.proofs.PendingLemmas.{without_with}
use Rattle.lsp_jobs.specs.PendingJobs.{PendingJobs, with_job, without}
use Rattle.lsp_jobs.specs.Pooled.{unanswered, Changes, EndsThen, Frees, Replaces, StartsOne}
use Rattle.lsp_jobs.specs.KeyedJobLaw.{IsLeft, LeavesAlone, Left, SeesLeft, Spares, StartsLast, at_ends, key_of}
use Rattle.lsp_jobs.specs.KeyedJobLaw.{started_by}
use Rattle.lsp_jobs.specs.KeyedJobLaw.{KeyEvent, starts, ends_heard, ends_left, lefts_of, after_event, after_events}
use Rattle.lsp_jobs.specs.KeyedJobLaw.{Fits}
use Rattle.lsp_jobs.specs.KeyedJobLaw.{TakeTurns, MayLeave, Becomes, Begins}
use Rattle.lsp_jobs.specs.Stated.{StatedJobs}
use Rattle.lsp_jobs.specs.declared.job_server.JobEnd.{JobEnd}
use Rattle.lsp_jobs.specs.declared.job_server.JobEnd.TheVariants.{Refused, Replaced, Stopped}
use Rattle.lsp_jobs.specs.declared.job_server.JobCommand.{JobCommand}
use Rattle.lsp_jobs.specs.declared.job_server.JobCommand.TheVariants.{Start, StartAfter, Stop}
use Rattle.lsp_jobs.specs.declared.names.JobName.{JobName}
use Rattle.lsp_jobs.specs.declared.names.JobName.TheVariants.{Request, Keyed}

module _ {P : Type 0} where
  pub spares-append : (id : Id) (xs ys : List (Act P)) → Spares id xs → Spares id ys → Spares id (xs ++ ys)
  spares-append id [] ys first second = second
  spares-append id (replies i outcome ∷ xs) ys first second = (first.0, spares-append id xs ys first.1 second)
  spares-append id (tells method params ∷ xs) ys first second = spares-append id xs ys first second
  spares-append id (asks method params payload ∷ xs) ys first second = spares-append id xs ys first second
  spares-append id (cancels z ∷ xs) ys first second = spares-append id xs ys first second

module _ {A : Type 0} where
  -- what is kept where something else is gone
  kept_if : (b : Bool) (o : Option A) (e : A) → cond b None o ≡ Some e → (o ≡ Some e) × (b ≡ false)
  kept_if true o e has = absurd (cc (has))
  kept_if false o e has = (has, refl)

  pub without_request : (i : Id) (pending : PendingJobs A) (id : Id) (e : A) → without (Request i) pending (Request id)
      ≡ Some e → (pending (Request id) ≡ Some e) × (eq_by_cmp id_cmp id i ≡ false)
  without_request i pending id e has = kept_if (same_id id i) (pending (Request id)) e has

  without_key : (t : Id) (pending : PendingJobs A) (s : Id) (e : A) → without (Keyed t) pending (Keyed s) ≡ Some e
      → (pending (Keyed s) ≡ Some e) × (same_id s t ≡ false)
  without_key t pending s e has = kept_if (same_id s t) (pending (Keyed s)) e has

  -- whatever job is gone
  pub fewer_requests : (name : JobName) (pending : PendingJobs A) (id : Id) (e : A) → without name pending (Request id)
      ≡ Some e → pending (Request id) ≡ Some e
  fewer_requests (Request i) pending id e has = (without_request i pending id e has).0
  fewer_requests (Keyed key) pending id e has = has

  pub fewer_keys : (name : JobName) (pending : PendingJobs A) (s : Id) (e : A) → without name pending (Keyed s)
      ≡ Some e → pending (Keyed s) ≡ Some e
  fewer_keys (Request i) pending s e has = has
  fewer_keys (Keyed t) pending s e has = (without_key t pending s e has).0

  -- the job that is under each key
  abbrev pub under_keys : PendingJobs A → Id → Option A
  under_keys pending = λ key. pending (Keyed key)

module _ {A P : Type 0} where
  pub unanswered_has : (acts : List (Act P)) (pending : PendingJobs A) (id : Id) (e : A) → unanswered acts pending
      (Request id) ≡ Some e → (pending (Request id) ≡ Some e) × Spares id acts
  unanswered_has [] pending id e has = (has, tt)
  unanswered_has (replies i outcome ∷ acts) pending id e has =
      let rest = unanswered_has acts (without (Request i) pending) id e has in
      let own = without_request i pending id e rest.0 in
      (own.0, (own.1, rest.1))
  unanswered_has (tells method params ∷ acts) pending id e has = unanswered_has acts pending id e has
  unanswered_has (asks method params payload ∷ acts) pending id e has = unanswered_has acts pending id e has
  unanswered_has (cancels z ∷ acts) pending id e has = unanswered_has acts pending id e has

  -- replies leave keys as they are
  pub unanswered_key : (acts : List (Act P)) (pending : PendingJobs A) (key : Id) → unanswered acts pending
      (Keyed key) ≡ pending (Keyed key)
  unanswered_key [] pending key = refl
  unanswered_key (replies i outcome ∷ acts) pending key = unanswered_key acts (without (Request i) pending) key
  unanswered_key (tells method params ∷ acts) pending key = unanswered_key acts pending key
  unanswered_key (asks method params payload ∷ acts) pending key = unanswered_key acts pending key
  unanswered_key (cancels z ∷ acts) pending key = unanswered_key acts pending key

  pub unanswered_keys : (acts : List (Act P)) (pending : PendingJobs A) → under_keys (unanswered acts pending)
      ≡ under_keys pending
  unanswered_keys acts pending = λ k key. unanswered_key acts pending key k

  -- the requests of the first act, and then those of the others
  pub unanswered_first : (act : Act P) (acts : List (Act P)) (pending : PendingJobs A) → unanswered (act ∷ acts) pending
      ≡ unanswered acts (unanswered (act ∷ []) pending)
  unanswered_first (replies i outcome) acts pending = refl
  unanswered_first (tells method params) acts pending = refl
  unanswered_first (asks method params payload) acts pending = refl
  unanswered_first (cancels z) acts pending = refl

-- events one after another
module _ {S J F P : Type 0} (may : StatedJobs S J F P) where
  lefts_of-append : (xs ys : List (KeyEvent may)) → lefts_of may (xs ++ ys) ≡ lefts_of may xs ++ lefts_of may ys
  lefts_of-append [] ys = refl
  lefts_of-append (starts key job ∷ xs) ys = lefts_of-append xs ys
  lefts_of-append (ends_heard key ∷ xs) ys = lefts_of-append xs ys
  lefts_of-append (ends_left l ∷ xs) ys = ap (λ (ls : List (Left may)). l ∷ ls) (lefts_of-append xs ys)

  pub after-append : (keys : Id → Option J) (xs ys : List (KeyEvent may)) → after_events may keys (xs ++ ys)
      ≡ after_events may (after_events may keys xs) ys
  after-append keys [] ys = refl
  after-append keys (x ∷ xs) ys = after-append (after_event may keys x) xs ys

  pub turns-append : (keys : Id → Option J) (xs ys : List (KeyEvent may)) → TakeTurns may keys xs
      → TakeTurns may (after_events may keys xs) ys → TakeTurns may keys (xs ++ ys)
  turns-append keys [] ys first second = second
  turns-append keys (x ∷ xs) ys first second = (first.0, turns-append (after_event may keys x) xs ys first.1 second)

  -- what becomes of one key leaves another as it is
  left_other : (key other : Id) (end : JobEnd) (events : List (KeyEvent may)) → same_id key other ≡ false
      → MayLeave may other end events → (keys : Id → Option J) → after_events may keys events key ≡ keys key
  left_other key other end [] apart leave keys = refl
  left_other key other end (ends_left l ∷ []) apart leave keys =
      ap (λ (b : Bool). cond b None (keys key)) (ap (same_id key) leave.0 ∙ apart)
  left_other key other end (ends_left l ∷ e ∷ events) apart leave keys = absurd leave
  left_other key other end (starts s job ∷ events) apart leave keys = absurd leave
  left_other key other end (ends_heard s ∷ events) apart leave keys = absurd leave

  -- a job that starts under another leaves a key as it is
  begins_keep : (key s : Id) (job : J) (more events : List (KeyEvent may)) → same_id key s ≡ false
      → Begins may s job more events → (keys : Id → Option J)
      → ((now : Id → Option J) → after_events may now more key ≡ now key) → after_events may keys events key ≡ keys key
  begins_keep key s job more events apart b keys rest =
      let first = after_events may keys b.0 in
      let second = after_event may first (starts s job) in
      ap (λ (l : List (KeyEvent may)). after_events may keys l key) b.4
      ∙ ap (λ (f : Id → Option J). f key) (after-append keys b.0 (starts s job ∷ (b.1 ++ more)))
      ∙ ap (λ (f : Id → Option J). f key) (after-append second b.1 more)
      ∙ rest (after_events may second b.1)
      ∙ left_other key s Refused b.1 apart b.3 second
      ∙ ap (λ (same : Bool). cond same (Some job) (first key)) apart
      ∙ left_other key s Replaced b.0 apart b.2 keys

  -- changes of others leave a key as it is
  pub others_keep : (key : Id) (changes : List (JobCommand J)) (events : List (KeyEvent may))
      → LeavesAlone key changes → Becomes may changes events → (keys : Id → Option J)
      → after_events may keys events key ≡ keys key
  others_keep key [] events alone is keys =
      ap (λ (l : List (KeyEvent may)). after_events may keys l key) is
  others_keep key (Start s job ∷ changes) events alone b keys =
      begins_keep key s job b.0 events alone.0 b.1 keys (others_keep key changes b.0 alone.1 b.2)
  others_keep key (StartAfter s time job ∷ changes) events alone b keys =
      begins_keep key s job b.0 events alone.0 b.1 keys (others_keep key changes b.0 alone.1 b.2)
  others_keep key (Stop s ∷ changes) events alone b keys =
      ap (λ (l : List (KeyEvent may)). after_events may keys l key) b.3
      ∙ ap (λ (f : Id → Option J). f key) (after-append keys b.0 b.1)
      ∙ others_keep key changes b.1 alone.1 b.4 (after_events may keys b.0)
      ∙ left_other key s Stopped b.0 alone.0 b.2 keys

module _ {S J F P : Type 0} (plain : Plain S P) (may : StatedJobs S J F P) where
  abbrev State : Type 0
  State = S × PendingJobs J × List (Act P)

  -- what became of keys, what the server saw and did, and which jobs are pending
  pub record Went (old new : State) : Type 0 where
    pub events : List (KeyEvent may)
    pub linked : SeesLeft plain may old.0 (lefts_of may events) new.0
    pub acts : new.2 ≡ old.2 ++ at_ends may (lefts_of may events)
    pub requests : (id : Id) (e : J) → new.1 (Request id) ≡ Some e → (old.1 (Request id) ≡ Some e)
        × Spares id (at_ends may (lefts_of may events))
    pub keys : under_keys new.1 ≡ after_events may (under_keys old.1) events
    pub turns : TakeTurns may (under_keys old.1) events

  -- what becomes of the jobs under keys, by these changes
  abbrev pub Moves : List (JobCommand J) → State → State → Type 0
  Moves changes old new = (key : Id) (e : J) → new.1 (Keyed key) ≡ Some e
      → ((old.1 (Keyed key) ≡ Some e) × LeavesAlone key changes) ⊎ StartsLast changes key e

  at_ends-append : (xs ys : List (Left may)) → at_ends may (xs ++ ys) ≡ at_ends may xs ++ at_ends may ys
  at_ends-append [] ys = refl
  at_ends-append (l ∷ xs) ys = ap (λ (acts : List (Act P)). l.acts ++ acts) (at_ends-append xs ys)
      ∙ sym (append_assoc l.acts (at_ends may xs) (at_ends may ys))

  linked-append : (xs ys : List (Left may)) (old mid new : S) → SeesLeft plain may old xs mid
      → SeesLeft plain may mid ys new → SeesLeft plain may old (xs ++ ys) new
  linked-append [] ys old mid new first second = subst (λ (s : S). SeesLeft plain may s ys new) first second
  linked-append (l ∷ xs) ys old mid new first second = (first.0, linked-append xs ys l.new mid new first.1 second)

  abbrev went_nowhere : (old new : State) → new ≡ old → Went old new
  went_nowhere old new is = record {
    events = [];
    linked = ap (λ (x : State). x.0) is;
    acts = ap (λ (x : State). x.2) is ∙ sym (append-nil old.2);
    requests = λ id e has. (ap (λ (x : State). x.1 (Request id)) (sym is) ∙ has, tt);
    keys = ap (λ (x : State). under_keys x.1) is;
    turns = tt;
  }

  ends-append : (xs ys : List (KeyEvent may)) → at_ends may (lefts_of may (xs ++ ys))
      ≡ at_ends may (lefts_of may xs) ++ at_ends may (lefts_of may ys)
  ends-append xs ys = ap (at_ends may) (lefts_of-append may xs ys)
      ∙ at_ends-append (lefts_of may xs) (lefts_of may ys)

  abbrev went_on : (old mid new : State) → Went old mid → Went mid new → Went old new
  went_on old mid new first second = record {
    events = first.events ++ second.events;
    linked = subst (λ (ls : List (Left may)). SeesLeft plain may old.0 ls new.0)
        (sym (lefts_of-append may first.events second.events))
        (linked-append (lefts_of may first.events) (lefts_of may second.events) old.0 mid.0 new.0 first.linked
        second.linked);
    acts = second.acts ∙ ap (λ (acts : List (Act P)). acts ++ at_ends may (lefts_of may second.events)) first.acts
        ∙ append_assoc old.2 (at_ends may (lefts_of may first.events)) (at_ends may (lefts_of may second.events))
        ∙ ap (λ (acts : List (Act P)). old.2 ++ acts) (sym (ends-append first.events second.events));
    requests = λ id e has.
        let later = second.requests id e has in
        let own = first.requests id e later.0 in (
          own.0,
          subst (Spares id) (sym (ends-append first.events second.events)) (spares-append id (at_ends may
              (lefts_of may first.events))
              (at_ends may (lefts_of may second.events)) own.1 later.1),
        );
    keys = second.keys ∙ ap (λ (s : Id → Option J). after_events may s second.events) first.keys
        ∙ sym (after-append may (under_keys old.1) first.events second.events);
    turns = turns-append may (under_keys old.1) first.events second.events first.turns
        (subst (λ (s : Id → Option J). TakeTurns may s second.events) first.keys second.turns);
  }

  -- what became of keys, where the job of this one may have ended so
  abbrev Freed : Id → JobEnd → State → State → Type 0
  Freed key end old new = (w : Went old new) × MayLeave may key end w.events

  -- a job under a key ended
  went_end : (key : Id) (end : JobEnd) → IsLeft {F = F} (ended end) → (old new : State) → IsSome (old.1 (Keyed key))
      → EndsThen may (Keyed key) (ended end) (old.0, without (Keyed key) old.1, old.2) new → Freed key end old new
  went_end key end is old new there ends =
      let e = ends.1 in
      let l : Left may = record {
        key = key;
        end = ended end;
        is_left = is;
        old = old.0;
        acts = e.0;
        new = new.0;
        saw = e.1;
      } in (
        record {
          events = ends_left l ∷ [];
          linked = (refl, refl);
          acts = ends.2 ∙ ap (λ (acts : List (Act P)). old.2 ++ acts) e.2;
          requests = λ id x has.
              let own = unanswered_has ends.0 (without (Keyed key) old.1) id x
              (ap (λ (p : PendingJobs J). p (Request id)) (sym e.3) ∙ has) in
              (own.0, subst (Spares id) e.2 own.1);
          keys = ap (λ (p : PendingJobs J). under_keys p) e.3 ∙ unanswered_keys ends.0 (without (Keyed key) old.1);
          turns = (there, tt);
        },
        (refl, refl),
      )

  end_keys : (key : Id) (end : End F) (old new : State)
      → EndsThen may (Keyed key) end (old.0, without (Keyed key) old.1, old.2) new → (s : Id) (e : J)
      → new.1 (Keyed s) ≡ Some e → (old.1 (Keyed s) ≡ Some e) × (same_id s key ≡ false)
  end_keys key end old new ends s e has =
      without_key key old.1 s e (sym (unanswered_key ends.0 (without (Keyed key) old.1) s)
      ∙ ap (λ (p : PendingJobs J). p (Keyed s)) (sym ends.1.3) ∙ has)

  -- a key is freed
  went_free : (key : Id) (end : JobEnd) → IsLeft {F = F} (ended end) → (old new : State)
      → Frees may (Keyed key) (ended end) old new → Freed key end old new
  went_free key end is old new frees = at (old.1 (Keyed key)) refl frees
    where
      at : (o : Option J) → old.1 (Keyed key) ≡ o → MatchOption o (new ≡ old)
          (λ (e : J). EndsThen may (Keyed key) (ended end) (old.0, without (Keyed key) old.1, old.2) new)
          → Freed key end old new
      at None none same = (went_nowhere old new same, tt)
      at (Some e) some ends = went_end key end is old new (ap (λ (o : Option J). is_some o) some) ends

  free_keys : (key : Id) (end : End F) (old new : State) → Frees may (Keyed key) end old new → (s : Id) (e : J)
      → new.1 (Keyed s) ≡ Some e → (old.1 (Keyed s) ≡ Some e) × (same_id s key ≡ false)
  free_keys key end old new frees s e has = at (old.1 (Keyed key)) refl frees
    where
      at : (o : Option J) → old.1 (Keyed key) ≡ o → MatchOption o (new ≡ old)
          (λ (e : J). EndsThen may (Keyed key) end (old.0, without (Keyed key) old.1, old.2) new)
          → (old.1 (Keyed s) ≡ Some e) × (same_id s key ≡ false)
      at None none same = (was, other (same_id s key) refl)
        where
          was : old.1 (Keyed s) ≡ Some e
          was = ap (λ (x : State). x.1 (Keyed s)) (sym same) ∙ has

          other : (b : Bool) → same_id s key ≡ b → b ≡ false
          other false at = refl
          other true at =
              let it : s ≡ key = (id_decides s key).0 at in
              let no : Some e ≡ None = sym was ∙ ap (λ (i : Id). old.1 (Keyed i)) it ∙ none in
              absurd (cc (no))
      at (Some x) some ends = end_keys key end old new ends s e has

  -- it is free then
  now_free : (key : Id) (end : JobEnd) (old new : State) → Frees may (Keyed key) (ended end) old new
      → new.1 (Keyed key) ≡ None
  now_free key end old new frees = at (new.1 (Keyed key)) refl
    where
      at : (o : Option J) → new.1 (Keyed key) ≡ o → o ≡ None
      at None none = refl
      at (Some e) some =
          let other = (free_keys key (ended end) old new frees key e some).1 in
          let no : true ≡ false = sym ((id_decides key key).1 refl) ∙ other in
          absurd (cc (no))

  -- what became of keys, where this job was started in this one, and may have been refused
  abbrev Started : Id → J → State → State → Type 0
  Started key job old new = (w : Went old new) × (after : List (KeyEvent may)) × MayLeave may key Refused after
      × (w.events ≡ starts key job ∷ after)

  -- a job is started in it
  abbrev began : (key : Id) (job : J) (old : State) → old.1 (Keyed key) ≡ None
      → Went old (old.0, with_job (Keyed key) job old.1, old.2)
  began key job old free = record {
    events = starts key job ∷ [];
    linked = refl;
    acts = sym (append-nil old.2);
    requests = λ id e has. (has, tt);
    keys = refl;
    turns = (free, tt);
  }

  went_start : (key : Id) (job : J) (old new : State) → old.1 (Keyed key) ≡ None
      → StartsOne may (Keyed key) job old new → Started key job old new
  went_start key job old new free (inl is) = (
    record {
      events = starts key job ∷ [];
      linked = ap (λ (x : State). x.0) is;
      acts = ap (λ (x : State). x.2) is ∙ sym (append-nil old.2);
      requests = λ id e has. (ap (λ (x : State). x.1 (Request id)) (sym is) ∙ has, tt);
      keys = ap (λ (x : State). under_keys x.1) is;
      turns = (free, tt);
    },
    [],
    tt,
    refl,
  )
  went_start key job old new free (inr ends) = (
    went_on old mid new (began key job old free) last.0,
    last.0.events,
    last.1,
    refl,
  )
    where
      mid : State
      mid = (old.0, with_job (Keyed key) job old.1, old.2)

      there : IsSome (mid.1 (Keyed key))
      there = ap (λ (b : Bool). is_some (cond b (Some job) (old.1 (Keyed key)))) ((id_decides key key).1 refl)

      last : Freed key Refused mid new
      last = went_end key Refused tt mid new there (subst (λ (p : PendingJobs J). EndsThen may (Keyed key)
          (ended Refused) (old.0, p, old.2) new) (sym (without_with old.1 (Keyed key) job)) ends)

  start_keys : (key : Id) (job : J) (old new : State) → StartsOne may (Keyed key) job old new → (s : Id)
      (e : J) → new.1 (Keyed s) ≡ Some e → ((old.1 (Keyed s) ≡ Some e) × (same_id s key ≡ false))
      ⊎ ((key ≡ s) × (job ≡ e))
  start_keys key job old new (inl is) s e has = at (same_id s key) refl
      (ap (λ (x : State). x.1 (Keyed s)) (sym is) ∙ has)
    where
      at : (b : Bool) → same_id s key ≡ b → cond b (Some job) (old.1 (Keyed s)) ≡ Some e
          → ((old.1 (Keyed s) ≡ Some e) × (same_id s key ≡ false)) ⊎ ((key ≡ s) × (job ≡ e))
      at true is has = inr (sym ((id_decides s key).0 is), cc (has))
      at false is has = inl (has, is)
  start_keys key job old new (inr ends) s e has = inl (end_keys key (ended Refused) old new ends s e has)

  -- what became of keys at these changes
  abbrev pub Changed : List (JobCommand J) → State → State → Type 0
  Changed changes old new = (w : Went old new) × Becomes may changes w.events

  -- a job is started in the place of the one that is there
  went_replace : (key : Id) (job : J) (old mid new : State) → Replaces may key job old mid → (rest : Went mid new)
      → (w : Went old new) × Begins may key job rest.events w.events
  went_replace key job old mid new c rest =
      let freed = went_free key Replaced tt old c.0 c.1 in
      let start = went_start key job c.0 mid (now_free key Replaced old c.0 c.1) c.2 in (
        went_on old c.0 new freed.0 (went_on c.0 mid new start.0 rest),
        (
          freed.0.events,
          start.1,
          freed.1,
          start.2,
          ap (λ (events : List (KeyEvent may)). freed.0.events ++ (events ++ rest.events)) start.3,
        ),
      )

  went_change : (change : JobCommand J) (changes : List (JobCommand J)) (old mid new : State)
      → Changes may old change mid → Changed changes mid new → Changed (change ∷ changes) old new
  went_change (Start key job) changes old mid new c rest =
      let went = went_replace key job old mid new c rest.0 in
      (went.0, (rest.0.events, went.1, rest.1))
  went_change (StartAfter key time job) changes old mid new c rest =
      let went = went_replace key job old mid new c rest.0 in
      (went.0, (rest.0.events, went.1, rest.1))
  went_change (Stop key) changes old mid new frees rest =
      let freed = went_free key Stopped tt old mid frees in
      (went_on old mid new freed.0 rest.0, (freed.0.events, rest.0.events, freed.1, refl, rest.1))

  moves_replace : (start : JobCommand J) (key : Id) (job : J) → started_by start ≡ Some (key, job) → key_of start ≡ key
      → (old new : State) → Replaces may key job old new → Moves (start ∷ []) old new
  moves_replace start key job by of old new c s e has =
      elim (start_keys key job c.0 new c.2 s e has) [
        | inl was ↦ inl (
          (free_keys key (ended Replaced) old c.0 c.1 s e was.0).0,
          (ap (same_id s) of ∙ was.1, tt),
        )
        | inr mine ↦ inr (record {
          before = [];
          after = [];
          start = start;
          started = by ∙ (λ k. Some (mine.0 k, mine.1 k));
          cut = refl;
          alone = tt;
        })
      ]

  moves_change : (change : JobCommand J) (old new : State) → Changes may old change new → Moves (change ∷ []) old new
  moves_change (Start key job) old new c s e has = moves_replace (Start key job) key job refl refl old new c s e has
  moves_change (StartAfter key time job) old new c s e has =
      moves_replace (StartAfter key time job) key job refl refl old new c s e has
  moves_change (Stop key) old new frees s e has =
      let own = free_keys key (ended Stopped) old new frees s e has in
      inl (own.0, (own.1, tt))

  alone-append : (key : Id) (xs ys : List (JobCommand J)) → LeavesAlone key xs → LeavesAlone key ys
      → LeavesAlone key (xs ++ ys)
  alone-append key [] ys first second = second
  alone-append key (x ∷ xs) ys first second = (first.0, alone-append key xs ys first.1 second)

  -- all of them, in order
  pub went_all : (changes : List (JobCommand J)) (old new : State) → FoldsTo (Changes may) old changes new
      → Changed changes old new
  went_all [] old new run = (went_nowhere old new (sym run), refl)
  went_all (change ∷ changes) old new run = went_change change changes old run.0 new run.1
      (went_all changes run.0 new run.2)

  pub moves_all : (changes : List (JobCommand J)) (old new : State) → FoldsTo (Changes may) old changes new
      → Moves changes old new
  moves_all [] old new run key e has = inl (ap (λ (x : State). x.1 (Keyed key)) run ∙ has, tt)
  moves_all (change ∷ changes) old new run key e has =
      elim (moves_all changes run.0 new run.2 key e has) [
        | inr last ↦ inr (record {
          before = change ∷ last.before;
          after = last.after;
          start = last.start;
          started = last.started;
          cut = ap (λ (l : List (JobCommand J)). change ∷ l) last.cut;
          alone = last.alone;
        })
        | inl was ↦ elim (moves_change change old run.0 run.1 key e was.0) [
          | inl own ↦ inl (own.0, (own.1.0, was.1))
          | inr first ↦ inr (record {
            before = first.before;
            after = first.after ++ changes;
            start = first.start;
            started = first.started;
            cut = ap (λ (l : List (JobCommand J)). l ++ changes) first.cut
                ∙ append_assoc first.before (first.start ∷ first.after) changes;
            alone = alone-append key first.after changes first.alone was.1;
          })
        ]
      ]
