-- Each step keeps the rule of the channel of what jobs say.
use Rattle.serde_json.specs.Data.{Data}
use Rattle.std.proofs.Common.{◌≡◌, ◌≢◌, refl, sym, ◌∙◌, ap, subst, ⊎_elim, ℕ, zero, suc, List, [], ◌∷◌, ◌++◌, length}
use Rattle.std.proofs.Common.{set, Option, Some, None}
use Rattle.std.specs.Prelude.{MatchOption}
use mathlib.Core.Option.{some, some-ne-none, some-injective}
use lib.ListN.{get_elem?}
use Rattle.atomic_table.proofs.Lists.{at_set, at_snoc}
use Rattle.crossbeam_channel.specs.Fifo.{Pushes, Pops, Forks}
use Rattle.lsp_jobs.specs.Outcomes.{KnowsAll, IsSo, MaySend, PickedMaySend, IsSaidBy, AreSaidBy, SaidByTickets}
use Rattle.lsp_jobs.specs.Outcomes.{all_jobs}
use Rattle.lsp_jobs.specs.Outcomes.{MayAsk, MayReport, next_one, with_next}
use Rattle.lsp_jobs.specs.declared.channel.Item.{Item}
use Rattle.lsp_jobs.specs.declared.channel.Known.{Known}
use Rattle.lsp_jobs.specs.declared.channel.Known.TheVariants.{All, One}
use Rattle.lsp_jobs.specs.declared.job.Job.{Ghosts as OfJob}
use Rattle.lsp_jobs.specs.declared.pool.JobMessage.{JobMessage}

module _ {J : Type 0} where
  -- a job keeps its ticket when another gets one
  pub still : (jobs : List J) (job x : J) (i : ℕ) → get_elem? jobs i ≡ some x → get_elem? (jobs ++ job ∷ []) i ≡ some x
  still [] job x i e = absurd (some-ne-none x (sym e))
  still (y ∷ jobs) job x zero e = e
  still (y ∷ jobs) job x (suc i) e = still jobs job x i e

  pub newest : (jobs : List J) (job : J) → get_elem? (jobs ++ job ∷ []) (length jobs) ≡ some job
  newest [] job = refl
  newest (y ∷ jobs) job = newest jobs job

  more : (pool : ℕ) (jobs : List J) (job : J) (pass : ℕ) (knows : Known J) → pass ≢ pool → IsSo pool jobs pass knows
      → IsSo pool (jobs ++ job ∷ []) pass knows
  more pool jobs job pass (All these) other so = absurd (other so.0)
  more pool jobs job pass (One ticket x) other so = still jobs job x ticket so

  each_set : (F : ℕ → Known J → Type 0) (known : List (Known J)) (pass : ℕ) (new : Known J) → F pass new
      → ((j : ℕ) (u : Known J) → j ≢ pass → get_elem? known j ≡ some u → F j u) → (j : ℕ) (u : Known J)
      → get_elem? (set known pass new) j ≡ some u → F j u
  each_set F known pass new mine others j u e = ⊎_elim (λ (x : (j ≡ pass) × (new ≡ u)). subst (λ (y : ℕ × Known J). F
      y.0 y.1) (λ i. (sym x.0 i, x.1 i)) mine)
      (λ (x : (j ≢ pass) × (get_elem? known j ≡ some u)). others j u x.0 x.1) (at_set known pass j new u e)

  pub one_is_not_all : (ticket : ℕ) (job : J) (jobs : List J) → One ticket job ≡ All jobs → ⊥
  one_is_not_all ticket job jobs same = absurd (cc (same))

  sole : (pass : ℕ) (knows : Known J) → get_elem? (All [] ∷ []) pass ≡ some knows → IsSo 0 [] pass knows
  sole zero knows e = subst (IsSo 0 [] 0) (some-injective _ _ e) (refl, refl)
  sole (suc i) knows e = absurd (some-ne-none knows (sym e))

module _ {J F : Type 0} (may : OfJob J F) where
  said_more : (jobs : List J) (job : J) (sent : List (Item F)) → AreSaidBy may jobs sent
      → AreSaidBy may (jobs ++ job ∷ []) sent
  said_more jobs job [] are = tt
  said_more jobs job (item ∷ sent) are = (
    (are.0.0, still jobs job are.0.0 item.ticket are.0.1, are.0.2),
    said_more jobs job sent are.1,
  )

  said_push : (jobs : List J) (sent : List (Item F)) (item : Item F) → AreSaidBy may jobs sent
      → IsSaidBy may jobs item → AreSaidBy may jobs (sent ++ item ∷ [])
  said_push jobs [] item are is = (is, tt)
  said_push jobs (x ∷ sent) item are is = (are.0, said_push jobs sent item are.1 is)

  pub begins : SaidByTickets may [] (All [] ∷ [])
  begins = record { pool = 0; jobs = []; said = tt; agree = sole }

  pub furthers : (room pass : ℕ) (v : Known J) (ticket : ℕ) (job : J) (item : Item F) → v ≡ One ticket job → item.ticket
      ≡ ticket → MaySend may job item.message
      → Pushes (SaidByTickets may) room pass v item (λ w. (w ≡ v) × (KnowsAll v → IsSaidBy may (all_jobs v) item))
  furthers room pass v ticket job item knows is says sent known short h seen =
      let mine = h.agree pass v seen in
      let so : get_elem? h.jobs ticket ≡ some job = subst (IsSo h.pool h.jobs pass) knows mine in (
        v,
        record {
          pool = h.pool;
          jobs = h.jobs;
          said = said_push h.jobs sent item h.said (job, ap (get_elem? h.jobs) is ∙ so, says);
          agree = each_set (IsSo h.pool h.jobs) known pass v mine (λ j u other e. h.agree j u e);
        },
        (refl, λ all. absurd (one_is_not_all ticket job (all_jobs v) (sym knows ∙ all))),
      )

  -- the same for a job that was picked
  pub furthers_picked : (picked : Option J) (room pass : ℕ) (v : Known J) (ticket : ℕ) (item : Item F)
      → MatchOption picked ⊥ (λ job. v ≡ One ticket job) → item.ticket ≡ ticket
      → PickedMaySend may picked item.message
      → Pushes (SaidByTickets may) room pass v item (λ w. (w ≡ v) × (KnowsAll v → IsSaidBy may (all_jobs v) item))
  furthers_picked (Some job) room pass v ticket item knows is says = furthers room pass v ticket job item knows is says
  furthers_picked None room pass v ticket item knows is says = absurd knows

  pub takes : (pass : ℕ) (v : Known J) → KnowsAll v → Pops (SaidByTickets may) pass v (λ item w. (w ≡ v)
      × (KnowsAll v → IsSaidBy may (all_jobs v) item))
  takes pass v all item sent known h seen =
      let mine = h.agree pass v seen in
      let so : (pass ≡ h.pool) × (all_jobs v ≡ h.jobs) = subst (IsSo h.pool h.jobs pass) all mine in (
        v,
        record {
          pool = h.pool;
          jobs = h.jobs;
          said = h.said.1;
          agree = each_set (IsSo h.pool h.jobs) known pass v mine (λ j u other e. h.agree j u e);
        },
        (refl, λ knows. subst (λ jobs. IsSaidBy may jobs item) (sym so.1) h.said.0),
      )

  pub enters : (pass : ℕ) (v : Known J) (left right : Known J → Known J) (job : J) → KnowsAll v → left ≡ with_next job
      → right ≡ next_one job → Forks (SaidByTickets may) pass v (left v) (right v)
  enters pass v left right job all is_left is_right sent known h seen =
      let mine : (pass ≡ h.pool) × (all_jobs v ≡ h.jobs) = subst (IsSo h.pool h.jobs pass) all (h.agree pass v seen) in
      let jobs = h.jobs ++ job ∷ [] in
      let now = each_set (IsSo h.pool jobs) known pass (with_next job v) (mine.0, ap (λ l. l ++ job ∷ []) mine.1)
      (λ j u other e. more h.pool h.jobs job j u (λ p. other (p ∙ sym mine.0)) (h.agree j u e)) in
      let newest_so : get_elem? jobs (length (all_jobs v)) ≡ some job = ap (λ (l : List J). get_elem? jobs (length l))
      mine.1 ∙ newest h.jobs job in
      let picked : SaidByTickets may sent (set known pass (with_next job v) ++ next_one job v ∷ []) = record {
        pool = h.pool;
        jobs = jobs;
        said = said_more h.jobs job sent h.said;
        agree = λ j u e. ⊎_elim (λ x. now j u x)
            (λ (same : next_one job v ≡ u). subst (IsSo h.pool jobs j) same newest_so)
            (at_snoc (set known pass (with_next job v)) (next_one job v) u j e);
      } in
      subst (λ (l : Known J → Known J). SaidByTickets may sent (set known pass (l v) ++ right v ∷ [])) (sym is_left)
      (subst (λ (r : Known J → Known J). SaidByTickets may sent (set known pass (with_next job v) ++ r v ∷ []))
      (sym is_right) picked)

  -- what a job may report and ask, the job that was picked may
  pub may_report : (picked : Option J) (job : J) (method : List ℕ) (params : Data) → picked ≡ Some job
      → may.reports job method params → MayReport may picked method params
  may_report picked job method params is says = subst (λ (p : Option J). MayReport may p method params) (sym is) says

  pub may_ask : (picked : Option J) (job : J) (method : List ℕ) (params : Data) → picked ≡ Some job
      → may.asks job method params → MayAsk may picked method params
  may_ask picked job method params is says = subst (λ (p : Option J). MayAsk may p method params) (sym is) says

  -- its result is one that it may have
  pub may_have : (picked : Option J) (job : J) (message : JobMessage F) → picked ≡ Some job → MaySend may job message
      → PickedMaySend may picked message
  may_have picked job message is says = subst (λ (p : Option J). PickedMaySend may p message) (sym is) says
