-- The channel of what jobs say.
use Rattle.serde_json.specs.Data.{Data}
use Rattle.serde_json.specs.View.{view}
use Rattle.std.specs.Prelude.{◌≡◌, ℕ, List, [], ◌∷◌, ◌++◌, length, Option, option_map, IfOk, MatchOption, string_bytes}
use Rattle.lsp_message.specs.View.{outcome_view}
use mathlib.Core.Option.{some}
use lib.ListN.{get_elem?}
use Rattle.lsp_jobs.specs.declared.job.Job.{Ghosts as OfJob}
use Rattle.lsp_jobs.specs.declared.pool.JobMessage.{JobMessage}
use Rattle.lsp_jobs.specs.declared.pool.JobMessage.TheVariants.{Ask, Ran, Report}
use Rattle.lsp_jobs.specs.declared.channel.Item.{Item}
use Rattle.lsp_jobs.specs.declared.channel.Known.{Known}
use Rattle.lsp_jobs.specs.declared.channel.Known.TheVariants.{All, One}

module _ {J : Type 0} where
  -- the jobs of a pass that knows all
  abbrev pub all_jobs : Known J → List J
  all_jobs (All jobs) = jobs
  all_jobs known = []

  abbrev pub KnowsAll : Known J → Type 0
  KnowsAll known = known ≡ All (all_jobs known)

  -- the pass that knows all knows one more job, and another pass knows this job by its ticket
  abbrev pub with_next : J → Known J → Known J
  with_next job known = All (all_jobs known ++ job ∷ [])

  abbrev pub next_one : J → Known J → Known J
  next_one job known = One (length (all_jobs known)) job

  -- What the pass with this number knows is so, if these jobs got tickets, in order. Only one pass knows all of them.
  abbrev pub IsSo : ℕ → List J → ℕ → Known J → Type 0
  IsSo pool jobs pass (All these) = (pass ≡ pool) × (these ≡ jobs)
  IsSo pool jobs pass (One ticket job) = get_elem? jobs ticket ≡ some job

module _ {J F : Type 0} (may : OfJob J F) where
  -- a result is one that the job may have, a report one that it may make, and a request one that it may send the client
  abbrev pub MaySend : J → JobMessage F → Type 0
  MaySend job (Ran ran) = IfOk ran (λ done. may.run_post job (option_map outcome_view done.reply) done.found)
  MaySend job (Report n) = may.reports job (string_bytes n.method) (view n.params)
  MaySend job (Ask method params number) = may.asks job (string_bytes method) (view params)

  -- the job that was picked may send this, report this, and ask the client this
  abbrev pub PickedMaySend : Option J → JobMessage F → Type 0
  PickedMaySend picked message = MatchOption picked ⊥ (λ job. MaySend job message)

  abbrev pub MayReport : Option J → List ℕ → Data → Type 0
  MayReport picked method params = MatchOption picked ⊥ (λ job. may.reports job method params)

  abbrev pub MayAsk : Option J → List ℕ → Data → Type 0
  MayAsk picked method params = MatchOption picked ⊥ (λ job. may.asks job method params)

  -- what is on the item the job with its ticket may say
  abbrev pub IsSaidBy : List J → Item F → Type 0
  IsSaidBy jobs item =
      (job : J) × (get_elem? jobs item.ticket ≡ some job) × MaySend job item.message

  abbrev pub AreSaidBy : List J → List (Item F) → Type 0
  AreSaidBy jobs [] = Unit {0}
  AreSaidBy jobs (item ∷ sent) = IsSaidBy jobs item × AreSaidBy jobs sent

  -- There are jobs with tickets, by whom all items are said, and what each pass knows of them is so.
  pub record SaidByTickets (sent : List (Item F)) (known : List (Known J)) : Type 0 where
    pub pool : ℕ
    pub jobs : List J
    pub said : AreSaidBy jobs sent
    pub agree : (pass : ℕ) (knows : Known J) → get_elem? known pass ≡ some knows
        → IsSo pool jobs pass knows
