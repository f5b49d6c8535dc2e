-- The jobs that are pending: under the name of each, the job.
use Rattle.serde_json.specs.Data.{Data}
use Rattle.std.specs.Prelude.{◌≡◌, ℕ, List, Option, Some, None, if◌then◌else◌}
use Rattle.lsp_jobs.specs.Ends.{Came, ComesTo}
use Rattle.lsp_jobs.specs.Names.{same_name}
use Rattle.lsp_jobs.specs.declared.job.Job.{Ghosts as OfJob}
use Rattle.lsp_jobs.specs.declared.names.JobName.{JobName}

abbrev pub PendingJobs : Type 0 → Type 0
PendingJobs A = JobName → Option A

-- what a job says: a notification; a request to the client; or what it came to
pub data FromJob (F : Type 0) : Type 0 where
  reports : List ℕ → Data → FromJob F
  asks : List ℕ → Data → FromJob F
  ends : Came F → FromJob F

module _ {A : Type 0} where
  abbrev pub no_jobs : PendingJobs A
  no_jobs name = None

  -- no job under this name
  abbrev pub without : JobName → PendingJobs A → PendingJobs A
  without name pending = λ n. if same_name n name then None else pending n

  -- this job under this name
  abbrev pub with_job : JobName → A → PendingJobs A → PendingJobs A
  with_job name job pending = λ n. if same_name n name then Some job else pending n

module _ {J F : Type 0} (may : OfJob J F) where
  -- A pending job reports or sends the client a request, and goes on; or it has its result, and is no longer pending.
  abbrev pub Tells : JobName → PendingJobs J → FromJob F → PendingJobs J → Type 0
  Tells name old (reports method params) new =
      (job : J) × (old name ≡ Some job) × may.reports job method params × (new ≡ old)
  Tells name old (asks method params) new =
      (job : J) × (old name ≡ Some job) × may.asks job method params × (new ≡ old)
  Tells name old (ends came) new =
      (job : J) × (old name ≡ Some job) × ComesTo may.run_post job came × (new ≡ without name old)
