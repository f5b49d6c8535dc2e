-- What is kept under the names of jobs.
use Rattle.std.specs.FinMap as map
use Rattle.std.specs.Prelude.{◌≡◌, ℕ, List, Some, option_map}
use mathlib.Core.Option.{some}
use lib.ListN.{get_elem?}
use Rattle.lsp_jobs.specs.Outcomes.{MaySend}
use Rattle.lsp_jobs.specs.PendingJobs.{PendingJobs}
use Rattle.lsp_jobs.specs.declared.entries.Entries.{Entries}
use Rattle.lsp_jobs.specs.declared.job.Job.{Ghosts as OfJob}
use Rattle.lsp_jobs.specs.declared.names.JobName.{JobName}
use Rattle.lsp_jobs.specs.declared.names.JobName.TheVariants.{Request, Keyed}
use Rattle.lsp_jobs.specs.declared.pool.JobMessage.{JobMessage}
use Rattle.lsp_jobs.specs.declared.table.Entry.{Entry}

-- under each name what is kept
abbrev pub entry_of : {E : Type 0} → Entries E → PendingJobs E
entry_of entries (Request id) = map.get entries.requests id
entry_of entries (Keyed key) = map.get entries.keys key

module _ {J : Type 0} where
  abbrev pub job_of : Entry J → J
  job_of entry = entry.job.value

  -- under each name the job
  abbrev pub pending_of : Entries (Entry J) → PendingJobs J
  pending_of entries = λ name. option_map job_of (entry_of entries name)

  -- each has the ticket of its job
  abbrev pub HaveTickets : List J → PendingJobs (Entry J) → Type 0
  HaveTickets jobs entries =
      (name : JobName) (entry : Entry J) → entries name ≡ Some entry
      → get_elem? jobs entry.ticket ≡ some entry.job.value

module _ {J F : Type 0} (may : OfJob J F) where
  -- the job that is pending under this name may say this
  abbrev pub MaySay : PendingJobs J → JobName → JobMessage F → Type 0
  MaySay pending name message =
      (job : J) × (pending name ≡ Some job) × MaySend may job message
