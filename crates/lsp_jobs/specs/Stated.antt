-- What a server states of its jobs, and what these state.
use Rattle.serde_json.specs.Data.{Data}
use Rattle.std.specs.Prelude.{ℕ, Bool, List, Option}
use Rattle.lsp_message.specs.Id.{Id}
use Rattle.lsp_acts.specs.Acts.{Act}
use Rattle.lsp_jobs.specs.Ends.{End, Outcome, ended, found}
use Rattle.lsp_jobs.specs.declared.job.Job.{Ghosts as OfJob}
use Rattle.lsp_jobs.specs.declared.job_server.JobEnd.{JobEnd}
use Rattle.lsp_jobs.specs.declared.job_server.JobServer.{Ghosts as OfServer}
use Rattle.lsp_jobs.specs.declared.job_server.JobCommand.{JobCommand}
use Rattle.lsp_jobs.specs.declared.job_server.KeyedJobs.{Ghosts as OfKeyedJobs}
use Rattle.lsp_jobs.specs.declared.names.JobName.{JobName}

-- what `JobServer`, `KeyedJobs` and `Job` ask a server and its jobs to state
pub record StatedJobs (S J F P : Type 0) : Type 1 where
  pub is_long_post : S → List ℕ → Data → Bool → Type 0
  pub job_post : S → Id → List ℕ → Data → J → Type 0
  pub job_reply_post : S → Id → List ℕ → Data → Outcome → Type 0
  pub take_commands_post : S → List (JobCommand J) → S → Type 0
  pub found_post : S → JobName → F → List (Act P) → S → Type 0
  pub ended_post : S → JobName → JobEnd → List (Act P) → S → Type 0
  pub is_for : J → List ℕ → Data → Type 0
  pub run_post : J → Option Outcome → Option F → Type 0
  pub reports : J → List ℕ → Data → Type 0
  pub asks : J → List ℕ → Data → Type 0

module _ {S J F P A B C H : Type 0} where
  -- what these three state
  abbrev pub stated_jobs : OfServer S J A B C → OfKeyedJobs H S J P F → OfJob J F → StatedJobs S J F P
  stated_jobs server keys job = record {
    is_long_post = server.is_long_post;
    job_post = server.job_post;
    job_reply_post = server.job_reply_post;
    take_commands_post = keys.take_commands_post;
    found_post = keys.found_post;
    ended_post = keys.ended_post;
    is_for = job.is_for;
    run_post = job.run_post;
    reports = job.reports;
    asks = job.asks;
  }

module _ {S J F P : Type 0} (may : StatedJobs S J F P) where
  -- the server sees how the job with this name ended, does this, and changes so
  abbrev pub SeesEnd : S → JobName → End F → List (Act P) → S → Type 0
  SeesEnd old name (found it) acts new = may.found_post old name it acts new
  SeesEnd old name (ended end) acts new = may.ended_post old name end acts new
