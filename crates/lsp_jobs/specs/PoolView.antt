-- What is seen of a pool.
use Rattle.std.specs.Prelude.{Result, Ok, Err, option_map, string_bytes}
use Rattle.serde_json.specs.View.{view}
use Rattle.lsp_message.specs.View.{outcome_view}
use Rattle.lsp_jobs.specs.Ends.{Came, gave, gave_up, out_of_memory}
use Rattle.lsp_jobs.specs.PendingJobs.{PendingJobs, FromJob, reports, asks, ends}
use Rattle.lsp_jobs.specs.Waiting.{pending_of}
use Rattle.lsp_jobs.specs.declared.job.DoneJob.{DoneJob}
use Rattle.lsp_jobs.specs.declared.job.Interrupted.{Interrupted}
use Rattle.lsp_jobs.specs.declared.job.Interrupted.TheVariants.{Cancelled as GaveUp, Memory}
use Rattle.lsp_jobs.specs.declared.pool.JobMessage.{JobMessage}
use Rattle.lsp_jobs.specs.declared.pool.JobMessage.TheVariants.{Report, Ask, Ran}
use Rattle.lsp_jobs.specs.declared.pool.JobPool.{JobPool}

-- under each name the job
abbrev pub pending_jobs : {T J F : Type 0} → JobPool T J F → PendingJobs J
pending_jobs pool = pending_of pool.table.jobs

module _ {F : Type 0} where
  -- what a job came to
  abbrev pub came_view : Result (DoneJob F) Interrupted → Came F
  came_view (Ok done) = gave (option_map outcome_view done.reply) done.found
  came_view (Err Memory) = out_of_memory
  came_view (Err GaveUp) = gave_up

  -- what it says
  abbrev pub job_message_view : JobMessage F → FromJob F
  job_message_view (Report n) = reports (string_bytes n.method) (view n.params)
  job_message_view (Ask method params number) = asks (string_bytes method) (view params)
  job_message_view (Ran ran) = ends (came_view ran)
