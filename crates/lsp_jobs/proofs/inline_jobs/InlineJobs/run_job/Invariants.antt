use Rattle.std.proofs.Common.{Some}
use Rattle.lsp_jobs.proofs.inline_jobs.InlineJobs.run_job.Given as goal

-- the job that runs
abbrev pub ghosts-perform : goal.ghosts-perform
ghosts-perform g a = record { job = Some a.job }
