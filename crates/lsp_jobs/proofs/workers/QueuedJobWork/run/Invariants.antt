use Rattle.std.proofs.Common.{Some}
use Rattle.lsp_jobs.proofs.workers.QueuedJobWork.run.Given as goal

-- the job that runs
abbrev pub ghosts-perform : goal.ghosts-perform
ghosts-perform g a = record { job = Some a.queued.job }
