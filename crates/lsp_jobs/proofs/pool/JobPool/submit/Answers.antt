use Rattle.std.proofs.Common.{ap, ◌∙◌}
use Rattle.lsp_jobs.proofs.PendingLemmas.{with_again, without_again}
use Rattle.lsp_jobs.specs.PendingJobs.{PendingJobs, with_job, without}
use Rattle.lsp_jobs.specs.PoolView.{pending_jobs}
use Rattle.lsp_jobs.proofs.pool.JobPool.submit.Goals as goal

pub returns-in-Ok-clause-ok : goal.returns-in-Ok-clause-ok
returns-in-Ok-clause-ok g c =
    let before = pending_jobs c.args.self.now in
    c.in-Ok.ensures.ok ∙ ap (λ (p : PendingJobs _). with_job c.args.name c.args.job p) c.cancel.ensures.pending
    ∙ with_again before c.args.name c.args.job

pub returns-in-Err-clause-err : goal.returns-in-Err-clause-err
returns-in-Err-clause-err g c =
    c.in-Err.ensures.err
    ∙ ap (λ (p : PendingJobs _). without c.args.name p) c.cancel.ensures.pending
    ∙ without_again (pending_jobs c.args.self.now) c.args.name
