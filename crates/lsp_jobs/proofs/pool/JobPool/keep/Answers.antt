use Rattle.std.proofs.Common.{ap, ◌∙◌}
use Rattle.lsp_jobs.proofs.PendingLemmas.{without_with}
use Rattle.lsp_jobs.specs.PendingJobs.{PendingJobs, without}
use Rattle.lsp_jobs.specs.PoolView.{pending_jobs}
use Rattle.lsp_jobs.proofs.pool.JobPool.keep.Goals as goal

pub returns-in-Ok-add-clause-err : goal.returns-in-Ok-add-clause-err
returns-in-Ok-add-clause-err g c =
    let before = pending_jobs c.args.self.now in
    ap (λ (p : PendingJobs _). without c.args.name p) c.in_ok-queued.ensures.ok
    ∙ without_with before c.args.name c.args.job

pub returns-in-Err-clause-err : goal.returns-in-Err-clause-err
returns-in-Err-clause-err g c =
    let before = pending_jobs c.args.self.now in
    ap (λ (p : PendingJobs _). without c.args.name p) c.in_ok-queued.ensures.ok
    ∙ without_with before c.args.name c.args.job
