use Rattle.std.proofs.Common.{ap, ◌∙◌, true}
use Rattle.lsp_acts.specs.ServerApplication.{ServerSession}
use Rattle.lsp_jobs.specs.Seen.{seen}
use Rattle.lsp_threads.proofs.InThreads.{outcome_as}
use Rattle.lsp_jobs.proofs.JobSessions.{job_session}
use Rattle.lsp_jobs.proofs.PendingLemmas.{on_err_then}
use Rattle.lsp_acts.specs.declared.server_application.ServerApplication.{ServerApplication}
use Rattle.lsp_jobs.specs.JobSession.{JobSession, seen_with_jobs}
use Rattle.lsp_jobs.specs.declared.pooled_server.PooledServer.{PooledServer}
use Rattle.lsp_jobs.specs.Stated.{stated_jobs}
use Rattle.lsp_jobs.proofs.run.run_jobs.Goals as goal

pub returns-clause-session : goal.returns-clause-session
returns-clause-session g c =
    let jobs = stated_jobs g.S.JobServer g.S.KeyedJobs.KeyedJobs g.J.Job in
    let may = seen_with_jobs g.row.T.Denot g.S.Server jobs in
    let old = c.new-queued.result.server in
    let new = c.run_in_threads_over-done.new.application.server in
    outcome_as g.W.Write.contents true g.L.BadContentPolicy.passes c.args.options.threads.limits c.args.policy.now _
    (ServerSession may old new) (JobSession g.row.T.Denot g.S.Server jobs
    c.args.server _)
    (job_session g.row.T.Denot g.S.Server jobs old new c.args.server _
    (ap seen c.new-queued.ensures.server ∙ c.new-pooled.ensures
    ∙ ap (λ t. (c.args.server, t)) c.in-Ok-start_pool.ensures)
    (c.into_parts-server.ensures ∙ ap (λ (p : PooledServer _ _ _ _). p.server) c.into_server.ensures))
    _ _ _ (rw c.in-Ok-waker.ensures.made at c.run_in_threads_over-done.ensures.session)

pub returns-clause-unstarted : goal.returns-clause-unstarted
returns-clause-unstarted g c =
    on_err_then c.run_in_threads_over-done.result c.run_in_threads_over-done.ensures.unstarted
    (λ same. (
      c.into_parts-server.ensures ∙ ap (λ (p : PooledServer _ _ _ _). p.server) c.into_server.ensures
          ∙ ap (λ (q : ServerApplication _ _). q.server.server) same.0
          ∙ ap (λ (p : PooledServer _ _ _ _). p.server) c.new-queued.ensures.server
          ∙ ap (λ x. x.0) c.new-pooled.ensures,
      same.1,
    ))
