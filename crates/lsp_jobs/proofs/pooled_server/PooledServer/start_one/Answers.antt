use Rattle.std.proofs.Common.{◌∙◌, ap, subst, inl, inr, map}
use Rattle.std.proofs.lemmas.Result.{IfOk-weaker}
use Rattle.lsp_acts.specs.View.{act_view}
use Rattle.lsp_jobs.proofs.PendingLemmas.{with_again}
use Rattle.lsp_jobs.specs.Ends.{ended}
use Rattle.lsp_jobs.specs.PoolView.{pending_jobs}
use Rattle.lsp_jobs.specs.Pooled.{EndsThen}
use Rattle.lsp_jobs.specs.PendingJobs.{PendingJobs, with_job}
use Rattle.lsp_jobs.specs.Stated.{stated_jobs}
use Rattle.lsp_jobs.specs.declared.job_server.JobEnd.TheVariants.{Refused}
use Rattle.lsp_jobs.proofs.pooled_server.PooledServer.start_one.Goals as goal

pub returns-then-not-has_room_for : goal.returns-then-not-has_room_for
returns-then-not-has_room_for g c =
    IfOk-weaker c.end_then.result _ _ (λ done ends. inr
    (subst (λ (p : PendingJobs g.row.J.Denot).
    EndsThen (stated_jobs g.S.JobServer g.S.KeyedJobs.KeyedJobs g.J.Job) c.args.name (ended Refused) (
      c.args.self.now.server,
      p,
      map (act_view g.S.PendingData.PartialEq.eq) c.args.acts.now.items,
    ) (
      c.end_then.new.self.server,
      pending_jobs c.end_then.new.self.pool,
      map (act_view g.S.PendingData.PartialEq.eq) c.end_then.new.acts.items,
    )) c.cancel.ensures.pending ends)) c.end_then.ensures

pub returns-in-Ok : goal.returns-in-Ok
returns-in-Ok g c =
    let before = pending_jobs c.args.self.now.pool in
    let acts = map (act_view g.S.PendingData.PartialEq.eq) c.args.acts.now.items in
    inl (ap (λ (p : PendingJobs g.row.J.Denot). (c.args.self.now.server, p, acts)) (c.in-Ok.ensures.ok
    ∙ ap (λ (p : PendingJobs g.row.J.Denot). with_job c.args.name c.args.job p) c.cancel.ensures.pending
    ∙ with_again before c.args.name c.args.job))
