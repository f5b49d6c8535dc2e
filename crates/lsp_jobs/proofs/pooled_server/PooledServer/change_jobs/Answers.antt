use Rattle.std.proofs.Common.{ap, subst, ◌∙◌, map}
use Rattle.std.proofs.lemmas.Result.{IfOk-weaker}
use Rattle.std.specs.List.{FoldsTo}
use Rattle.lsp_acts.specs.View.{act_view}
use Rattle.lsp_jobs.specs.Pooled.{Changes, unanswered}
use Rattle.lsp_jobs.specs.PoolView.{pending_jobs}
use Rattle.lsp_jobs.specs.PendingJobs.{PendingJobs}
use Rattle.lsp_jobs.specs.Stated.{stated_jobs}
use Rattle.lsp_jobs.proofs.pooled_server.PooledServer.change_jobs.Goals as goal

pub returns : goal.returns
returns g c =
    let may = stated_jobs g.S.JobServer g.S.KeyedJobs.KeyedJobs g.J.Job in
    let changes = c.in_ok-changes.changes.items in
    let forgot = c.forget_answered.ensures in
    let server = ap (λ (x : _ × PendingJobs _). x.0) forgot in
    let mid = c.take_commands.new.server in
    let view = act_view g.S.PendingData.PartialEq.eq in
    IfOk-weaker c.change_all.result _ _ (λ all done. record {
      changes = changes;
      mid = mid;
      gives = subst (λ s. may.take_commands_post s changes mid) server c.in_ok-changes.ensures;
      made = subst (λ t. FoldsTo (Changes may) (mid, t, map view c.args.acts.items) changes
          (c.change_all.new.self.server, pending_jobs c.change_all.new.self.pool, map view all.items))
          (ap (λ (x : _ × PendingJobs _). x.1) forgot ∙ ap (λ l. unanswered (map view l)
          (pending_jobs c.args.self.now.pool)) c.deref.ensures.value) done;
    }) c.change_all.ensures
