use Rattle.serde_json.specs.View.{view}
use Rattle.std.proofs.Common.{subst, map, string_bytes}
use Rattle.std.proofs.lemmas.Result.{IfOk-weaker}
use Rattle.lsp_acts.specs.View.{act_view}
use Rattle.lsp_jobs.specs.Pooled.{Does}
use Rattle.lsp_jobs.specs.Seen.{seen}
use Rattle.lsp_jobs.specs.PendingJobs.{PendingJobs}
use Rattle.lsp_jobs.specs.Stated.{stated_jobs}
use Rattle.lsp_jobs.proofs.pooled_server.PooledServerServer.notification.Goals as goal

pub returns : goal.returns
returns g c =
    let jobs = stated_jobs g.S.JobServer g.S.KeyedJobs.KeyedJobs g.J.Job in
    let method = string_bytes c.args.notification.method in
    let params = view c.args.notification.params in
    IfOk-weaker c.acts_with_changes.result _ _ (λ all others. (
      others.0,
      others.1,
      subst (λ (x : g.row.S.Denot × PendingJobs g.row.J.Denot).
          Does jobs (g.S.Server.notification_post x.0 method params) x.1 others.0 (seen c.acts_with_changes.new.self))
          c.in_ok-forget_cancelled.ensures (
            map (act_view g.S.PendingData.PartialEq.eq) c.in_ok-acts.acts.items,
            c.notification.new.self,
            c.in_ok-acts.ensures,
            others.2,
          ),
    )) c.acts_with_changes.ensures
