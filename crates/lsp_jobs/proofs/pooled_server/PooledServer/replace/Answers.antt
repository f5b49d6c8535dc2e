use Rattle.std.proofs.Common.{map}
use Rattle.std.proofs.lemmas.Result.{IfOk-weaker}
use Rattle.lsp_acts.specs.View.{act_view}
use Rattle.lsp_jobs.specs.PoolView.{pending_jobs}
use Rattle.lsp_jobs.proofs.pooled_server.PooledServer.replace.Goals as goal

pub returns : goal.returns
returns g c =
    IfOk-weaker c.start_one.result _ _ (λ done started. (
      (
        c.free.new.self.server,
        pending_jobs c.free.new.self.pool,
        map (act_view g.S.PendingData.PartialEq.eq) c.free.new.acts.items,
      ),
      c.in_ok-free.ensures,
      started,
    )) c.start_one.ensures
