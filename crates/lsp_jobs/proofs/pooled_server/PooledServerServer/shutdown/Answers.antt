use Rattle.std.proofs.Common.{map}
use Rattle.std.proofs.lemmas.Result.{IfOk-weaker}
use Rattle.lsp_acts.specs.View.{act_view}
use Rattle.lsp_jobs.proofs.pooled_server.PooledServerServer.shutdown.Goals as goal

pub returns : goal.returns
returns g c =
    IfOk-weaker c.acts_by_server.result _ _ (λ all made. (
      (map (act_view g.S.PendingData.PartialEq.eq) c.in_ok-acts.acts.items, made, c.in_ok-acts.ensures),
      c.cancel_all.ensures,
    )) c.acts_by_server.ensures
