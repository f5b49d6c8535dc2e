use Rattle.std.proofs.Common.{map}
use Rattle.std.proofs.lemmas.Result.{IfOk-weaker}
use Rattle.lsp_acts.specs.View.{act_view}
use Rattle.lsp_jobs.proofs.pooled_server.PooledServerServer.initialized.Goals as goal

pub returns : goal.returns
returns g c =
    IfOk-weaker c.acts_with_changes.result _ _ (λ all others. (
      others.0,
      others.1,
      (
        map (act_view g.S.PendingData.PartialEq.eq) c.in_ok-acts.acts.items,
        c.initialized.new.self,
        c.in_ok-acts.ensures,
        others.2,
      ),
    )) c.acts_with_changes.ensures
