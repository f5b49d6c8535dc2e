use Rattle.std.proofs.Common.{map}
use Rattle.std.proofs.lemmas.Result.{IfOk-weaker}
use Rattle.lsp_acts.specs.View.{act_view}
use Rattle.lsp_jobs.proofs.pooled_server.PooledServerServer.response.Goals as goal

pub returns-in_ok-acts-in-ByServer : goal.returns-in_ok-acts-in-ByServer
returns-in_ok-acts-in-ByServer g c =
    rw c.in-ByServer.is
    (IfOk-weaker c.acts_with_changes.result _ _ (λ all others. (
      others.0,
      others.1,
      (
        map (act_view g.S.PendingData.PartialEq.eq) c.in_ok-acts-in-ByServer.acts.items,
        c.response.new.self,
        c.in_ok-acts-in-ByServer.ensures,
        others.2,
      ),
    )) c.acts_with_changes.ensures)
