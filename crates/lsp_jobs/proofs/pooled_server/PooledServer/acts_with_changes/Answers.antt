use Rattle.std.proofs.Common.{map}
use Rattle.std.proofs.lemmas.Result.{IfOk-weaker}
use Rattle.lsp_acts.specs.View.{act_view}
use Rattle.lsp_jobs.proofs.pooled_server.PooledServer.acts_with_changes.Goals as goal

pub returns : goal.returns
returns g c =
    IfOk-weaker c.acts_by_server.result _ _
    (λ all is. (map (act_view g.S.PendingData.PartialEq.eq) c.in_ok-all.all.items, is, c.in_ok-all.ensures))
    c.acts_by_server.ensures
