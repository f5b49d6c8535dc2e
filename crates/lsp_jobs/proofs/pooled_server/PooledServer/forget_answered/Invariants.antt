use Rattle.std.proofs.Common.{◌≡◌, drop}
use Rattle.std.specs.Prelude.{map}
use Rattle.lsp_acts.specs.View.{act_view}
use Rattle.lsp_jobs.specs.Pooled.{unanswered}
use Rattle.lsp_jobs.specs.PoolView.{pending_jobs}
use Rattle.lsp_jobs.proofs.pooled_server.PooledServer.forget_answered.Given as goal

-- the acts that are left take the rest away
abbrev pub invariant-loop-act : goal.invariant-loop-act
invariant-loop-act g l =
    (l.self.server ≡ l.initial.self.server)
    × (unanswered (map (act_view g.P.PartialEq.eq) (drop l.act-index l.acts)) (pending_jobs l.self.pool)
    ≡ unanswered (map (act_view g.P.PartialEq.eq) l.acts) (pending_jobs l.initial.self.pool))
