use Rattle.std.proofs.Common.{◌≡◌, ◌++◌}
use Rattle.std.specs.List.{FoldsTo}
use Rattle.std.specs.Prelude.{map}
use Rattle.std.specs.Vec.Iter.{into_iter_items}
use Rattle.lsp_acts.specs.View.{act_view}
use Rattle.lsp_jobs.specs.Pooled.{Changes}
use Rattle.lsp_jobs.specs.PoolView.{pending_jobs}
use Rattle.lsp_jobs.specs.Stated.{stated_jobs}
use Rattle.lsp_jobs.proofs.pooled_server.PooledServer.change_all.Given as goal

-- the changes so far are made
abbrev pub invariant-loop-change : goal.invariant-loop-change
invariant-loop-change g l =
    (goal.iterator-loop-change g).can_next l.change-iterator
    × (goal.iterator-loop-change g).is_finite l.change-iterator
    × (l.yielded ++ into_iter_items l.change-iterator ≡ l.fn.changes.items)
    × FoldsTo (Changes (stated_jobs g.S.JobServer g.S.KeyedJobs.KeyedJobs g.J.Job)) (
      l.initial.self.server,
      pending_jobs l.initial.self.pool,
      map (act_view g.S.PendingData.PartialEq.eq) l.initial.acts.items,
    )
    l.yielded (l.self.server, pending_jobs l.self.pool, map (act_view g.S.PendingData.PartialEq.eq) l.acts.items)
