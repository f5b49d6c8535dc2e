use Rattle.std.proofs.Common.{map, sym, ◌∙◌}
use Rattle.lsp_acts.specs.View.{act_view}
use Rattle.lsp_jobs.proofs.PendingLemmas.{was_free}
use Rattle.lsp_jobs.specs.Ends.{ended}
use Rattle.lsp_jobs.specs.PoolView.{pending_jobs}
use Rattle.lsp_jobs.specs.Stated.{stated_jobs}
use Rattle.lsp_jobs.proofs.pooled_server.PooledServer.free.Goals as goal

pub returns : goal.returns
returns g c =
    was_free (stated_jobs g.S.JobServer g.S.KeyedJobs.KeyedJobs g.J.Job) c.args.name.now (ended c.args.end)
    c.args.self.now.server (pending_jobs c.args.self.now.pool) _
    (map (act_view g.S.PendingData.PartialEq.eq) c.args.acts.now.items)
    (sym c.cancel.ensures.was ∙ c.if-cancel.false) c.cancel.ensures.pending
