use Rattle.std.proofs.Common.{ap, ◌∙◌}
use Rattle.lsp_jobs.proofs.PendingLemmas.{pending_empty}
use Rattle.lsp_jobs.proofs.Tables.{none_wait}
use Rattle.lsp_jobs.specs.Waiting.{entry_of, job_of}
use Rattle.lsp_jobs.proofs.table.JobTable.complete_all.Goals as goal

pub invariant_of-self : goal.invariant_of-self
invariant_of-self g c =
    let known = c.args.self.now.known in
    record {
      known = (
        known.0,
        known.1,
        known.2,
        known.3,
        none_wait _ _ (ap entry_of c.replace-all.ensures.after ∙ c.new.ensures),
      );
    }

pub returns : goal.returns
returns g c = pending_empty job_of _ (ap entry_of c.replace-all.ensures.after ∙ c.new.ensures)
