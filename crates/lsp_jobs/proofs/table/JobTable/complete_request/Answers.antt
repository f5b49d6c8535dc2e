use Rattle.lsp_jobs.proofs.PendingLemmas.{pending_remove}
use Rattle.lsp_jobs.proofs.Tables.{fewer}
use Rattle.lsp_jobs.specs.Waiting.{job_of}
use Rattle.lsp_jobs.specs.declared.names.JobName.TheVariants.{Request}
use Rattle.lsp_jobs.proofs.table.JobTable.complete_request.Goals as goal

pub invariant_of-self : goal.invariant_of-self
invariant_of-self g c =
    let known = c.args.self.now.known in
    record {
      known = (
        known.0,
        known.1,
        known.2,
        known.3,
        fewer _ _ _ (Request c.args.id.now) c.remove_request.ensures.removed known.4,
      );
    }

pub returns : goal.returns
returns g c = pending_remove job_of _ _ (Request c.args.id.now) c.remove_request.ensures.removed
