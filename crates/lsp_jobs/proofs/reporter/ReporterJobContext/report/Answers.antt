use Rattle.std.proofs.Common.{refl}
use Rattle.lsp_jobs.proofs.Tickets.{furthers_picked}
use Rattle.lsp_jobs.proofs.reporter.ReporterJobContext.report.Goals as goal

pub try_send_as-requires-clause-rule : goal.try_send_as-requires-clause-rule
try_send_as-requires-clause-rule g c = (
  furthers_picked g.J.Job g.W.Picked.job _ _ _ _ _ c.self.invariant.1 refl c.requires,
  λ sent known h seen. tt,
)
