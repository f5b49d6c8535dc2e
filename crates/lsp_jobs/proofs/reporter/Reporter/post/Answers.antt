use Rattle.std.proofs.Common.{refl}
use Rattle.lsp_jobs.proofs.Tickets.{furthers_picked}
use Rattle.lsp_jobs.proofs.reporter.Reporter.post.Goals as goal

pub send_as-requires-clause-rule : goal.send_as-requires-clause-rule
send_as-requires-clause-rule g c = (
  furthers_picked g.J.Job g.W.Picked.job _ _ _ _ _ c.self.invariant.1 refl c.requires,
  λ sent known h seen. tt,
)
