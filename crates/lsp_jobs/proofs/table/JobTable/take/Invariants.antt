use Rattle.std.specs.Prelude.{◌≡◌}
use Rattle.lsp_jobs.proofs.table.JobTable.take.Given as goal

abbrev pub invariant-loop : goal.invariant-loop
invariant-loop g l = l.self.jobs ≡ l.fn.self.jobs
