use Rattle.std.proofs.Common.{sym}
use Rattle.lsp_jobs.proofs.table.JobTable.is_awaited.Goals as goal

pub returns-in-Some : goal.returns-in-Some
returns-in-Some g c = λ yes. (c.in-Some.entry.now, sym c.in-Some.ensures, c.if-entry-item.true)
