use Rattle.lsp_jobs.proofs.Tickets.{begins}
use Rattle.lsp_jobs.proofs.channel.channel_of_items.Goals as goal

pub bounded_with-requires-clause-rule : goal.bounded_with-requires-clause-rule
bounded_with-requires-clause-rule g c = begins g.J.Job
