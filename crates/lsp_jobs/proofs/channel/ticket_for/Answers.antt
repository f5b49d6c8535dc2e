use Rattle.lsp_jobs.proofs.Tickets.{enters}
use Rattle.lsp_jobs.proofs.channel.ticket_for.Goals as goal

pub another-requires-clause-rule : goal.another-requires-clause-rule
another-requires-clause-rule g c = enters g.J.Job _ _ _ _ _ c.requires.all c.requires.left c.requires.right
