use Rattle.lsp_jobs.specs.Outcomes.{next_one, with_next}
use Rattle.lsp_jobs.proofs.workers.with_ticket.Given as goal

-- the job that gets the ticket
abbrev pub ghosts-ticket_for : goal.ghosts-ticket_for
ghosts-ticket_for g a = record { left = with_next a.job.now; right = next_one a.job.now }
