use Rattle.lsp_jobs.proofs.entries.Entries.add.Goals as goal

pub returns-in-Request-clause-ok : goal.returns-in-Request-clause-ok
returns-in-Request-clause-ok g c = rw c.in-Request.is c.add_request.ensures.ok

pub returns-in-Keyed-clause-ok : goal.returns-in-Keyed-clause-ok
returns-in-Keyed-clause-ok g c = rw c.in-Keyed.is c.add_keyed.ensures.ok
