use Rattle.lsp_threads.proofs.run.run_in_threads.Goals as goal

pub returns-clause-session : goal.returns-clause-session
returns-clause-session g c = rw c.in-Ok.ensures.unwoken.1 at c.run_in_threads_over.ensures.session
