use Rattle.test_laws.proofs.jobs.serve_with_jobs.Goals as goal

pub returns : goal.returns
returns g c = λ text done reads is.
    c.session_with_jobs_keeps_laws.ensures.bytes _ c.args.server c.run_jobs.result.0 text _ _ _
    (c.session_with_jobs_that_asks_keeps_laws.ensures.nothing_passed _ c.args.server c.run_jobs.result.0 text _ _ _ _ _
    (λ _ _ _ none. none) (rw (reads, is) at c.run_jobs.ensures.session).session)
