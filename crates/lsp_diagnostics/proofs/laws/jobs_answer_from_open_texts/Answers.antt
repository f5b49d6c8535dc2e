use Rattle.lsp_diagnostics.proofs.Answered.{all_answered}
use Rattle.lsp_diagnostics.proofs.laws.jobs_answer_from_open_texts.Goals as goal

pub returns : goal.returns
returns g c = λ documents first stop exchanges states none jobs.
    all_answered documents _ _ _ states first exchanges none
    (c.requests_are_answered_by_their_jobs.ensures first stop exchanges jobs)
