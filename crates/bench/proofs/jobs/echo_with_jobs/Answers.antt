use Rattle.std.proofs.Common.{ap, true, Ok, Some, ◌∙◌}
use Rattle.lsp_message.specs.Frame.{no_limit}
use Rattle.lsp_threads.proofs.InThreads.{outcome_alone, outcome_as}
use Rattle.bench.proofs.Echoes.{echo_at_wakes}
use Rattle.bench.proofs.jobs.echo_with_jobs.Goals as goal

pub returns : goal.returns
returns g c =
    outcome_alone g.W.Write.contents true _ no_limit _ _ (λ old fault new heard. heard) _ _ _ _
    (outcome_as g.W.Write.contents true _ no_limit _ _ _ _ (λ exchanges stop answer session.
    echo_at_wakes _ _ (λ old name it acts new h. h.0) (λ old name end acts new h. h.0)
    (λ job method params reply found for comes. comes ∙ ap (λ d. Some (Ok d)) for) _ exchanges
    (c.requests_are_answered_by_their_jobs.ensures _ stop exchanges
    (c.session_with_jobs_keeps_laws.ensures.exchanges _ _ exchanges stop answer session).jobs)) _ _ _
    (rw c.new-options.ensures.limits at c.run_jobs-done.ensures.session))
