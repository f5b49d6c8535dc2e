use Rattle.lsp_session.specs.Session.{offered}
use Rattle.lsp_jobs.proofs.Refused.{whose}
use Rattle.lsp_jobs.specs.Stated.{stated_jobs}
use Rattle.lsp_jobs.proofs.laws.requests_are_answered_by_their_jobs.Goals as goal

pub returns : goal.returns
returns g c = λ first stop exchanges law earlier later x before after id outcome cut none sent.
    whose g.S.Server (stated_jobs g.S.JobServer g.S.KeyedJobs.KeyedJobs g.J.Job) first earlier (offered x) before after
    id
    outcome
    (law earlier later x cut none).0 sent
