use Rattle.lsp_session.proofs.Lending.{over_as}
use Rattle.lsp_jobs.specs.JobLaw.{LawfulJobSession}
use Rattle.lsp_jobs.specs.JobSession.{JobSession}
use Rattle.lsp_jobs.proofs.JobSessions.{lawful_jobs}
use Rattle.lsp_jobs.specs.Stated.{stated_jobs}
use Rattle.lsp_jobs.proofs.laws.session_with_jobs_keeps_laws.Goals as goal

pub returns : goal.returns
returns g c =
    let may = stated_jobs g.S.JobServer g.S.KeyedJobs.KeyedJobs g.J.Job in record {
      exchanges = lawful_jobs g.row.T.Denot g.S.Server may;
      bytes = λ limit first last text before after answer gives.
          over_as (JobSession g.row.T.Denot g.S.Server may first last)
          (LawfulJobSession g.row.T.Denot g.S.Server may first last)
          (lawful_jobs g.row.T.Denot g.S.Server may first last) _ text _ _ gives;
    }
