use Rattle.lsp_jobs.proofs.KeyTurns.{early_pending, key_history}
use Rattle.lsp_jobs.specs.Stated.{stated_jobs}
use Rattle.lsp_jobs.proofs.laws.each_key_reports_its_last_job.Goals as goal

pub returns : goal.returns
returns g c = record {
  turns = key_history g.row.T.Denot g.S.Server (stated_jobs g.S.JobServer g.S.KeyedJobs.KeyedJobs g.J.Job);
  first = early_pending g.row.T.Denot g.S.Server (stated_jobs g.S.JobServer g.S.KeyedJobs.KeyedJobs g.J.Job);
}
