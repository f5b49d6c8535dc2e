-- What is seen of a server with jobs.
use Rattle.lsp_message.specs.View.{outcome_view}
use Rattle.lsp_jobs.specs.Ends.{Outcome}
use Rattle.lsp_jobs.specs.declared.job_server.AnsweredBy as by
use Rattle.lsp_jobs.specs.declared.job_server.AnsweredBy.TheVariants.{Job, Reply}

module _ {J : Type 0} where
  -- this holds of the job that answers, or that of the reply at once
  abbrev pub AnsweredSo : by.AnsweredBy J → (J → Type 0) → (Outcome → Type 0) → Type 0
  AnsweredSo (Job job) jobs replies = jobs job
  AnsweredSo (Reply outcome) jobs replies = replies (outcome_view outcome)
