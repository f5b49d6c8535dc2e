-- The names of jobs: the request that a job answers, or its key.
use Rattle.std.specs.Prelude.{Bool, false}
use Rattle.lsp_message.specs.Id.{same_id}
use Rattle.lsp_jobs.specs.declared.names.JobName.{JobName}
use Rattle.lsp_jobs.specs.declared.names.JobName.TheVariants.{Request, Keyed}

-- No request has the name of a key.
abbrev pub same_name : JobName → JobName → Bool
same_name (Request i) (Request j) = same_id i j
same_name (Keyed s) (Keyed t) = same_id s t
same_name a b = false
