use Rattle.lsp_threads.proofs.serving.start_both.Given as goal
use Rattle.lsp_threads.specs.Contents.{source_of}

-- what the relay's plan is made of
abbrev pub ghosts-plan_reading : goal.ghosts-plan_reading
ghosts-plan_reading g a = record { source = source_of (g.R.Read.remaining a.reader.now) a.limits }
