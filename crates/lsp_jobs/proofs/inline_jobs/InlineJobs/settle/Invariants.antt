use Rattle.std.proofs.Common.{◌≡◌, List, length}
use Rattle.std.specs.List.{FoldsTo}
use Rattle.std.specs.Prelude.{map}
use Rattle.lsp_acts.specs.View.{act_view}
use Rattle.lsp_jobs.specs.Inline.{Round}
use Rattle.lsp_jobs.specs.Stated.{stated_jobs}
use Rattle.lsp_jobs.specs.declared.job_server.JobCommand.{JobCommand}
use Rattle.lsp_jobs.proofs.inline_jobs.InlineJobs.settle.Given as goal

-- the rounds so far are carried out, and counted
abbrev pub invariant-loop-round : goal.invariant-loop-round
invariant-loop-round g l =
    (rounds : List (List (JobCommand g.row.J.Denot)))
    × FoldsTo (Round (stated_jobs g.S.JobServer g.S.KeyedJobs.KeyedJobs g.J.Job))
    (l.initial.self.server, map (act_view g.S.PendingData.PartialEq.eq) l.initial.acts.items)
    rounds
    (l.self.server, map (act_view g.S.PendingData.PartialEq.eq) l.acts.items)
    × (length rounds ≡ l._round)
