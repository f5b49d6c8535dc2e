use Rattle.std.proofs.Common.{◌≡◌, ◌++◌}
use Rattle.std.specs.List.{FoldsTo}
use Rattle.std.specs.Prelude.{map}
use Rattle.std.specs.Vec.Iter.{into_iter_items}
use Rattle.lsp_acts.specs.View.{act_view}
use Rattle.lsp_jobs.specs.Inline.{Carries}
use Rattle.lsp_jobs.specs.Stated.{stated_jobs}
use Rattle.lsp_jobs.proofs.inline_jobs.InlineJobs.carry_out_all.Given as goal

-- the commands so far are carried out
abbrev pub invariant-loop-command : goal.invariant-loop-command
invariant-loop-command g l =
    (goal.iterator-loop-command g).can_next l.command-iterator
    × (goal.iterator-loop-command g).is_finite l.command-iterator
    × (l.yielded ++ into_iter_items l.command-iterator ≡ l.fn.commands.items)
    × FoldsTo (Carries (stated_jobs g.S.JobServer g.S.KeyedJobs.KeyedJobs g.J.Job)) (
      l.initial.self.server,
      map (act_view g.S.PendingData.PartialEq.eq) l.initial.acts.items,
    )
    l.yielded (l.self.server, map (act_view g.S.PendingData.PartialEq.eq) l.acts.items)
