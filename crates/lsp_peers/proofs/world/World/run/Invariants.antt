use Rattle.std.proofs.Common.{◌≡◌, ◌++◌}
use Rattle.std.specs.Vec.Iter.{into_iter_items}
use Rattle.lsp_peers.specs.Exchange.{IsWholeRun}
use Rattle.lsp_peers.proofs.world.World.run.Given as goal

abbrev pub invariant-loop-step : goal.invariant-loop-step
invariant-loop-step l =
    (goal.iterator-loop-step).can_next l.step-iterator
    × (goal.iterator-loop-step).is_finite l.step-iterator
    × (l.yielded ++ into_iter_items l.step-iterator ≡ l.fn.steps.items)
    × IsWholeRun l.yielded l.outcomes.items l.world
