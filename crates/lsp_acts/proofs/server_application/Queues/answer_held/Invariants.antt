use Rattle.std.proofs.Common.{◌≡◌, ◌++◌}
use Rattle.std.specs.Vec.Iter.{into_iter_items}
use Rattle.lsp_acts.specs.Acts.{does_all, ends_all}
use Rattle.lsp_acts.specs.View.{queues_of}
use Rattle.lsp_acts.proofs.server_application.Queues.answer_held.Given as goal

-- those so far are answered
abbrev pub invariant-loop-id : goal.invariant-loop-id
invariant-loop-id g l =
    (goal.iterator-loop-id g).can_next l.id-iterator
    × (goal.iterator-loop-id g).is_finite l.id-iterator
    × (l.yielded ++ into_iter_items l.id-iterator ≡ into_iter_items l.initial.id-iterator)
    × (queues_of l.self ≡ does_all (queues_of l.initial.self) (ends_all l.yielded))
