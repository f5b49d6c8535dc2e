use Rattle.std.proofs.Common.{◌≡◌, ◌++◌}
use Rattle.std.specs.Prelude.{map}
use Rattle.std.specs.Vec.Iter.{into_iter_items}
use Rattle.lsp_acts.specs.View.{act_view}
use Rattle.lsp_jobs.specs.Inline.{told}
use Rattle.lsp_jobs.proofs.inline_jobs.push_notifications.Given as goal

-- the notifications so far are added
abbrev pub invariant-loop-notification : goal.invariant-loop-notification
invariant-loop-notification g l =
    (goal.iterator-loop-notification g).can_next l.notification-iterator
    × (goal.iterator-loop-notification g).is_finite l.notification-iterator
    × (l.yielded ++ into_iter_items l.notification-iterator ≡ l.fn.sent.items)
    × (map (act_view g.P.PartialEq.eq) l.acts.items ≡ map (act_view g.P.PartialEq.eq) l.initial.acts.items
    ++ map told l.yielded)
