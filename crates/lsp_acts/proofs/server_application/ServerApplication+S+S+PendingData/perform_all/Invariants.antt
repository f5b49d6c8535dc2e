use Rattle.std.proofs.Common.{◌≡◌, ◌++◌}
use Rattle.std.specs.Prelude.{map}
use Rattle.std.specs.Vec.Iter.{into_iter_items}
use Rattle.lsp_queue.specs.Queue.{count_of}
use Rattle.lsp_acts.specs.Acts.{does_all, unsent, TakesBack}
use Rattle.lsp_acts.specs.View.{act_view, queues_of}
use Rattle.lsp_acts.proofs.server_application.«ServerApplication+S+S+PendingData».perform_all.Given as goal

-- the acts so far are done
abbrev pub invariant-loop-act : goal.invariant-loop-act
invariant-loop-act g l =
    (goal.iterator-loop-act g).can_next l.act-iterator
    × (goal.iterator-loop-act g).is_finite l.act-iterator
    × (l.yielded ++ into_iter_items l.act-iterator ≡ l.fn.acts.items)
    × (queues_of l.self.queues ≡ does_all (queues_of l.initial.self.queues) (map (act_view g.S.PendingData.PartialEq.eq)
    l.yielded))
    × TakesBack g.S.Server.ids_exhausted_post l.initial.self.server
    (unsent (count_of (queues_of l.initial.self.queues).asked)
    (map (act_view g.S.PendingData.PartialEq.eq) l.yielded)) l.self.server
