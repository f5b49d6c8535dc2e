use Rattle.std.proofs.Common.{◌≡◌, ◌++◌}
use Rattle.std.specs.List.{FoldsTo}
use Rattle.std.specs.Vec.Iter.{into_iter_items}
use Rattle.lsp_session.specs.Boxes.{Takes}
use Rattle.lsp_session.specs.OutputView.{sent_view}
use Rattle.lsp_session.proofs.loops.service.send_all.Given as goal

-- what came so far was taken
abbrev pub invariant-loop-message : goal.invariant-loop-message
invariant-loop-message g l =
    (goal.iterator-loop-message g).can_next l.message-iterator
    × (goal.iterator-loop-message g).is_finite l.message-iterator
    × (l.yielded ++ into_iter_items l.message-iterator ≡ l.fn.messages.items)
    × FoldsTo (Takes g.O.Outbox.sends) l.initial.outbox (sent_view l.yielded) l.outbox
