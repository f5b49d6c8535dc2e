use Rattle.std.proofs.Common.{length, map}
use Rattle.lsp_session.specs.Boxes.{PassesTimeouts}
use Rattle.lsp_session.specs.Event.{event_view}
use Rattle.lsp_session.specs.Lists.{GivesNext}
use Rattle.lsp_session.specs.declared.lifecycle.lists.ListInbox.{ListInbox}
use Rattle.lsp_session.proofs.lifecycle.lists.ListInboxInbox.receive.Given as goal

-- only timeouts came so far
abbrev pub invariant-loop-event : goal.invariant-loop-event
invariant-loop-event l =
    PassesTimeouts (λ (old : ListInbox) event new. GivesNext (map event_view old.events.items) event (map event_view
    new.events.items)) l.initial.self l.self

abbrev pub decreases-loop-event : goal.decreases-loop-event
decreases-loop-event l = length l.self.events.items
