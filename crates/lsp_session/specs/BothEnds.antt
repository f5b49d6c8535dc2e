-- An inbox and an outbox that were lent, as one value with both ends. For private clauses.
use Rattle.std.specs.Prelude.{◌≡◌}
use Rattle.lsp_session.specs.Boxes.{Sends, Receives}
use Rattle.lsp_session.specs.declared.loops.both_ends.BothEnds.{BothEnds}

module _ {I O : Type 0} where
  -- they hold the same boxes that were lent
  abbrev pub SameBoxes : BothEnds I O → BothEnds I O → Type 0
  SameBoxes old new = (new.inbox.ghost_name ≡ old.inbox.ghost_name)
      × (new.outbox.ghost_name ≡ old.outbox.ghost_name)

  -- a receive is one of the inbox, and leaves the outbox as it is
  abbrev pub BothReceive : Receives I → Receives (BothEnds I O)
  BothReceive receives old event new = receives old.inbox.now event new.inbox.now
      × (new.outbox.now ≡ old.outbox.now) × SameBoxes old new

  -- a send is one of the outbox, and leaves the inbox as it is
  abbrev pub BothSend : Sends O → Sends (BothEnds I O)
  BothSend sends old m outcome new = sends old.outbox.now m outcome new.outbox.now
      × (new.inbox.now ≡ old.inbox.now) × SameBoxes old new
