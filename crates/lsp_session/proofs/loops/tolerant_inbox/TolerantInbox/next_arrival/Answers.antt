use Rattle.lsp_session.proofs.ToldEvents.{told_closed}
use Rattle.lsp_session.proofs.loops.tolerant_inbox.TolerantInbox.next_arrival.Goals as goal

pub returns-in-Ok-None-clause-told : goal.returns-in-Ok-None-clause-told
returns-in-Ok-None-clause-told g c = told_closed _ g.L.BadContentPolicy.passes _ _ _ _ _ _ _ _ _
    (rw (c.in-Ok-None.field-0-is) at c.in-Ok-None.ensures.read).1 (rw (c.in-Ok-None.field-0-is) at
    c.in-Ok-None.ensures.told)
