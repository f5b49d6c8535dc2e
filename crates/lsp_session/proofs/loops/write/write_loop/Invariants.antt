use Rattle.lsp_session.proofs.Handing.{Carries}
use Rattle.lsp_session.proofs.loops.write.write_loop.Given as goal

-- so many messages were written and offered so far
abbrev pub invariant-loop-count : goal.invariant-loop-count
invariant-loop-count g l =
    Carries g.I.Inbox.receives g.O.Outbox.sends l._count (
      l.initial.inbox,
      g.W.Write.contents l.initial.writer,
      l.initial.done,
    ) (l.inbox, g.W.Write.contents l.writer, l.done)
