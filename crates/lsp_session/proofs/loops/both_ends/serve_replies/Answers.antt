use Rattle.std.proofs.Common.{sym}
use Rattle.lsp_session.proofs.BothEnds.{both_run}
use Rattle.lsp_session.proofs.loops.both_ends.serve_replies.Goals as goal

pub returns : goal.returns
returns g c =
    both_run g.I.Inbox.receives g.I.WakingInbox.listens g.O.Outbox.sends _ _
    c.serve_by.new.transport _ _ _
    (λ names. c.inbox-1.given.1 (sym names)) (λ names. c.outbox-1.given.1 (sym names)) c.serve_by.ensures
