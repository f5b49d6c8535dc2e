use Rattle.std.proofs.Common.{refl}
use Rattle.lsp_session.proofs.BothEnds.{waits_both}
use Rattle.lsp_session.proofs.loops.both_ends.BothEndsWakingInbox.receive_call_or_woken.Goals as goal

pub returns-clause-receives : goal.returns-clause-receives
returns-clause-receives g c = waits_both g.I.Inbox.receives _ _ _ c.receive_call_or_woken.ensures.receives refl (
  refl,
  refl,
)
