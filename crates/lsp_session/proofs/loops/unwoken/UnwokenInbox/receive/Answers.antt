use Rattle.std.proofs.Common.{refl}
use Rattle.lsp_session.proofs.Unwoken.{waits_unwoken}
use Rattle.lsp_session.proofs.loops.unwoken.UnwokenInbox.receive.Goals as goal

pub returns-clause-receives : goal.returns-clause-receives
returns-clause-receives g c = waits_unwoken g.I.Inbox.receives _ _ _ c.receive.ensures.receives refl
