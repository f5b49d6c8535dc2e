use Rattle.lsp_session.proofs.Accounts.{talks_in_order}
use Rattle.lsp_session.specs.Session.{SessionOut}
use Rattle.lsp_session.proofs.laws.dialogs.session_acts_in_order.Goals as goal

pub returns : goal.returns
returns g c = λ account old new before after answer keeps talks.
    talks_in_order g.L.Inbox.receives g.L.WakingInbox.listens g.L.Outbox.sends account keeps
    (SessionOut g.S.Service.behavior old new) before after answer talks
