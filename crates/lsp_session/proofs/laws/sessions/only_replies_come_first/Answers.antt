use Rattle.lsp_session.proofs.Ordering.{opened_before}
use Rattle.lsp_session.proofs.laws.sessions.only_replies_come_first.Goals as goal

pub returns : goal.returns
returns c = opened_before
