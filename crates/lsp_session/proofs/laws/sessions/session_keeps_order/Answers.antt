use Rattle.lsp_session.proofs.Ordering.{keeps_order}
use Rattle.lsp_session.proofs.laws.sessions.session_keeps_order.Goals as goal

pub returns : goal.returns
returns g c = keeps_order g.S.Service.behavior
