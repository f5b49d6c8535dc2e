use Rattle.lsp_session.proofs.Lending.{own_as}
use Rattle.lsp_session.proofs.loops.handler_application.HandlerApplicationApplication.begin.Goals as goal

pub returns : goal.returns
returns g c = own_as g.H.Handler.answer_post g.H.Handler.note_post c.args.self.now
