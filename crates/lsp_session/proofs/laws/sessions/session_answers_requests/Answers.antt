use Rattle.lsp_session.proofs.Ordering.{answers_in_order}
use Rattle.lsp_session.proofs.laws.sessions.session_answers_requests.Goals as goal

pub returns : goal.returns
returns g c = λ capabilities old new xs stop answer out.
    answers_in_order g.H.Handler.answer_post g.H.Handler.note_post capabilities old new xs stop answer out
