use Rattle.std.proofs.Common.{refl}
use Rattle.serde_json.specs.View.{view}
use Rattle.lsp_session.proofs.Lending.{session_as}
use Rattle.lsp_session.proofs.laws.policies.handler_service_runs_its_handler.Goals as goal

pub returns : goal.returns
returns g c = λ old new xs stop answer out.
    session_as g.H.Handler.answer_post g.H.Handler.note_post (view old.capabilities.now) old new new.handler.now
    (λ names. refl)
    old.handler.now refl refl xs stop answer out
