use Rattle.std.proofs.Common.{sym, ap, ◌∙◌}
use Rattle.serde_json.specs.View.{view}
use Rattle.lsp_message.specs.Limits.{of_content}
use Rattle.lsp_session.specs.HandlerService.{lent_handler}
use Rattle.lsp_session.specs.HandlerSession.{of_handler}
use Rattle.lsp_session.specs.Session.{SessionOut}
use Rattle.lsp_session.proofs.Lending.{known_as, session_as}
use Rattle.lsp_session.proofs.loops.stream_session.session_within.Goals as goal

pub returns : goal.returns
returns g c =
    let answers = g.H.Handler.answer_post in
    let notes = g.H.Handler.note_post in
    let old = c.new-service.result in
    let new = c.run_handler-service.result in
    known_as (SessionOut (lent_handler answers notes) old new) (SessionOut (of_handler answers notes
    (view c.args.capabilities)) c.args.handler.now _)
    (session_as answers notes (view c.args.capabilities) old new _ (λ names. c.handler-1.given.1
    (sym c.new-service.ensures.same_handler ∙ sym names))
    c.args.handler.now c.new-service.ensures.unchanged (ap view c.new-service.ensures.capabilities))
    (of_content c.args.limit) _ _ _ _ _ c.run_handler-service.ensures
