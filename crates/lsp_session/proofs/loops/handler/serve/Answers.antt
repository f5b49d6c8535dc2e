use Rattle.std.proofs.Common.{sym, ap, ◌∙◌}
use Rattle.serde_json.specs.View.{view}
use Rattle.lsp_session.specs.HandlerService.{lent_handler}
use Rattle.lsp_session.specs.HandlerSession.{of_handler}
use Rattle.lsp_session.specs.SessionOutcome.{StopsFor}
use Rattle.lsp_session.specs.Session.{SessionOut}
use Rattle.lsp_session.specs.SessionLaws.{Both}
use Rattle.lsp_session.specs.Unwoken.{UnwokenReceives}
use Rattle.lsp_session.proofs.Lending.{runs_as, session_as}
use Rattle.lsp_session.proofs.Unwoken.{unwoken_run}
use Rattle.lsp_session.proofs.loops.handler.serve.Goals as goal

pub returns : goal.returns
returns g c =
    let answers = g.H.Handler.answer_post in
    let notes = g.H.Handler.note_post in
    let old = c.new-service.result in
    let new = c.serve_replies.new.service in
    unwoken_run g.I.Inbox.receives g.O.Outbox.sends _ c.new-unwoken.result c.serve_replies.new.inbox _ _ _ _ _
    c.new-unwoken.ensures.unchanged
    (λ names. c.inbox-1.given.1 (sym c.new-unwoken.ensures.same_inbox ∙ sym names))
    (runs_as (Both (SessionOut (lent_handler answers notes) old new) (StopsFor c.serve_replies.result.stop))
    (SessionOut (of_handler answers notes (view c.args.capabilities)) c.args.handler.now _)
    (λ xs stop answer both. session_as answers notes (view c.args.capabilities) old new _
    (λ names. c.handler-1.given.1 (sym c.new-service.ensures.same_handler ∙ sym names))
    c.args.handler.now c.new-service.ensures.unchanged (ap view c.new-service.ensures.capabilities) xs stop
    answer both.0) (UnwokenReceives g.I.Inbox.receives) g.O.Outbox.sends _ _ _
    c.serve_replies.ensures)
