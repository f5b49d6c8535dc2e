use Rattle.lsp_session.proofs.Dialogs.{never_both_wait, replies_are_due}
use Rattle.lsp_session.specs.HandlerSession.{of_handler}
use Rattle.lsp_session.proofs.laws.dialogs.client_is_never_kept_waiting.Goals as goal

pub returns-clause-due : goal.returns-clause-due
returns-clause-due g c = λ goes_on acts old new xs stop answer due both.
    never_both_wait g.S.Service.behavior old goes_on due acts xs stop answer both.1 new both.0

pub returns-clause-replies : goal.returns-clause-replies
returns-clause-replies g c = λ capabilities goes_on acts old new xs stop answer waits both.
    never_both_wait (of_handler g.H.Handler.answer_post g.H.Handler.note_post capabilities) old goes_on
    (replies_are_due g.H.Handler.answer_post g.H.Handler.note_post capabilities old goes_on waits) acts xs stop
    answer both.1 new both.0
