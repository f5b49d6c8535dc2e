use Rattle.std.proofs.Common.{ap, refl, subst, sym, ◌∙◌}
use Rattle.serde_json.specs.Read.{read}
use Rattle.lsp_message.specs.Frame.{tree_means}
use Rattle.lsp_message.specs.ReadingSteps.{Decodes}
use Rattle.lsp_message.specs.View.{message_view}
use Rattle.lsp_message.proofs.Contents.{body_means-text}
use Rattle.lsp_message.proofs.Texts.{is_utf8-no_text}
use Rattle.lsp_message.proofs.msg.Message.from_content.Goals as goal

pub returns-in-Ok : goal.returns-in-Ok
returns-in-Ok c =
    subst (Decodes message_view c.message_in_text.result) (ap (λ text. tree_means (read text)) c.in-Ok.ensures.cases.0
    ∙ sym (body_means-text _ c.in-Ok.ensures.cases.1))
    c.message_in_text.ensures.means

pub returns-in-Err : goal.returns-in-Err
returns-in-Err c = rw (is_utf8-no_text _ c.in-Err.ensures.cases.0) refl
