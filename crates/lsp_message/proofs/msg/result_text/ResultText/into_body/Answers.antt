use Rattle.std.proofs.Common.{◌∙◌, ap, string_bytes, subst, sym}
use Rattle.std.proofs.lemmas.Result.{IfOk-weaker}
use Rattle.serde_json.specs.View.{view}
use Rattle.lsp_message.specs.ResultText.{IsKept, kept_tree}
use Rattle.lsp_message.specs.Text.{IsValueText}
use Rattle.lsp_message.proofs.KeptTexts.{is_text_of_kept}
use Rattle.lsp_message.proofs.msg.result_text.ResultText.into_body.Goals as goal

pub returns-in-Written-clause-reads_back : goal.returns-in-Written-clause-reads_back
returns-in-Written-clause-reads_back c =
    let text = c.in-Written.text in
    let kept = c.in-Written.is in
    let is : IsValueText (view c.args.self) (string_bytes text) =
    subst (λ tree. IsValueText (view tree) (string_bytes text)) (ap kept_tree (sym kept) ∙ c.self.view_is)
    (is_text_of_kept text (subst IsKept kept c.self.invariant)) in
    let passed = subst (λ t. IsValueText (view c.args.self) (string_bytes t)) (sym c.in-Written.text-is) is in
    IfOk-weaker c.result_body-in-Written.result _ _ (λ body means. means (view c.args.self) passed)
    c.result_body-in-Written.ensures.reads_back
