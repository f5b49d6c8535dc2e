use Rattle.std.proofs.Common.{string_bytes}
use Rattle.std.proofs.lemmas.Result.{IfOk-weaker}
use Rattle.serde_json.specs.View.{view}
use Rattle.lsp_message.specs.Text.{IsValueText}
use Rattle.lsp_message.proofs.msg.result_text.body_of_tree.Goals as goal

pub returns-clause-reads_back : goal.returns-clause-reads_back
returns-clause-reads_back c =
    let is : IsValueText (view c.args.tree) (string_bytes c.in_ok-text.text) =
    record {
      exact = c.in_ok-text.ensures.text;
      compact = c.in_ok-text.ensures.compact;
      in_order = c.in_ok-text.ensures.order;
      reads_back = c.in_ok-text.ensures.reads_back;
    } in
    IfOk-weaker c.result_body.result _ _ (λ body means. means (view c.args.tree) is) c.result_body.ensures.reads_back
