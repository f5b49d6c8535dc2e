use Rattle.std.proofs.Common.{◌∙◌}
use Rattle.std.proofs.lemmas.Result.{IfOk-weaker}
use Rattle.lsp_json_write.proofs.Writing.{whole_text}
use Rattle.lsp_json_write.proofs.json_writer.JsonWriter.into_string.Goals as goal

pub returns : goal.returns
returns c d h = IfOk-weaker c.text_of.result _ _ (λ text is. whole_text d c.args.self _ h
    (is ∙ c.into_inner.ensures.items) c.into_inner.ensures.reads_back) c.text_of.ensures
