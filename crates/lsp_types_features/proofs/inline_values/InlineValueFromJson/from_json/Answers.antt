use Rattle.lsp_types_features.specs.declared.inline_values.InlineValue.TheVariants.{Text, Lookup, Expression}
use Rattle.lsp_types.proofs.ReadLemmas.{not_read}
use Rattle.lsp_types_features.proofs.inline_values.InlineValueFromJson.from_json.Goals as goal

pub returns-in-Err : goal.returns-in-Err
returns-in-Err c fits = elim [
  | Text it ↦ λ one. not_read _ _ _ c.in_ok-it.ensures.read c.in_default.is it
      one
  | Lookup it ↦ λ one. not_read _ _ _ c.in_ok-it-2.ensures.read c.in_default-2.is it one.1
  | Expression
      it ↦ λ one. c.in-Err.ensures fits it one.2
]
