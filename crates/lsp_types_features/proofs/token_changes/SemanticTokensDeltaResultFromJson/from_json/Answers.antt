use Rattle.lsp_types_features.specs.declared.token_changes.SemanticTokensDeltaResult.TheVariants.{Delta, Tokens}
use Rattle.lsp_types.proofs.ReadLemmas.{not_read}
use Rattle.lsp_types_features.proofs.token_changes.SemanticTokensDeltaResultFromJson.from_json.Goals as goal

pub returns-in-Err : goal.returns-in-Err
returns-in-Err c fits = elim [
  | Delta it ↦ λ one. not_read _ _ _ c.in_ok-it.ensures.read c.in_default.is it
      one
  | Tokens it ↦ λ one. c.in-Err.ensures fits it one.1
]
