use Rattle.lsp_types.specs.declared.documents.DefinitionResult.TheVariants.{One, Several, Links}
use Rattle.lsp_types.proofs.ReadLemmas.{not_read}
use Rattle.lsp_types.proofs.documents.DefinitionResultFromJson.from_json.Goals as goal

pub returns-in-Err : goal.returns-in-Err
returns-in-Err c fits = elim [
  | One it ↦ λ one. not_read _ _ _ c.in_ok-it.ensures.read c.in_default.is it one
  | Several it ↦ λ one. not_read _ _ _ c.in_ok-it-2.ensures.read c.in_default-2.is it one.1
  | Links it ↦ λ
      one. c.in-Err.ensures fits it one.2
]
