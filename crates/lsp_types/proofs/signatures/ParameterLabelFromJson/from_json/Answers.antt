use Rattle.lsp_types.specs.declared.signatures.ParameterLabel.TheVariants.{Text, Offsets}
use Rattle.lsp_types.proofs.ReadLemmas.{not_read}
use Rattle.lsp_types.proofs.signatures.ParameterLabelFromJson.from_json.Goals as goal

pub returns-in-Err : goal.returns-in-Err
returns-in-Err c fits = elim [
  | Text it ↦ λ one. not_read _ _ _ c.in_ok-it.ensures.read c.in_default.is it
      one
  | Offsets it ↦ λ one. c.in-Err.ensures fits it one.1
]
