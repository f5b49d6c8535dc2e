use Rattle.lsp_types.specs.declared.choices.NumberOrString.TheVariants.{Number, String}
use Rattle.lsp_types.proofs.ReadLemmas.{not_read}
use Rattle.lsp_types.proofs.choices.NumberOrStringFromJson.from_json.Goals as goal

pub returns-in-None : goal.returns-in-None
returns-in-None c fits = elim [
  | Number z ↦ λ one. not_read _ _ _ c.in_ok-number.ensures.read c.in-None.is z one
  | String text ↦ λ one. not_read _ _ _ c.in_ok-text.ensures.read c.in_default.is text one
]
