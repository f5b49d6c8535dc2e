use Rattle.lsp_types.specs.declared.hovers.HoverContents.TheVariants.{Marked, Several, Markup}
use Rattle.lsp_types.proofs.ReadLemmas.{not_read}
use Rattle.lsp_types.proofs.hovers.HoverContentsFromJson.from_json.Goals as goal

pub returns-in-Err : goal.returns-in-Err
returns-in-Err c fits = elim [
  | Marked it ↦ λ one. not_read _ _ _ c.in_ok-it.ensures.read c.in_default.is it
      one
  | Several it ↦ λ one. not_read _ _ _ c.in_ok-it-2.ensures.read c.in_default-2.is it one.1
  | Markup it
      ↦ λ one. c.in-Err.ensures fits it one.2
]
