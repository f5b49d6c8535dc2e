use Rattle.lsp_types.specs.declared.edits.AnyTextEdit.TheVariants.{Annotated, Plain}
use Rattle.lsp_types.proofs.ReadLemmas.{not_read}
use Rattle.lsp_types.proofs.edits.AnyTextEditFromJson.from_json.Goals as goal

pub returns-in-Err : goal.returns-in-Err
returns-in-Err c fits = elim [
  | Annotated it ↦ λ one. not_read _ _ _ c.in_ok-it.ensures.read c.in_default.is
      it one
  | Plain it ↦ λ one. c.in-Err.ensures fits it one.1
]
