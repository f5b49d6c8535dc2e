use Rattle.lsp_types.specs.declared.edits.DocumentChange.TheVariants.{Create, Rename, Delete, Edit}
use Rattle.lsp_types.proofs.ReadLemmas.{not_read}
use Rattle.lsp_types.proofs.edits.DocumentChangeFromJson.from_json.Goals as goal

pub returns-in-Err : goal.returns-in-Err
returns-in-Err c fits = elim [
  | Create it ↦ λ one. not_read _ _ _ c.in_ok-it.ensures.read c.in_default.is it
      one
  | Rename it ↦ λ one. not_read _ _ _ c.in_ok-it-2.ensures.read c.in_default-2.is it one.1
  | Delete it ↦
      λ one. not_read _ _ _ c.in_ok-it-3.ensures.read c.in_default-3.is it one.2
  | Edit it ↦ λ one.
      c.in-Err.ensures fits it one.3
]
