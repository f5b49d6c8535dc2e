use Rattle.lsp_types_workspace.specs.declared.files.BaseUri.TheVariants.{Uri, Folder}
use Rattle.lsp_types.proofs.ReadLemmas.{not_read}
use Rattle.lsp_types_workspace.proofs.files.BaseUriFromJson.from_json.Goals as goal

pub returns-in-Err : goal.returns-in-Err
returns-in-Err c fits = elim [
  | Uri it ↦ λ one. not_read _ _ _ c.in_ok-it.ensures.read c.in_default.is it one
  | Folder it ↦ λ one. c.in-Err.ensures fits it one.1
]
