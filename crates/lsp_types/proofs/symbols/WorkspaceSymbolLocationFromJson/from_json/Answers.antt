use Rattle.lsp_types.specs.declared.symbols.WorkspaceSymbolLocation.TheVariants.{Place, Document}
use Rattle.lsp_types.proofs.ReadLemmas.{not_read}
use Rattle.lsp_types.proofs.symbols.WorkspaceSymbolLocationFromJson.from_json.Goals as goal

pub returns-in-Err : goal.returns-in-Err
returns-in-Err c fits = elim [
  | Place it ↦ λ one. not_read _ _ _ c.in_ok-it.ensures.read c.in_default.is it
      one
  | Document it ↦ λ one. c.in-Err.ensures fits it one.1
]
