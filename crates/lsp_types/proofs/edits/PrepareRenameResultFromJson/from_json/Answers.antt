use Rattle.lsp_types.specs.declared.edits.PrepareRenameResult.TheVariants.{Placeholder, Default, Range}
use Rattle.lsp_types.proofs.ReadLemmas.{not_read}
use Rattle.lsp_types.proofs.edits.PrepareRenameResultFromJson.from_json.Goals as goal

pub returns-in-Err : goal.returns-in-Err
returns-in-Err c fits = elim [
  | Placeholder it ↦ λ one. not_read _ _ _ c.in_ok-it.ensures.read
      c.in_default.is it one
  | Default it ↦ λ one. not_read _ _ _ c.in_ok-it-2.ensures.read c.in_default-2.is it
      one.1
  | Range it ↦ λ one. c.in-Err.ensures fits it one.2
]
