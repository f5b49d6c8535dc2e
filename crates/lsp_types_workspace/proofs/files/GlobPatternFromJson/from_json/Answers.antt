use Rattle.lsp_types_workspace.specs.declared.files.GlobPattern.TheVariants.{Pattern, Relative}
use Rattle.lsp_types.proofs.ReadLemmas.{not_read}
use Rattle.lsp_types_workspace.proofs.files.GlobPatternFromJson.from_json.Goals as goal

pub returns-in-Err : goal.returns-in-Err
returns-in-Err c fits = elim [
  | Pattern it ↦ λ one. not_read _ _ _ c.in_ok-it.ensures.read c.in_default.is it
      one
  | Relative it ↦ λ one. c.in-Err.ensures fits it one.1
]
