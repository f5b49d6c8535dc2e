use Rattle.lsp_types.specs.declared.completions.CompletionResult.TheVariants.{Items, List}
use Rattle.lsp_types.proofs.ReadLemmas.{not_read}
use Rattle.lsp_types.proofs.completions.CompletionResultFromJson.from_json.Goals as goal

pub returns-in-Err : goal.returns-in-Err
returns-in-Err c fits = elim [
  | Items it ↦ λ one. not_read _ _ _ c.in_ok-it.ensures.read c.in_default.is it
      one
  | List it ↦ λ one. c.in-Err.ensures fits it one.1
]
