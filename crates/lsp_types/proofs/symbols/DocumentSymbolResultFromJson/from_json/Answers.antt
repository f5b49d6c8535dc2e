use Rattle.lsp_types.specs.declared.symbols.DocumentSymbolResult.TheVariants.{Symbols, Information}
use Rattle.lsp_types.proofs.ReadLemmas.{not_read}
use Rattle.lsp_types.proofs.symbols.DocumentSymbolResultFromJson.from_json.Goals as goal

pub returns-in-Err : goal.returns-in-Err
returns-in-Err c fits = elim [
  | Symbols it ↦ λ one. not_read _ _ _ c.in_ok-it.ensures.read c.in_default.is it
      one
  | Information it ↦ λ one. c.in-Err.ensures fits it one.1
]
