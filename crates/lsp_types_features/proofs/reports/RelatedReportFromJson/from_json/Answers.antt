use Rattle.lsp_types_features.specs.declared.reports.RelatedReport.TheVariants.{Full, Unchanged}
use Rattle.lsp_types.proofs.ReadLemmas.{not_read}
use Rattle.lsp_types_features.proofs.reports.RelatedReportFromJson.from_json.Goals as goal

pub returns-in-Err : goal.returns-in-Err
returns-in-Err c fits = elim [
  | Full it ↦ λ one. not_read _ _ _ c.in_ok-it.ensures.read c.in_default.is it
      one
  | Unchanged it ↦ λ one. c.in-Err.ensures fits it one.1
]
