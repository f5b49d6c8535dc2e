use Rattle.lsp_diagnostics.proofs.Heard.{logs_or_clears}
use Rattle.lsp_diagnostics.proofs.analysed.AnalysedDocuments.apply.Goals as goal

pub returns-clause-acts : goal.returns-clause-acts
returns-clause-acts g c = logs_or_clears g.P.PartialEq.eq _ _ _ _ _ c.in_ok-note.ensures.reports
