use Rattle.std.proofs.Common.{◌≡◌}
use Rattle.lsp_documents.specs.Held.{documents_of}
use Rattle.lsp_diagnostics.proofs.Heard.{Adds, AreSoFar}
use Rattle.lsp_diagnostics.specs.Followed.{Clears}
use Rattle.lsp_diagnostics.proofs.analysed.AnalysedDocuments.stop_all.Given as goal

abbrev pub invariant-loop-uri : goal.invariant-loop-uri
invariant-loop-uri g l = record {
  same : l.self.1.1.0 ≡ l.fn.self.documents;
  commands : AreSoFar g.J.Analysis.source (documents_of l.fn.self.documents) l.fn.self.commands.items
      l.self.1.1.1.0.items l.uri-iterator;
  acts : Adds g.P.PartialEq.eq (Clears (documents_of l.fn.self.documents)) l.fn.acts.items l.acts.items;
}
