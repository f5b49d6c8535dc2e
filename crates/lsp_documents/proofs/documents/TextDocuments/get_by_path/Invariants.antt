use Rattle.lsp_documents.specs.Held.{known_of}
use Rattle.lsp_documents.proofs.Paths.{Passed}
use Rattle.lsp_documents.proofs.documents.TextDocuments.get_by_path.Given as goal

abbrev pub invariant-loop-uri : goal.invariant-loop-uri
invariant-loop-uri l = Passed l.path (known_of l.self) l.uri-iterator
