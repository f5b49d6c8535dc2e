use Rattle.std.proofs.Common.{◌≡◌, length}
use Rattle.lsp_documents.specs.Known.{known_in}
use Rattle.lsp_documents.proofs.known.KnownDocumentsIterator.next.Given as goal

-- only documents were passed over whose text is lost
abbrev pub invariant-loop-uri : goal.invariant-loop-uri
invariant-loop-uri l = known_in l.self-inside.open ≡ l.fn.self

abbrev pub decreases-loop-uri : goal.decreases-loop-uri
decreases-loop-uri l = length l.self-inside.open
