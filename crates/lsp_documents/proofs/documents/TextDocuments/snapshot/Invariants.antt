use Rattle.std.proofs.Common.{◌≡◌, ◌++◌}
use Rattle.lsp_documents.specs.Held.{texts_of, known_of}
use Rattle.lsp_documents.specs.Known.{copied, copied_whole, texts_in}
use Rattle.lsp_documents.proofs.documents.TextDocuments.snapshot.Given as goal

-- the texts so far, and then those that are left
abbrev pub invariant-loop-uri : goal.invariant-loop-uri
invariant-loop-uri l = record {
  texts : copied l.texts.items ++ texts_in l.uri-iterator ≡ texts_of l.self;
  whole : copied_whole l.texts.items ++ l.uri-iterator ≡ known_of l.self;
}
