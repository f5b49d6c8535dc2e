-- Where the answers stand.
use Rattle.std.specs.Prelude.{◌≡◌, ℕ, List, Option, IsSomeAnd, option_and_then}
use Rattle.lsp_documents.specs.Held.{documents_of}
use Rattle.lsp_documents.specs.Notices.{shown}
use Rattle.lsp_documents.specs.declared.documents.TextDocuments.{TextDocuments}
use Rattle.lsp_text.specs.Documents.{Document}
use Rattle.lsp_text.specs.Lines.{LinedText}
use Rattle.lsp_text.specs.Places.{position_of}
use Rattle.lsp_text.specs.declared.position.PositionEncoding.{PositionEncoding}
use Rattle.lsp_text.specs.declared.position.Range.{Range}

-- the document of a URI, if its text is known
abbrev pub known_at : TextDocuments → List ℕ → Option Document
known_at documents uri = option_and_then shown ((documents_of documents).held uri)

-- the range of a part of a text, in these units (LSP 3.17, "Range")
pub record IsRangeIn (encoding : PositionEncoding) (text : LinedText) (range : Range) : Type 0 where
  pub first : ℕ
  pub last : ℕ
  pub start : range.start ≡ position_of encoding text first
  pub end : range.end ≡ position_of encoding text last

-- the range of a part of the text that is known for a URI, in the client's units
abbrev pub IsRangeOf : TextDocuments → List ℕ → Range → Type 0
IsRangeOf documents uri range =
    IsSomeAnd (known_at documents uri) (λ document. IsRangeIn documents.sync.encoding document.text range)
