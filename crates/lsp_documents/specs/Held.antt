-- What a value of `TextDocuments` holds.
use Rattle.std.specs.Prelude.{ℕ, Bool, not, ◌&&◌, is_some, List, Option, Some, None}
use Rattle.std.specs.List.{list_any}
use Rattle.std.specs.BTreeMap.{get_by_text, values}
use Rattle.lsp_documents.specs.declared.documents.TextDocuments.{TextDocuments}
use Rattle.lsp_text.specs.Documents.{Document}
use Rattle.lsp_text.specs.Lines.{LinedText}
use Rattle.lsp_documents.specs.Known.{known_in, texts_in}
use Rattle.lsp_documents.specs.Notices.{Documents, shown, is_known}

abbrev pub documents_of : TextDocuments → Documents
documents_of t = record { sync = t.sync; held = λ uri. get_by_text t.documents uri }

-- each URI whose text is known, and its document, in the order of the URIs
abbrev pub known_of : TextDocuments → List (List ℕ × Document)
known_of t = known_in t.documents.entries

-- the same with the texts alone
abbrev pub texts_of : TextDocuments → List (List ℕ × LinedText)
texts_of t = texts_in (known_of t)

-- whether the text of a document is known
abbrev pub has_known : TextDocuments → Bool
has_known t = list_any (λ o. is_some (shown o)) (values t.documents)

-- whether a text was known that is lost now: the one of the URI that is named, or if none is named any of them
abbrev pub loses : TextDocuments → Option (List ℕ) → TextDocuments → Bool
loses before None now = has_known before
loses before (Some uri) now =
    is_known (documents_of before) uri && not (is_known (documents_of now) uri)
