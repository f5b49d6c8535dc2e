-- What is kept of documents and of tokens.
use Rattle.std.specs.BTreeMap.{get, get_by_text}
use Rattle.std.specs.Prelude.{◌≡◌, ℕ, List, Option}
use Rattle.lsp_message.specs.Id.{Id, id_cmp}
use Rattle.lsp_watch.specs.Documents.{document_of}
use Rattle.lsp_watch.specs.Log.{Log}
use Rattle.lsp_watch.specs.Progress.{token_of}
use Rattle.lsp_watch.specs.declared.documents.Document.{Document}
use Rattle.lsp_watch.specs.declared.documents.Documents.{Documents}
use Rattle.lsp_watch.specs.declared.progress.Created.{Created}
use Rattle.lsp_watch.specs.declared.progress.Token.{Token}

-- what is kept of the document of a URI
abbrev pub held : Documents → List ℕ → Option Document
held d uri = get_by_text d.open uri

-- the documents that are kept are those that are open
abbrev pub Opened : Documents → Log → Type 0
Opened d log = (uri : List ℕ) → held d uri ≡ document_of uri log

-- what is kept of a token
abbrev pub token_held : Created → Id → Option Token
token_held c name = get id_cmp c.tokens name

-- the tokens that are kept are those that the client accepted
abbrev pub Accepted : Created → Log → Type 0
Accepted c log = (name : Id) → token_held c name ≡ token_of name log
