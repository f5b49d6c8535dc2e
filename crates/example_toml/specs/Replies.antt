-- The replies that the server sends at once.
use Rattle.serde_json.specs.Data.{Data, null, string}
use Rattle.std.specs.Prelude.{◌≡◌, ◌⊎◌, ℕ, true, false, List, [], ◌∷◌, Option, None, Some, option_and_then, Err}
use Rattle.std.specs.Prelude.{Ok, codes}
use Rattle.lsp_acts.specs.Acts.{Act, replies}
use Rattle.lsp_documents.specs.Held.{texts_of}
use Rattle.lsp_documents.specs.Params.{uri_from}
use Rattle.lsp_documents.specs.declared.documents.TextDocuments.{TextDocuments}
use Rattle.lsp_jobs.specs.Ends.{Outcome}
use Rattle.lsp_message.specs.Converted.{IsFault, method_not_found}
use Rattle.lsp_message.specs.Id.{Id}
use Rattle.lsp_message.specs.Message.{ErrorObject}
use Rattle.lsp_message.specs.declared.msg.code.ErrorCode.TheVariants.{InvalidParams}
use Rattle.lsp_text.specs.Documents.{Document}
use Rattle.lsp_types.specs.Reads.{is_named}
use Rattle.lsp_types.specs.declared.symbols.WorkspaceSymbol.{WorkspaceSymbol}
use Rattle.toml_features.specs.Places.{known_at}
use Rattle.example_toml.specs.Jobs.{search_method}
use Rattle.example_toml.specs.Searches.{AnswersOrRefuses}
use Rattle.example_toml.specs.declared.server.TomlServer.{TomlServer}

-- the methods of LSP that ask something about one document
abbrev pub document_methods : List (List ℕ)
document_methods = codes "textDocument/hover" ∷ codes "textDocument/documentSymbol"
    ∷ codes "textDocument/completion" ∷ codes "textDocument/definition" ∷ codes "textDocument/formatting"
    ∷ codes "textDocument/semanticTokens/full" ∷ codes "textDocument/foldingRange" ∷ []

-- the method that asks for a text as the server holds it
abbrev pub text_method : List ℕ
text_method = codes "toml/text"

-- all methods that the server has
abbrev pub methods : List (List ℕ)
methods = text_method ∷ search_method ∷ document_methods

-- the document that params name, if its text is known
abbrev pub document_for : TextDocuments → Data → Option Document
document_for documents params = option_and_then (known_at documents) (uri_from params)

-- a text as it is written, or null
abbrev pub text_or_null : Option Document → Data
text_or_null None = null
text_or_null (Some document) = string document.text.bytes

abbrev pub text_for : TextDocuments → Data → Data
text_for documents params = text_or_null (document_for documents params)

-- Nothing changes. If the text of the document of this URI is not known, nothing is found.
abbrev pub FindsAt : {R : Type 0} → List ℕ → TomlServer → Option R → TomlServer → Type 0
FindsAt uri old found new = (new ≡ old) × (known_at old.texts.documents uri ≡ None → found ≡ None)

module _ {P : Type 0} where
  -- the reply is null, or the error for params that do not fit
  abbrev pub IsNullOrRefusal : Id → List (Act P) → Type 0
  IsNullOrRefusal id acts = (acts ≡ replies id (Ok null) ∷ [])
      ⊎ ((error : ErrorObject) × IsFault InvalidParams error × (acts ≡ replies id (Err error) ∷ []))

  -- A request about a document whose text is not known gets null, or is refused.
  abbrev pub RepliesNull : TextDocuments → Id → List ℕ → Data → List (Act P) → Type 0
  RepliesNull documents id method params acts = is_named document_methods method ≡ true → (uri : List ℕ)
      → uri_from params ≡ Some uri → known_at documents uri ≡ None → IsNullOrRefusal id acts

  -- A request for a text gets it as the server holds it.
  abbrev pub RepliesText : TextDocuments → Id → List ℕ → Data → List (Act P) → Type 0
  RepliesText documents id method params acts =
      method ≡ text_method → acts ≡ replies id (Ok (text_for documents params)) ∷ []

  -- A search is answered from the open texts. `written` is how symbols are written.
  abbrev pub RepliesFound : (WorkspaceSymbol → Data) → TextDocuments → Id → List ℕ → Data → List (Act P) → Type 0
  RepliesFound written documents id method params acts =
      method ≡ search_method → (outcome : Outcome) × (acts ≡ replies id outcome ∷ [])
      × AnswersOrRefuses written (texts_of documents) params outcome

  -- A request of another method gets an error.
  abbrev pub RefusesOthers : Id → List ℕ → List (Act P) → Type 0
  RefusesOthers id method acts =
      is_named methods method ≡ false → acts ≡ replies id (Err method_not_found) ∷ []

  -- all of these
  pub record AnswersAtOnce (written : WorkspaceSymbol → Data) (documents : TextDocuments) (id : Id) (method : List ℕ)
      (params : Data) (acts : List (Act P)) : Type 0 where
    pub unknown : RepliesNull documents id method params acts
    pub text : RepliesText documents id method params acts
    pub search : RepliesFound written documents id method params acts
    pub other : RefusesOthers id method acts
