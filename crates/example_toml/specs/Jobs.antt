-- What the jobs of the server are for, and what they find.
use Rattle.serde_json.specs.Data.{Data}
use Rattle.std.specs.Prelude.{◌≡◌, ℕ, List, Option, Some, None, Ok, IsSomeAnd, codes, string_bytes}
use Rattle.lsp_diagnostics.specs.declared.findings.Findings.{Findings}
use Rattle.lsp_documents.specs.Held.{texts_of}
use Rattle.lsp_documents.specs.Known.{copied}
use Rattle.lsp_documents.specs.declared.documents.TextDocuments.{TextDocuments}
use Rattle.lsp_documents.specs.declared.known.DocumentSnapshot.{DocumentSnapshot}
use Rattle.lsp_jobs.specs.Ends.{Outcome}
use Rattle.lsp_text.specs.Lines.{LinedText}
use Rattle.lsp_types.specs.declared.symbols.WorkspaceSymbol.{WorkspaceSymbol}
use Rattle.example_toml.specs.Problems.{AreOfItsText}
use Rattle.example_toml.specs.Searches.{AnswersSearch, FindsSymbols, word_in}
use Rattle.example_toml.specs.declared.work.Work.{Work}
use Rattle.example_toml.specs.declared.work.Work.TheVariants.{Check, Search}

-- the method of a search
abbrev pub search_method : List ℕ
search_method = codes "workspace/symbol"

-- the text that a job checks
abbrev pub source_of : Work → Option DocumentSnapshot
source_of (Check check) = Some check.source
source_of (Search search) = None

-- The job is the search for the word of a request. A check is for no request.
abbrev pub IsFor : Work → Data → Type 0
IsFor (Check check) params = ⊥
IsFor (Search search) params = word_in params ≡ Some (string_bytes search.query)

-- the job searches the texts of these documents, in the client's units
abbrev pub Searches : TextDocuments → Work → Type 0
Searches documents (Check check) = ⊥
Searches documents (Search search) = (copied search.sources.items ≡ texts_of documents)
    × (search.encoding ≡ documents.sync.encoding)

-- `written` is how symbols are written.
module _ (written : WorkspaceSymbol → Data) where
  -- A check finds the problems of its text for the server. A search replies with the symbols that it finds in its
  -- texts.
  abbrev pub EndsSo : Work → Option Outcome → Option Findings → Type 0
  EndsSo (Check check) reply found = IsSomeAnd found (AreOfItsText check)
  EndsSo (Search search) reply found = (found ≡ None) × IsSomeAnd reply (λ outcome. (tree : Data)
      × (outcome ≡ Ok tree)
      × FindsSymbols written search.encoding (string_bytes search.query) (copied search.sources.items) tree)

  -- a search of these texts answers the request
  abbrev pub AnswersRequest : List (List ℕ × LinedText) → List ℕ → Data → Outcome → Type 0
  AnswersRequest texts method params outcome =
      (method ≡ search_method) × AnswersSearch written texts params outcome
