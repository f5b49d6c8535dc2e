-- What the laws of the libraries want of the server and its jobs.
use Rattle.serde_json.specs.Data.{Data}
use Rattle.std.proofs.Common.{◌≡◌, ◌∙◌, refl, sym, ap, subst, inl, inr, ℕ, ℤ, true, false, List, [], ◌∷◌, ◌++◌}
use Rattle.std.proofs.Common.{Option, Some, None, map, string_bytes}
use Rattle.std.specs.Arc.{arc_value}
use Rattle.std.specs.Prelude.{IsSomeAnd, Ok}
use Rattle.std.specs.Str.{bytes_eq}
use Rattle.lsp_acts.specs.Acts.{Act}
use Rattle.lsp_diagnostics.specs.Applied.{Applies, Hears, LogsLost, Loses}
use Rattle.lsp_diagnostics.specs.Followed.{LogsAndClears, shows}
use Rattle.lsp_diagnostics.specs.Kept.{HasNoReply}
use Rattle.lsp_diagnostics.specs.Shown.{shows_method}
use Rattle.lsp_diagnostics.specs.declared.findings.Findings.{Findings}
use Rattle.lsp_documents.specs.Held.{documents_of, texts_of}
use Rattle.lsp_documents.specs.Known.{copied}
use Rattle.lsp_documents.specs.Notices.{Documents}
use Rattle.lsp_documents.specs.declared.documents.TextDocuments.{TextDocuments}
use Rattle.lsp_documents.specs.declared.known.DocumentSnapshot.{DocumentSnapshot}
use Rattle.lsp_jobs.specs.Ends.{Outcome}
use Rattle.lsp_jobs.specs.Progress.{progress_method}
use Rattle.lsp_message.specs.Message.{notification}
use Rattle.lsp_text.specs.Lines.{LinedText}
use Rattle.lsp_text.specs.declared.position.PositionEncoding.{PositionEncoding}
use Rattle.lsp_types.specs.contracts.diagnostics.DiagnosticToJson.TheImpl as diagnostic
use Rattle.lsp_types.specs.declared.symbols.WorkspaceSymbol.{WorkspaceSymbol}
use Rattle.example_toml.specs.Jobs.{AnswersRequest, EndsSo, IsFor, Searches, search_method, source_of}
use Rattle.example_toml.specs.Problems.{AreMarksOf, AreProblems}
use Rattle.example_toml.specs.Reactions.{Follows, LosesTexts, MayLoseThen, documents_in}
use Rattle.example_toml.specs.Searches.{FindsSymbols, word_in}
use Rattle.example_toml.specs.declared.server.TomlServer.{TomlServer}
use Rattle.example_toml.specs.declared.work.Work.{Work}
use Rattle.example_toml.specs.declared.work.Work.TheVariants.{Check, Search}

abbrev Acts : Type 0
Acts = List (Act (Unit {0}))

-- What is logged first of the acts for lost texts is logged first of all.
logs_first : (documents : Documents) (lost rest acts : Acts) → acts ≡ lost ++ rest → LogsAndClears documents lost
    → LogsLost acts
logs_first documents lost rest acts are logs = (logs.0 ++ rest, are ∙ ap (λ (l : Acts). l ++ rest) logs.1)

may_lose : (old left : TomlServer) (lost rest acts : Acts) → acts ≡ lost ++ rest → LosesTexts old lost left
    → Loses (documents_in old) (LogsLost acts) (documents_in left)
may_lose old left lost rest acts are first = elim first.loses [
  | inl kept ↦ inl (ap documents_in kept.0)
  | inr gone ↦ inr (gone.0, logs_first (documents_of (documents_in left)) lost rest acts are gone.1)
]

-- nothing changes
pub unchanged : (old new : TomlServer) → new ≡ old → Follows old new
unchanged old new same = subst (Follows old) (sym same) (λ base before. before)

module _ (old new : TomlServer) (acts : Acts) where
  module _ (Answers : TomlServer → Acts → Type 0) where
    -- a request
    pub requested : MayLoseThen old acts (λ left rest. (new ≡ left) × Answers left rest)
        → Loses (documents_in old) (LogsLost acts) (documents_in new)
    requested it = subst (λ (server : TomlServer). Loses (documents_in old) (LogsLost acts) (documents_in server))
        (sym it.after.0) (may_lose old it.left it.lost it.rest acts it.are it.first)

    pub requested_follows : MayLoseThen old acts (λ left rest. (new ≡ left) × Answers left rest) → Follows old new
    requested_follows it = subst (Follows old) (sym it.after.0) it.first.follow

  module _ (Sends : Acts → Type 0) where
    -- a notification
    pub notified : (method : List ℕ) (params : Data) → MayLoseThen old acts (λ left rest.
        Applies (documents_in left) (Some (notification method params)) (documents_in new) × Follows left new
        × Sends rest)
        → Hears (documents_in old) (Some (notification method params)) (LogsLost acts) (documents_in new)
    notified method params it = record {
      left = documents_in it.left;
      loses = may_lose old it.left it.lost it.rest acts it.are it.first;
      applies = it.after.0;
    }

    pub notified_follows : (method : List ℕ) (params : Data) → MayLoseThen old acts (λ left rest.
        Applies (documents_in left) (Some (notification method params)) (documents_in new) × Follows left new
        × Sends rest) → Follows old new
    notified_follows method params it = λ base before. it.after.1 base (it.first.follow base before)

    -- a reply
    pub replied : MayLoseThen old acts (λ left rest.
        (documents_in new ≡ documents_in left) × Follows left new × Sends rest)
        → Loses (documents_in old) (LogsLost acts) (documents_in new)
    replied it = subst (λ (documents : TextDocuments). Loses (documents_in old) (LogsLost acts) documents)
        (sym it.after.0) (may_lose old it.left it.lost it.rest acts it.are it.first)

    pub replied_follows : MayLoseThen old acts (λ left rest.
        (documents_in new ≡ documents_in left) × Follows left new × Sends rest) → Follows old new
    replied_follows it = λ base before. it.after.1 base (it.first.follow base before)

-- ---- the jobs

pub no_source : (work : Work) (params : Data) → IsFor work params → source_of work ≡ None
no_source (Check check) params never = absurd never
no_source (Search job) params is = refl

pub runs : (written : WorkspaceSymbol → Data) (work : Work) (reply : Option Outcome) (found : Findings)
    → EndsSo written work reply (Some found)
    → (source_of work ≡ Some found.source)
    × AreProblems diagnostic.ghosts.stands (arc_value found.source.text)
    (map diagnostic.ghosts.stands found.diagnostics.items)
runs written (Check check) reply found is = (
  ap Some (sym is.0),
  (
    check.options.encoding,
    found.diagnostics.items,
    refl,
    subst (λ (s : DocumentSnapshot). AreMarksOf check.options.encoding (arc_value s.text) found.diagnostics.items)
        (sym is.0) is.1.are,
  ),
)
runs written (Search job) reply found is = absurd (cc (is.0))

-- the progress of a search shows no diagnostics
pub shows_none : {A : Type 0} → shows_method ≡ progress_method → A
shows_none is = let wrong : false ≡ true = ap (λ (m : List ℕ). bytes_eq m progress_method) is in absurd (cc (wrong))

replies_so : (written : WorkspaceSymbol → Data) (texts held : List (List ℕ × LinedText)) (params : Data)
    (encoding : PositionEncoding) (word method : List ℕ) (reply : Option Outcome) → method ≡ search_method
    → held ≡ texts → word_in params ≡ Some word
    → IsSomeAnd reply (λ outcome. (tree : Data) × (outcome ≡ Ok tree) × FindsSymbols written encoding word held tree)
    → IsSomeAnd reply (AnswersRequest written texts method params)
replies_so written texts held params encoding word method (Some outcome) is same asked found = (
  is,
  (
    encoding,
    word,
    found.0,
    asked,
    found.1,
    subst (λ (t : List (List ℕ × LinedText)). FindsSymbols written encoding word t found.0) same found.2,
  ),
)
replies_so written texts held params encoding word method None is same asked found = absurd found

pub answers_so : (written : WorkspaceSymbol → Data) (documents : TextDocuments) (method : List ℕ) (params : Data)
    (work : Work) (reply : Option Outcome) (found : Option Findings) → method ≡ search_method
    → Searches documents work → IsFor work params → EndsSo written work reply found
    → IsSomeAnd reply (AnswersRequest written (texts_of documents) method params)
answers_so written documents method params (Check check) reply found is searches asked ends = absurd searches
answers_so written documents method params (Search job) reply found is searches asked ends =
    replies_so written (texts_of documents) (copied job.sources.items) params job.encoding
    (string_bytes job.query) method reply is searches.0 asked ends.1

-- what shows diagnostics is no reply
pub shows_no_reply : (uri : List ℕ) (version : Option ℤ) (diagnostics : List Data) (acts : Acts)
    → acts ≡ shows uri version diagnostics ∷ [] → HasNoReply acts
shows_no_reply uri version diagnostics acts is = subst (λ (l : Acts). HasNoReply l) (sym is) tt

pub none_no_reply : (acts : Acts) → acts ≡ [] → HasNoReply acts
none_no_reply acts none = subst (λ (l : Acts). HasNoReply l) (sym none) tt
