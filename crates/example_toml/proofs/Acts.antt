-- What the server sends by itself, and what it makes of its texts.
use Rattle.serde_json.specs.Data.{Data}
use Rattle.std.proofs.Common.{◌≡◌, ◌⊎◌, ◌∙◌, refl, inl, inr, sym, ap, subst, ℕ, List, [], ◌∷◌, ◌++◌, Result, Ok, Err}
use Rattle.std.proofs.Common.{Vec, Global, Option, Some, codes, map}
use Rattle.std.proofs.lemmas.List.{map-append}
use Rattle.std.proofs.lemmas.List.Elements.{All-nil, All-push}
use Rattle.std.specs.List.{All}
use Rattle.std.specs.Prelude.{IfOk, OnOk}
use Rattle.lsp_acts.specs.Acts.{Act}
use Rattle.lsp_acts.specs.declared.server.Act as rust
use Rattle.lsp_diagnostics.specs.Applied.{Applies}
use Rattle.lsp_diagnostics.specs.Followed.{Clears, Follow, LogsAndClears, LogsOrClears}
use Rattle.lsp_documents.specs.Held.{documents_of}
use Rattle.lsp_documents.specs.Notices.{MissesAll}
use Rattle.lsp_documents.specs.declared.documents.TextDocuments.{TextDocuments}
use Rattle.lsp_jobs.specs.declared.job_server.JobCommand.{JobCommand}
use Rattle.lsp_message.specs.Message.{notification}
use Rattle.example_toml.specs.Jobs.{source_of}
use Rattle.example_toml.specs.Reactions.{Follows, LosesTexts, MayLoseThen, RequestsSettings, SendsOnly, act_seen}
use Rattle.example_toml.specs.Reactions.{commands_in, documents_in}
use Rattle.example_toml.specs.declared.server.TomlServer.{TomlServer}
use Rattle.example_toml.specs.declared.work.Work.{Work}

abbrev Sent : TextDocuments → Act (Unit {0}) → Type 0
Sent documents act = LogsOrClears (documents_of documents) act ⊎ RequestsSettings act

pub requests_only : (acts : List (rust.Act (Unit {0}))) (act : rust.Act (Unit {0})) → acts ≡ act ∷ []
    → RequestsSettings (act_seen act) → All RequestsSettings (map act_seen acts)
requests_only acts act is asks =
    subst (λ (l : List (rust.Act (Unit {0}))). All RequestsSettings (map act_seen l)) (sym is)
    (All-push RequestsSettings [] (act_seen act) (All-nil RequestsSettings) asks)

pub requests : (documents : TextDocuments) (acts : List (rust.Act (Unit {0}))) (act : rust.Act (Unit {0}))
    → acts ≡ act ∷ [] → RequestsSettings (act_seen act) → SendsOnly documents (map act_seen acts)
requests documents acts act is asks = λ k d below. inr (requests_only acts act is asks k d below)

pub nothing : (documents : TextDocuments) (acts : List (rust.Act (Unit {0}))) → acts ≡ []
    → SendsOnly documents (map act_seen acts)
nothing documents acts none =
    subst (λ (l : List (rust.Act (Unit {0}))). All (Sent documents) (map act_seen l)) (sym none)
    (All-nil (Sent documents))

-- the texts stay
pub stays : (old new : TomlServer) → documents_in new ≡ documents_in old → commands_in new ≡ commands_in old
    → Follows old new
stays old new documents commands = λ base before.
    subst (λ (it : TextDocuments). Follow source_of base (commands_in new) (documents_of it)) (sym documents)
    (subst (λ (it : List (JobCommand Work)). Follow source_of base it (documents_of (documents_in old)))
    (sym commands) before)

-- a notification about the settings changes no document
pub no_document : (old new : TextDocuments) (method : List ℕ) (params : Data)
    → method ≡ codes "workspace/didChangeConfiguration" → new ≡ old
    → Applies old (Some (notification method params)) new
no_document old new method params is same =
    subst (λ (name : List ℕ). Applies old (Some (notification name params)) new) (sym is) same

-- nothing is lost
pub loses_none : (server : TomlServer) (acts : List (rust.Act (Unit {0}))) → acts ≡ []
    → LosesTexts server (map act_seen acts) server
loses_none server acts none = record {
  loses = inl (refl, ap (map act_seen) none);
  settings = refl;
  follow = stays server server refl refl;
}

-- the acts for lost texts, and then others
pub then_does : (old left : TomlServer) (lost more all : List (rust.Act (Unit {0})))
    (Then : TomlServer → List (Act (Unit {0})) → Type 0) → LosesTexts old (map act_seen lost) left
    → all ≡ lost ++ more → Then left (map act_seen more) → MayLoseThen old (map act_seen all) Then
then_does old left lost more all Then loses are after = record {
  left = left;
  lost = map act_seen lost;
  rest = map act_seen more;
  are = ap (map act_seen) are ∙ map-append act_seen lost more;
  first = loses;
  after = after;
}

module _ {E : Type 0} where
  -- what the documents do for a notification
  pub sent_by : (result : Result (Vec (rust.Act (Unit {0})) Global) E) (documents : TextDocuments)
      → IfOk result (λ acts. All (LogsOrClears (documents_of documents)) (map act_seen acts.items))
      → IfOk result (λ acts. SendsOnly documents (map act_seen acts.items))
  sent_by (Ok acts) documents all = λ k d below. inl (all k d below)
  sent_by (Err fault) documents all = tt

  -- what they do as the settings change
  pub cleared_by : (result : Result (Vec (rust.Act (Unit {0})) Global) E) (documents : TextDocuments)
      → IfOk result (λ acts. All (Clears (documents_of documents)) (map act_seen acts.items))
      → IfOk result (λ acts. SendsOnly documents (map act_seen acts.items))
  cleared_by (Ok acts) documents all = λ k d below. inl (inr (all k d below))
  cleared_by (Err fault) documents all = tt

  -- what they do as all texts are lost
  pub lost_by : (result : Result (Vec (rust.Act (Unit {0})) Global) E) (old new : TomlServer)
      → MissesAll (documents_of old.texts.documents) (documents_of new.texts.documents)
      → OnOk result (Follows old new) → new ≡ record old { texts = new.texts }
      → IfOk result (λ acts. LogsAndClears (documents_of new.texts.documents) (map act_seen acts.items))
      → IfOk result (λ acts. LosesTexts old (map act_seen acts.items) new)
  lost_by (Ok acts) old new misses follow settings logs =
      record { loses = inr (misses, logs); settings = settings; follow = follow }
  lost_by (Err fault) old new misses follow settings logs = tt

  -- what they do for a notification about the settings
  pub applies_none : {T : Type 0} (result : Result T E) (old new : TextDocuments) (method : List ℕ) (params : Data)
      → method ≡ codes "workspace/didChangeConfiguration" → new ≡ old
      → OnOk result (Applies old (Some (notification method params)) new)
  applies_none (Ok acts) old new method params is same = no_document old new method params is same
  applies_none (Err fault) old new method params is same = tt

  pub follow_by : {T : Type 0} (result : Result T E) (old new : TomlServer) → Follows old new
      → OnOk result (Follows old new)
  follow_by (Ok acts) old new follow = follow
  follow_by (Err fault) old new follow = tt

  -- what asks for the settings
  pub requested_by : (result : Result (Vec (rust.Act (Unit {0})) Global) E) (documents : TextDocuments)
      (act : rust.Act (Unit {0})) → IfOk result (λ acts. acts.items ≡ act ∷ []) → RequestsSettings (act_seen act)
      → IfOk result (λ acts. SendsOnly documents (map act_seen acts.items))
  requested_by (Ok acts) documents act is asks = requests documents acts.items act is asks
  requested_by (Err fault) documents act is asks = tt
