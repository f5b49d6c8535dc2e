-- What the server makes of its texts at a message, and what it sends by itself.
use Rattle.std.specs.List.{All}
use Rattle.std.specs.Prelude.{◌≡◌, ◌⊎◌, List, [], ◌++◌, codes, true}
use Rattle.lsp_acts.specs.Acts.{Act}
use Rattle.lsp_acts.specs.View.{act_view}
use Rattle.lsp_acts.specs.declared.server.Act as rust
use Rattle.lsp_diagnostics.specs.Followed.{LogsAndClears, LogsOrClears}
use Rattle.lsp_diagnostics.specs.Shown.{FollowsIn}
use Rattle.lsp_documents.specs.Held.{documents_of}
use Rattle.lsp_documents.specs.Notices.{MissesAll}
use Rattle.lsp_documents.specs.declared.documents.TextDocuments.{TextDocuments}
use Rattle.lsp_jobs.specs.declared.job_server.JobCommand.{JobCommand}
use Rattle.lsp_methods.specs.Configuring.{asks_for}
use Rattle.example_toml.specs.Jobs.{source_of}
use Rattle.example_toml.specs.declared.server.TomlServer.{TomlServer}
use Rattle.example_toml.specs.declared.work.Work.{Work}

-- where the server keeps its documents, and the commands for its jobs
abbrev pub documents_in : TomlServer → TextDocuments
documents_in server = server.texts.documents

abbrev pub commands_in : TomlServer → List (JobCommand Work)
commands_in server = server.texts.commands.items

-- the checks follow the documents
abbrev pub Follows : TomlServer → TomlServer → Type 0
Follows old new = FollowsIn documents_in commands_in source_of old new

-- an act of this server, which keeps nothing with its requests
abbrev pub act_seen : rust.Act (Unit {0}) → Act (Unit {0})
act_seen act = act_view (λ kept payload. true) act

-- this requests the user's settings
abbrev pub RequestsSettings : Act (Unit {0}) → Type 0
RequestsSettings act = act ≡ asks_for (codes "toml") tt

-- All that the server sends by itself: a line of the log, the settings' request, or what removes the diagnostics of a
-- document whose text is not known.
abbrev pub SendsOnly : TextDocuments → List (Act (Unit {0})) → Type 0
SendsOnly documents acts = All (λ act. LogsOrClears (documents_of documents) act ⊎ RequestsSettings act) acts

-- Nothing is lost and nothing is sent. Or each text is lost: the first act logs that, and the others remove the
-- diagnostics. The settings stay.
pub record LosesTexts (old : TomlServer) (acts : List (Act (Unit {0}))) (new : TomlServer) : Type 0 where
  pub loses : ((new ≡ old) × (acts ≡ []))
      ⊎ (MissesAll (documents_of old.texts.documents) (documents_of new.texts.documents)
      × LogsAndClears (documents_of new.texts.documents) acts)
  pub settings : new ≡ record old { texts = new.texts }
  pub follow : Follows old new

-- The server may lose its texts first. `Then` says what it becomes and does after that.
pub record MayLoseThen (old : TomlServer) (acts : List (Act (Unit {0})))
    (Then : TomlServer → List (Act (Unit {0})) → Type 0) : Type 0 where
  pub left : TomlServer
  pub lost : List (Act (Unit {0}))
  pub rest : List (Act (Unit {0}))
  pub are : acts ≡ lost ++ rest
  pub first : LosesTexts old lost left
  pub after : Then left rest
