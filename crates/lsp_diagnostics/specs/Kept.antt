-- What a server with jobs states of the documents that it keeps.
use Rattle.serde_json.specs.Data.{Data}
use Rattle.std.specs.Prelude.{◌≡◌, ℕ, List, [], ◌∷◌, Some}
use Rattle.lsp_acts.specs.Acts.{Act, replies}
use Rattle.lsp_acts.specs.declared.server.Server.{Ghosts as Plain}
use Rattle.lsp_documents.specs.Sessions.{HasNone}
use Rattle.lsp_documents.specs.declared.documents.TextDocuments.{TextDocuments}
use Rattle.lsp_jobs.specs.Ends.{Outcome}
use Rattle.lsp_jobs.specs.Stated.{StatedJobs}
use Rattle.lsp_jobs.specs.declared.job_server.JobCommand.{JobCommand}
use Rattle.lsp_jobs.specs.declared.job_server.JobEnd.{JobEnd}
use Rattle.lsp_jobs.specs.declared.names.JobName.{JobName}
use Rattle.lsp_message.specs.Id.{Id}
use Rattle.lsp_message.specs.Message.{notification}
use Rattle.lsp_diagnostics.specs.Applied.{Hears, LogsLost, Loses}

-- No document is open after `initialize`. Each notification changes the documents as LSP says. They are lost only if
-- the first act logs that. Nothing else changes them.
pub record KeepsTexts {S J F P : Type 0} (documents : S → TextDocuments) (plain : Plain S P)
    (may : StatedJobs S J F P) : Type 0 where
  pub initializes : (old : S) (params : Data) (outcome : Outcome) (new : S)
      → plain.initialize_post old params outcome new → HasNone (documents new)
  pub begins : (old : S) (acts : List (Act P)) (new : S) → plain.initialized_post old acts new
      → Loses (documents old) (LogsLost acts) (documents new)
  pub requested : (old : S) (id : Id) (method : List ℕ) (params : Data) (acts : List (Act P)) (new : S)
      → plain.request_post old id method params acts new → Loses (documents old) (LogsLost acts) (documents new)
  pub notified : (old : S) (method : List ℕ) (params : Data) (acts : List (Act P)) (new : S)
      → plain.notification_post old method params acts new
      → Hears (documents old) (Some (notification method params)) (LogsLost acts) (documents new)
  pub replied : (old : S) (payload : P) (outcome : Outcome) (acts : List (Act P)) (new : S)
      → plain.response_post old payload outcome acts new → Loses (documents old) (LogsLost acts) (documents new)
  pub took_back : (old : S) (payload : P) (new : S) → plain.ids_exhausted_post old payload new
      → documents new ≡ documents old
  pub commanded : (old : S) (taken : List (JobCommand J)) (new : S) → may.take_commands_post old taken new
      → documents new ≡ documents old
  pub finds : (old : S) (name : JobName) (found : F) (acts : List (Act P)) (new : S)
      → may.found_post old name found acts new → documents new ≡ documents old
  pub ends : (old : S) (name : JobName) (end : JobEnd) (acts : List (Act P)) (new : S)
      → may.ended_post old name end acts new → documents new ≡ documents old

-- none of these acts is a reply
abbrev pub HasNoReply : {P : Type 0} → List (Act P) → Type 0
HasNoReply [] = Unit {0}
HasNoReply (replies id outcome ∷ acts) = ⊥
HasNoReply (act ∷ acts) = HasNoReply acts

-- the server answers no request as it is notified that a job ended
pub record SendsNoReply {S J F P : Type 0} (may : StatedJobs S J F P) : Type 0 where
  pub found : (old : S) (name : JobName) (found : F) (acts : List (Act P)) (new : S)
      → may.found_post old name found acts new → HasNoReply acts
  pub ended : (old : S) (name : JobName) (end : JobEnd) (acts : List (Act P)) (new : S)
      → may.ended_post old name end acts new → HasNoReply acts
