-- Which diagnostics the client gets: those of the texts that are open.
use Rattle.serde_json.specs.Data.{Data}
use Rattle.std.specs.Arc.{arc_value}
use Rattle.std.specs.Prelude.{◌≡◌, ℕ, List, [], ◌∷◌, ◌++◌, Option, Some, None, map, string_bytes, codes}
use Rattle.lsp_acts.specs.Acts.{Act, tells}
use Rattle.lsp_acts.specs.declared.server.Server.{Ghosts as Plain}
use Rattle.lsp_documents.specs.Held.{documents_of}
use Rattle.lsp_documents.specs.Notices.{Documents}
use Rattle.lsp_documents.specs.declared.documents.TextDocuments.{TextDocuments}
use Rattle.lsp_documents.specs.declared.known.DocumentSnapshot.{DocumentSnapshot}
use Rattle.lsp_jobs.specs.Ends.{Outcome}
use Rattle.lsp_jobs.specs.Stated.{StatedJobs}
use Rattle.lsp_jobs.specs.declared.job_server.JobCommand.{JobCommand}
use Rattle.lsp_jobs.specs.declared.job_server.JobEnd.{JobEnd}
use Rattle.lsp_jobs.specs.declared.names.JobName.{JobName}
use Rattle.lsp_message.specs.Id.{Id}
use Rattle.lsp_message.specs.Message.{Message, notification}
use Rattle.lsp_session.specs.Session.{Exchange, offered}
use Rattle.lsp_text.specs.Documents.{Document}
use Rattle.lsp_text.specs.Lines.{LinedText}
use Rattle.lsp_types.specs.declared.diagnostics.Diagnostic.{Diagnostic}
use Rattle.lsp_diagnostics.specs.Applied.{Opened}
use Rattle.lsp_diagnostics.specs.Followed.{FollowOn, known, shows}
use Rattle.lsp_diagnostics.specs.Kept.{KeepsTexts}
use Rattle.lsp_diagnostics.specs.declared.findings.Findings.{Findings}

-- the method of the notification that shows diagnostics
abbrev pub shows_method : List ℕ
shows_method = codes "textDocument/publishDiagnostics"

-- The acts show what was found, with the URI and the version of the text, as these diagnostics are written.
abbrev pub Shows : {P : Type 0} → (Diagnostic → Data) → Findings → List (Act P) → Type 0
Shows written found acts = acts
    ≡ shows (string_bytes found.source.uri) found.source.version (map written found.diagnostics.items) ∷ []

-- `are` says which diagnostics a text may have.
module _ (are : LinedText → List Data → Type 0) where
  -- This shows diagnostics of a text that the server holds, with its URI and its version.
  pub record ShowsHeld {P : Type 0} (documents : Documents) (act : Act P) : Type 0 where
    pub uri : List ℕ
    pub document : Document
    pub held : known documents uri ≡ Some document
    pub diagnostics : List Data
    pub are_its : are document.text diagnostics
    pub shown : act ≡ shows uri document.version diagnostics

  -- These params show diagnostics of a text that is open after these exchanges, with its URI and its version.
  pub record ShowsOpen (earlier : List Exchange) (params : Data) : Type 0 where
    pub documents : TextDocuments
    pub opened : Opened earlier documents
    pub shown : ShowsHeld {P = Unit {0}} (documents_of documents) (tells shows_method params)

  -- So does each such notification that is sent at a wake-up.
  abbrev pub ShowsOpenTexts : List Exchange → Type 0
  ShowsOpenTexts exchanges =
      (earlier later : List Exchange) (x : Exchange) (before after : List Message) (params : Data)
      → exchanges ≡ earlier ++ x ∷ later → x.came ≡ None
      → offered x ≡ before ++ notification shows_method params ∷ after → ShowsOpen earlier params

-- Where a server keeps its documents, and the commands that are to be taken.
module _ {S J : Type 0} (documents : S → TextDocuments) (commands : S → List (JobCommand J)) where
  -- The commands follow the documents, as `FollowOn` says.
  abbrev pub FollowsIn : (J → Option DocumentSnapshot) → S → S → Type 0
  FollowsIn source old new = FollowOn source (commands old) (documents_of (documents old)) (commands new)
      (documents_of (documents new))

  -- What a server and its jobs state. `written` is how diagnostics are written.
  pub record ShowsFindings {P : Type 0} (written : Diagnostic → Data) (are : LinedText → List Data → Type 0)
      (source : J → Option DocumentSnapshot) (plain : Plain S P) (may : StatedJobs S J Findings P) : Type 0 where
    pub keeps : KeepsTexts documents plain may
    pub initializes : (old : S) (params : Data) (outcome : Outcome) (new : S)
        → plain.initialize_post old params outcome new → commands new ≡ commands old
    pub begins : (old : S) (acts : List (Act P)) (new : S) → plain.initialized_post old acts new
        → FollowsIn source old new
    pub requested : (old : S) (id : Id) (method : List ℕ) (params : Data) (acts : List (Act P)) (new : S)
        → plain.request_post old id method params acts new → FollowsIn source old new
    pub notified : (old : S) (method : List ℕ) (params : Data) (acts : List (Act P)) (new : S)
        → plain.notification_post old method params acts new → FollowsIn source old new
    pub replied : (old : S) (payload : P) (outcome : Outcome) (acts : List (Act P)) (new : S)
        → plain.response_post old payload outcome acts new → FollowsIn source old new
    pub took_back : (old : S) (payload : P) (new : S) → plain.ids_exhausted_post old payload new
        → commands new ≡ commands old
    pub commanded : (old : S) (taken : List (JobCommand J)) (new : S) → may.take_commands_post old taken new
        → (taken ≡ commands old) × (commands new ≡ [])
    pub finds : (old : S) (name : JobName) (found : Findings) (acts : List (Act P)) (new : S)
        → may.found_post old name found acts new → Shows written found acts × (commands new ≡ commands old)
    pub ends : (old : S) (name : JobName) (end : JobEnd) (acts : List (Act P)) (new : S)
        → may.ended_post old name end acts new → (acts ≡ []) × (commands new ≡ commands old)
    pub answers : (job : J) (method : List ℕ) (params : Data) → may.is_for job method params → source job ≡ None
    pub runs : (job : J) (reply : Option Outcome) (found : Findings) → may.run_post job reply (Some found)
        → (source job ≡ Some found.source) × are (arc_value found.source.text) (map written found.diagnostics.items)
    pub reports : (job : J) (params : Data) → may.reports job shows_method params → ⊥
