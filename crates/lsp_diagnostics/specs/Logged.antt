-- What the client's log says of a notification of a document (LSP 3.17, "LogMessage Notification").
use Rattle.serde_json.specs.Data.{Data}
use Rattle.std.specs.List.{All}
use Rattle.std.specs.Prelude.{◌≡◌, ◌⊎◌, ℕ, false, List, [], ◌∷◌, ◌++◌, Option, Some, None, Result, Ok, Err}
use Rattle.std.specs.Prelude.{IfSome, IsSomeAnd, MatchOption}
use Rattle.lsp_acts.specs.Acts.{Act, tells}
use Rattle.lsp_acts.specs.Answering.{error_type, log_method, message_params}
use Rattle.lsp_documents.specs.Fault.{update_fault_text, update_text}
use Rattle.lsp_documents.specs.Heard.{Answers}
use Rattle.lsp_documents.specs.Held.{documents_of}
use Rattle.lsp_documents.specs.Methods.{method_named}
use Rattle.lsp_documents.specs.declared.documents.TextDocuments.{TextDocuments}
use Rattle.lsp_documents.specs.declared.fault.DocumentUpdate.{DocumentUpdate}
use Rattle.lsp_documents.specs.declared.fault.UpdateFault.{UpdateFault}
use Rattle.lsp_diagnostics.specs.Followed.{Clears}

-- the type of a message that is a warning (LSP 3.17, "MessageType")
abbrev pub warning_type : ℕ
warning_type = 2

module _ {P : Type 0} where
  -- the one act writes this text into the client's log, in a line of this type
  abbrev pub LogsLine : ℕ → Option (List ℕ) → List (Act P) → Type 0
  LogsLine kind text acts = (line : List ℕ) × IfSome text (λ words. line ≡ words)
      × (acts ≡ tells log_method (message_params kind line) ∷ [])

  -- The warning about a notification is logged, if there is one.
  abbrev pub LogsWarning : DocumentUpdate → List (Act P) → Type 0
  LogsWarning update acts =
      MatchOption update.warning (acts ≡ []) (λ warning. LogsLine warning_type (update_text update) acts)

  -- Why a notification was not applied is logged as an error. This may be left out, but not where a text is lost.
  abbrev pub LogsFault : UpdateFault → List (Act P) → Type 0
  LogsFault missed acts =
      LogsLine error_type (update_fault_text missed) acts ⊎ ((acts ≡ []) × (missed.lost ≡ false))

  -- what was wrong with a notification is logged
  abbrev pub LogsHeard : Option (Result DocumentUpdate UpdateFault) → List (Act P) → Type 0
  LogsHeard None acts = acts ≡ []
  LogsHeard (Some (Ok update)) acts = LogsWarning update acts
  LogsHeard (Some (Err missed)) acts = LogsFault missed acts

  -- The acts at a notification: what was wrong with it is logged, and then the diagnostics of texts that are not known
  -- are removed.
  pub record Reports (before : TextDocuments) (method : List ℕ) (params : Data) (now : TextDocuments)
      (acts : List (Act P)) : Type 0 where
    pub heard : Option (Result DocumentUpdate UpdateFault)
    pub answers : MatchOption (method_named method) ((heard ≡ None) × (now ≡ before))
        (λ m. IsSomeAnd heard (λ it. Answers m before params it now))
    pub logs : List (Act P)
    pub clears : List (Act P)
    pub are : acts ≡ logs ++ clears
    pub logged : LogsHeard heard logs
    pub cleared : All (Clears (documents_of now)) clears
