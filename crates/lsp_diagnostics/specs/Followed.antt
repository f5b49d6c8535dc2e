-- How the analyses of documents follow what becomes of these.
use Rattle.serde_json.specs.Data.{Data, array}
use Rattle.serde_json.specs.View.{items_of}
use Rattle.std.specs.Arc.{arc_value}
use Rattle.std.specs.List.{All}
use Rattle.std.specs.Prelude.{◌≡◌, ◌⊎◌, ℕ, ℤ, List, [], ◌∷◌, ◌++◌, Option, None, option_and_then, IsSomeAnd}
use Rattle.std.specs.Prelude.{string_bytes}
use Rattle.lsp_acts.specs.Acts.{Act, tells}
use Rattle.lsp_acts.specs.Answering.{log_method, logs_error, message_params}
use Rattle.lsp_documents.specs.Notices.{Documents, shown}
use Rattle.lsp_documents.specs.declared.known.DocumentSnapshot.{DocumentSnapshot}
use Rattle.lsp_jobs.specs.KeyedJobLaw.{LeavesAlone, StartsLast}
use Rattle.lsp_jobs.specs.declared.job_server.JobCommand.{JobCommand}
use Rattle.lsp_jobs.specs.declared.job_server.JobCommand.TheVariants.{Start, StartAfter, Stop}
use Rattle.lsp_message.specs.Id.{Id, text}
use Rattle.lsp_methods.specs.Publishing.{publishes}
use Rattle.lsp_text.specs.Documents.{Document}
use Rattle.lsp_diagnostics.specs.Applied.{all_lost}

-- the document of a URI, if its text is known
abbrev pub known : Documents → List ℕ → Option Document
known documents uri = option_and_then shown (documents.held uri)

-- the copy has the text and the version of this document
pub record IsCopyOf (copy : DocumentSnapshot) (document : Document) : Type 0 where
  pub text : arc_value copy.text ≡ document.text
  pub version : copy.version ≡ document.version

-- This takes a copy from a job, if the job analyses one.
module _ {J : Type 0} (source : J → Option DocumentSnapshot) where
  -- The job analyses the text that is held for a document. The key has the name of its URI.
  abbrev pub IsCurrent : Documents → Id → J → Type 0
  IsCurrent documents key job = IsSomeAnd (source job) (λ copy. (key ≡ text (string_bytes copy.uri))
      × IsSomeAnd (known documents (string_bytes copy.uri)) (IsCopyOf copy))

  -- The commands followed the documents, which were these before and are these now. The job that is started last under
  -- a key analyses the text that is held now. If the last command for a key stops its job, the key has the name of no
  -- document whose text is known. A key without a command has the name of none that changed.
  pub record Follow (old : Documents) (commands : List (JobCommand J)) (now : Documents) : Type 0 where
    pub started : (key : Id) (job : J) → StartsLast commands key job → IsCurrent now key job
    pub stopped : (uri : List ℕ) (before after : List (JobCommand J)) → commands ≡ before ++ Stop (text uri) ∷ after
        → LeavesAlone (text uri) after → known now uri ≡ None
    pub others : (uri : List ℕ) → LeavesAlone (text uri) commands → known now uri ≡ known old uri

  -- The commands still follow the documents, whatever these were when the commands were taken last. The commands and
  -- the documents were these before and are these now.
  abbrev pub FollowOn : List (JobCommand J) → Documents → List (JobCommand J) → Documents → Type 0
  FollowOn old before new now = (base : Documents) → Follow base old before → Follow base new now

  -- The analysis of the held text takes the place of the one before. If no text is known, none goes on.
  abbrev pub IsCommandFor : Documents → List ℕ → JobCommand J → Type 0
  IsCommandFor documents uri (Start key job) = (key ≡ text uri) × IsCurrent documents key job
  IsCommandFor documents uri (StartAfter key time job) = (key ≡ text uri) × IsCurrent documents key job
  IsCommandFor documents uri (Stop key) = (key ≡ text uri) × (known documents uri ≡ None)

  -- the same for each document
  pub record AreCommandsFor (documents : Documents) (commands : List (JobCommand J)) : Type 0 where
    pub each : All (λ command. (uri : List ℕ) × IsCommandFor documents uri command) commands
    pub all : (uri : List ℕ) → LeavesAlone (text uri) commands → documents.held uri ≡ None

module _ {P : Type 0} where
  -- what shows these diagnostics of a document
  abbrev pub shows : List ℕ → Option ℤ → List Data → Act P
  shows uri version diagnostics = publishes uri version (array (items_of diagnostics))

  -- this removes the diagnostics of a document whose text is not known
  abbrev pub Clears : Documents → Act P → Type 0
  Clears documents act = (uri : List ℕ) × (known documents uri ≡ None) × (act ≡ shows uri None [])

  -- this writes a line of some type into the client's log (LSP 3.17, "LogMessage Notification")
  abbrev pub Logs : Act P → Type 0
  Logs act = (kind : ℕ) × (line : List ℕ) × (act ≡ tells log_method (message_params kind line))

  -- one of the two
  abbrev pub LogsOrClears : Documents → Act P → Type 0
  LogsOrClears documents act = Logs act ⊎ Clears documents act

  -- The first of these acts logs that each text is lost. The others remove the diagnostics.
  abbrev pub LogsAndClears : Documents → List (Act P) → Type 0
  LogsAndClears documents acts =
      (rest : List (Act P)) × (acts ≡ logs_error all_lost ∷ rest) × All (Clears documents) rest
