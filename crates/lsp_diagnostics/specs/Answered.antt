-- Whose texts a job's reply is about: those that were open when its request arrived.
use Rattle.serde_json.specs.Data.{Data}
use Rattle.std.specs.Prelude.{◌≡◌, ◌⊎◌, ℕ, true, List, ◌∷◌, ◌++◌, Option, None, Err, IsSomeAnd}
use Rattle.lsp_acts.specs.Acts.{canceled}
use Rattle.lsp_acts.specs.declared.server.Server.{Ghosts as Plain}
use Rattle.lsp_documents.specs.Held.{texts_of}
use Rattle.lsp_documents.specs.declared.documents.TextDocuments.{TextDocuments}
use Rattle.lsp_jobs.specs.Ends.{Outcome, no_memory}
use Rattle.lsp_jobs.specs.JobLaw.{LastRequest}
use Rattle.lsp_jobs.specs.Stated.{StatedJobs}
use Rattle.lsp_message.specs.Id.{Id}
use Rattle.lsp_message.specs.Message.{Message, response}
use Rattle.lsp_session.specs.Session.{Exchange, offered}
use Rattle.lsp_text.specs.Lines.{LinedText}
use Rattle.lsp_diagnostics.specs.Applied.{Opened}
use Rattle.lsp_diagnostics.specs.Kept.{KeepsTexts, SendsNoReply}

-- `answers` says which outcome a request may have, by its method and params, from texts. A text stands beside its URI.
module _ (answers : List (List ℕ × LinedText) → List ℕ → Data → Outcome → Type 0) where
  -- The request has such an outcome. Or an allocation failed, or the request was cancelled.
  abbrev pub AnswersOrFails : List (List ℕ × LinedText) → List ℕ → Data → Outcome → Type 0
  AnswersOrFails texts method params outcome =
      answers texts method params outcome ⊎ ((outcome ≡ Err no_memory) ⊎ (outcome ≡ Err canceled))

  -- This is the reply to the last request under the id, from the texts that were open when the request arrived.
  pub record AnswersLast (earlier : List Exchange) (id : Id) (outcome : Outcome) : Type 0 where
    pub method : List ℕ
    pub params : Data
    pub last : LastRequest earlier id method params
    pub documents : TextDocuments
    pub opened : Opened last.before documents
    pub answered : AnswersOrFails (texts_of documents) method params outcome

  -- So is each reply that is sent at a wake-up.
  abbrev pub AnswersFromOpenTexts : List Exchange → Type 0
  AnswersFromOpenTexts exchanges =
      (earlier later : List Exchange) (x : Exchange) (before after : List Message) (id : Id) (outcome : Outcome)
      → exchanges ≡ earlier ++ x ∷ later → x.came ≡ None → offered x ≡ before ++ response id outcome ∷ after
      → AnswersLast earlier id outcome

-- What a server and its jobs state. The server keeps its documents where `documents` says.
pub record AnswersFromTexts {S J F P : Type 0} (documents : S → TextDocuments)
    (answers : List (List ℕ × LinedText) → List ℕ → Data → Outcome → Type 0)
    (plain : Plain S P) (may : StatedJobs S J F P) : Type 0 where
  pub keeps : KeepsTexts documents plain may
  -- A job that is given for a long request has a reply, from the texts that the server holds as it gives the job.
  pub answers_so : (server : S) (id : Id) (method : List ℕ) (params : Data) (job : J) (reply : Option Outcome)
      (found : Option F) → may.is_long_post server method params true → may.job_post server id method params job
      → may.is_for job method params → may.run_post job reply found
      → IsSomeAnd reply (answers (texts_of (documents server)) method params)
  -- The server itself answers no request at the end of a job.
  pub quiet : SendsNoReply may
