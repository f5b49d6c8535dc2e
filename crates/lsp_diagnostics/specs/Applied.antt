-- Which documents a server has after the messages of its client (LSP 3.17, "Text Document Synchronization"), where
-- content was skipped too.
use Rattle.std.specs.Prelude.{◌≡◌, ◌⊎◌, ℕ, List, [], ◌∷◌, ◌++◌, Option, Some, MatchOption, Result, IfErr, codes}
use Rattle.lsp_acts.specs.Acts.{Act}
use Rattle.lsp_acts.specs.Answering.{error_type, log_method, logs_error, message_params}
use Rattle.lsp_documents.specs.Heard.{Answers}
use Rattle.lsp_documents.specs.Held.{documents_of}
use Rattle.lsp_documents.specs.Methods.{method_named}
use Rattle.lsp_documents.specs.Notices.{MissesAll}
use Rattle.lsp_documents.specs.Sessions.{HasNone}
use Rattle.lsp_documents.specs.declared.documents.TextDocuments.{TextDocuments}
use Rattle.lsp_documents.specs.declared.fault.DocumentFault.TheVariants.{Memory}
use Rattle.lsp_documents.specs.declared.fault.DocumentUpdate.{DocumentUpdate}
use Rattle.lsp_documents.specs.declared.fault.UpdateFault.{UpdateFault}
use Rattle.lsp_message.specs.Message.{Message, notification}
use Rattle.lsp_session.specs.Session.{Exchange, offered}
use Rattle.lsp_session.specs.SessionLaws.{EndsWithResult}

-- A notification of a document makes of the documents what it says, if that can be made. No text is lost for want of
-- memory, since that ends the session. No other message changes the documents.
abbrev pub Applies : TextDocuments → Option Message → TextDocuments → Type 0
Applies before (Some (notification method params)) now = MatchOption (method_named method) (now ≡ before)
    (λ m. (heard : Result DocumentUpdate UpdateFault) × Answers m before params heard now
    × IfErr heard (λ missed. missed.fault ≡ Memory → ⊥))
Applies before came now = now ≡ before

-- The server may take each text for lost, since content was skipped. It does so only if the client is told, as `Told`
-- says.
abbrev pub Loses : TextDocuments → Type 0 → TextDocuments → Type 0
Loses before Told now = (now ≡ before) ⊎ (MissesAll (documents_of before) (documents_of now) × Told)

-- The server receives a message or a wake-up. It may lose the texts first. Then the documents become what the message
-- makes of them.
pub record Hears (before : TextDocuments) (came : Option Message) (Told : Type 0) (now : TextDocuments)
    : Type 0 where
  pub left : TextDocuments
  pub loses : Loses before Told left
  pub applies : Applies left came now

-- what the client's log says if each text is lost
abbrev pub all_lost : List ℕ
all_lost = codes "content was skipped that is no message: no text is known"

-- the first of these acts logs this as an error
abbrev pub LogsLost : {P : Type 0} → List (Act P) → Type 0
LogsLost {P} acts = (rest : List (Act P)) × (acts ≡ logs_error all_lost ∷ rest)

-- the first of these messages does
abbrev pub SendsLost : List Message → Type 0
SendsLost sent = (rest : List Message)
    × (sent ≡ notification log_method (message_params error_type all_lost) ∷ rest)

-- exchanges, one after another
abbrev pub HearsAll : TextDocuments → List Exchange → TextDocuments → Type 0
HearsAll before [] now = now ≡ before
HearsAll before (x ∷ rest) now =
    (next : TextDocuments) × Hears before x.came (SendsLost (offered x)) next × HearsAll next rest now

-- The server has these documents after these exchanges. No document was open at the result of `initialize`, and the
-- client's notifications since made these. All texts were lost before a message only if the server logged that at the
-- client, at this message and before it sent anything else there.
pub record Opened (exchanges : List Exchange) (documents : TextDocuments) : Type 0 where
  pub early : List Exchange
  pub later : List Exchange
  pub cut : exchanges ≡ early ++ later
  pub result : EndsWithResult early
  pub first : TextDocuments
  pub none : HasNone first
  pub made : HearsAll first later documents
