-- The acts at a message whose params are read by type, and those that show something to the user.
use Rattle.serde.specs.Event.{Event}
use Rattle.serde_json.specs.Data.{Data, object, member, no_members, string, number, unsigned}
use Rattle.std.specs.Prelude.{◌≡◌, ◌++◌, ℕ, List, [], ◌∷◌, Option, codes}
use Rattle.std.specs.Prelude.{Result, Err, IfErr, MatchResult}
use Rattle.lsp_message.specs.Converted.{IsFault, IsOutcomeOf}
use Rattle.lsp_message.specs.Id.{Id}
use Rattle.lsp_message.specs.Message.{ErrorObject}
use Rattle.lsp_message.specs.View.{error_view}
use Rattle.lsp_message.specs.declared.msg.ResponseError.{ResponseError}
use Rattle.lsp_message.specs.declared.msg.code.ErrorCode.TheVariants.{InvalidParams}
use Rattle.lsp_acts.specs.Acts.{Act, tells, replies}

-- the method that shows a text to the user (LSP 3.17, "ShowMessage Notification")
abbrev pub show_method : List ℕ
show_method = codes "window/showMessage"

-- the method that writes a text into the client's log (LSP 3.17, "LogMessage Notification")
abbrev pub log_method : List ℕ
log_method = codes "window/logMessage"

-- their params, `{ "message": text, "type": kind }`
abbrev pub message_params : ℕ → List ℕ → Data
message_params kind text =
    object (member (codes "message") (string text)
    (member (codes "type") (number (unsigned kind)) no_members))

-- the type of a message that is an error (LSP 3.17, "MessageType")
abbrev pub error_type : ℕ
error_type = 1

-- one line of the client's log that is an error
abbrev pub logs_error : {P : Type 0} → List ℕ → Act P
logs_error text = tells log_method (message_params error_type text)

-- how a value is written
abbrev pub Writing : Type 1
Writing = Option (List Event) → Option (List Event) → Type 0

-- what params are read as: a value, or the error -32602
abbrev pub IsRead : {T : Type 0} → Result T ResponseError → Type 0
IsRead read = IfErr read (λ e. IsFault InvalidParams (error_view e))

module _ {P : Type 0} where
  -- the request with this id is refused with this error, and nothing else is done
  abbrev pub Refuses : Id → ResponseError → List (Act P) → Type 0
  Refuses id error acts = acts ≡ replies id (Err (error_view error)) ∷ []

  -- params that fit give what is given for them; else the request is refused
  abbrev pub ActsFor : {T : Type 0} → (T → List (Act P) → Type 0) → Id → Result T ResponseError
      → List (Act P) → Type 0
  ActsFor gives id read acts =
      MatchResult read (λ params. gives params acts) (λ e. Refuses id e acts)

  -- one answer: what the value is written as, or the error -32603 if it can't be written
  abbrev pub AnswersWith : Writing → Id → List (Act P) → Type 0
  AnswersWith writes id acts =
      (outcome : Result Data ErrorObject) × IsOutcomeOf writes outcome
      × (acts ≡ replies id outcome ∷ [])

  -- one answer: that of a value, or an error of the server's own
  abbrev pub AnswersEither : {R : Type 0} → (R → Writing) → Id → Result R ResponseError
      → List (Act P) → Type 0
  AnswersEither writes id found acts =
      MatchResult found (λ value. AnswersWith (writes value) id acts) (λ e. Refuses id e acts)

  -- The notification with what the value is written as. If it can't be written, a line of the log that says so, with
  -- the error's text.
  abbrev pub Notifies : Writing → List ℕ → Act P → Type 0
  Notifies writes method act =
      (outcome : Result Data ErrorObject) × IsOutcomeOf writes outcome
      × MatchResult outcome (λ tree. act ≡ tells method tree)
      (λ e. act ≡ logs_error (method ++ codes " was not sent: " ++ e.message))
