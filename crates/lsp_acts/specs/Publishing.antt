-- What shows the client what is wrong with a document (LSP 3.17, "PublishDiagnostics Notification").
use Rattle.serde_json.specs.Data.{Data, Items, Members, array, item, member, no_items, no_members, number, object, put}
use Rattle.serde_json.specs.Data.{string}
use Rattle.serde_json.specs.Find.{of_integer}
use Rattle.std.specs.Prelude.{◌≡◌, ◌++◌, ℕ, ℤ, List, [], ◌∷◌, ⊤, Option, Some, None, codes}
use Rattle.std.specs.Prelude.{Result, Ok, Err, MatchResult}
use Rattle.lsp_message.specs.Converted.{IsFault, IsOutcomeOf}
use Rattle.lsp_message.specs.Message.{ErrorObject}
use Rattle.lsp_message.specs.declared.msg.code.ErrorCode.TheVariants.{InternalError}
use Rattle.lsp_acts.specs.Acts.{Act, tells}
use Rattle.lsp_acts.specs.Answering.{Writing, logs_error}

-- the method
abbrev pub publish_method : List ℕ
publish_method = codes "textDocument/publishDiagnostics"

-- its params, `{ "diagnostics": trees, "uri": uri, "version": version }`; without a version there is no such member
abbrev pub with_version : Option ℤ → Members → Members
with_version None members = members
with_version (Some version) members = put (codes "version") (number (of_integer version)) members

abbrev pub publish_params : List ℕ → Option ℤ → Data → Data
publish_params uri version diagnostics =
    object (with_version version
    (member (codes "diagnostics") diagnostics (member (codes "uri") (string uri) no_members)))

-- each tree is what the value at its place is written as
abbrev pub AreWritten : {T : Type 0} → (T → Writing) → List T → Items → Type 0
AreWritten writes [] no_items = ⊤
AreWritten writes [] (item tree trees) = ⊥
AreWritten writes (value ∷ values) no_items = ⊥
AreWritten writes (value ∷ values) (item tree trees) =
    IsOutcomeOf (writes value) (Ok tree) × AreWritten writes values trees

-- the tree is a list of what each value is written as
abbrev pub IsListOf : {T : Type 0} → (T → Writing) → List T → Data → Type 0
IsListOf writes values (array trees) = AreWritten writes values trees
IsListOf writes values tree = ⊥

-- what values are as an outcome: that list, or the error -32603
abbrev pub AreOutcomeOf : {T : Type 0} → (T → Writing) → List T → Result Data ErrorObject → Type 0
AreOutcomeOf writes values (Ok tree) = IsListOf writes values tree
AreOutcomeOf writes values (Err e) = IsFault InternalError e

-- The notification for this document, with all diagnostics in their order. If one can't be written, a line of the log
-- that says so, with the error's text.
abbrev pub Publishes : {P T : Type 0} → (T → Writing) → List ℕ → Option ℤ → List T → Act P → Type 0
Publishes writes uri version values act =
    (outcome : Result Data ErrorObject) × AreOutcomeOf writes values outcome
    × MatchResult outcome (λ tree. act ≡ tells publish_method (publish_params uri version tree))
    (λ e. act ≡ logs_error (publish_method ++ codes " was not sent: " ++ e.message))
