-- What `extract` answers, and what an `ExtractError` prints.
use Rattle.std.specs.Prelude.{◌≡◌, ◌≢◌, ℕ, List, ◌++◌, Option, Some, None, Result, Ok, Err, codes, string_bytes}
use Rattle.lsp_message.specs.declared.msg.Request.{Request}
use Rattle.lsp_message.specs.declared.msg.Notification.{Notification}
use Rattle.lsp_message.specs.declared.error.ExtractError.{ExtractError}
use Rattle.lsp_message.specs.declared.error.ExtractError.TheVariants.{MethodMismatch, JsonError}

-- another method hands the whole message back
abbrev pub Extracts : {T P : Type 0} → T → List ℕ → List ℕ → Result P (ExtractError T)
    → (P → Type 0) → Type 0
Extracts whole method asked (Ok found) Q = (method ≡ asked) × Q found
Extracts whole method asked (Err (MethodMismatch back)) Q = (method ≢ asked) × (back ≡ whole)
Extracts whole method asked (Err (JsonError name error)) Q = (method ≡ asked)
    × (string_bytes name ≡ method)

abbrev pub mismatch_text : List ℕ → List ℕ → List ℕ
mismatch_text kind method = codes "Method mismatch for " ++ kind ++ codes " '" ++ method
    ++ codes "'"

-- The text of a failed conversion is shown by tests, since `serde_json` states none of its error.
abbrev pub request_error_text : ExtractError Request → Option (List ℕ)
request_error_text (MethodMismatch r) =
    Some (mismatch_text (codes "request") (string_bytes r.method))
request_error_text (JsonError method error) = None

abbrev pub notification_error_text : ExtractError Notification → Option (List ℕ)
notification_error_text (MethodMismatch n) =
    Some (mismatch_text (codes "notification") (string_bytes n.method))
notification_error_text (JsonError method error) = None
