-- What a server may do at a call whose params are read where they stand.
use Rattle.std.specs.Prelude.{◌≡◌, ℕ, List, Bool, false, Option, Some, None}
use Rattle.std.specs.Str.{bytes_eq}
use Rattle.serde_json.specs.Data.{Data}
use Rattle.lsp_acts.specs.Acts.{Act, Queues, cancel_method, holds}
use Rattle.lsp_calls.specs.declared.call_ref.CallRef.{CallRef}
use Rattle.lsp_calls.specs.declared.call_ref.CallRef.TheVariants.{Notification, Request}
use Rattle.lsp_json.specs.JsonRef.{json_data}
use Rattle.lsp_message.specs.Id.{Id}

-- the call cancels a request (LSP 3.17, "Cancellation Support")
abbrev pub is_cancellation : CallRef → Bool
is_cancellation (Request it) = false
is_cancellation (Notification it) = bytes_eq it.method.now cancel_method

-- the queues with the request that a call is, if it is one
abbrev pub held_at : {P : Type 0} → CallRef → Queues P → Queues P
held_at (Request it) queues = holds queues it.id.now
held_at (Notification it) queues = queues

module _ {S P : Type 0} (request_post : S → Id → List ℕ → Data → List (Act P) → S → Type 0)
    (notification_post : S → List ℕ → Data → List (Act P) → S → Type 0) where
  -- it returns these acts for the call
  abbrev pub ActsAtCall : S → CallRef → List (Act P) → S → Type 0
  ActsAtCall old (Request it) acts new = request_post old it.id.now it.method.now (json_data it.params) acts new
  ActsAtCall old (Notification it) acts new = notification_post old it.method.now (json_data it.params) acts new

  -- it returns acts for the call, or nothing has changed
  abbrev pub AnswersCall : S → CallRef → Option (List (Act P)) → S → Type 0
  AnswersCall old call (Some acts) new = ActsAtCall old call acts new
  AnswersCall old call None new = new ≡ old
