-- A handler as the service of a session: it answers each request, and sends nothing else.
use Rattle.serde_json.specs.Data.{Data, object, member, no_members}
use Rattle.std.specs.Prelude.{◌≡◌, ℕ, false, List, [], ◌∷◌, Result, Ok, codes}
use Rattle.lsp_message.specs.Id.{Id}
use Rattle.lsp_message.specs.Message.{Message, ErrorObject, request, notification, response}
use Rattle.lsp_session.specs.Session.{Behavior}

-- the result of `initialize`
abbrev pub initialize_result : Data → Data
initialize_result capabilities = object (member (codes "capabilities") capabilities no_members)

module _ {H : Type 0} (answers : H → Id → List ℕ → Data → Result Data ErrorObject → H
    → Type 0) (notes : H → List ℕ → Data → H → Type 0) where
  -- A request gets one reply, under its id, the handler is notified of a notification, and a response is dropped.
  abbrev pub Handles : H → Message → List Message → H → Type 0
  Handles old (request i method params) replies new =
      (outcome : Result Data ErrorObject) × answers old i method params outcome new
      × (replies ≡ response i outcome ∷ [])
  Handles old (notification method params) replies new = notes old method params new
      × (replies ≡ [])
  Handles old (response i outcome) replies new = (new ≡ old) × (replies ≡ [])

  -- `initialize` is answered with the capabilities, and nothing is sent at `initialized`, at a wake-up, or at
  -- `shutdown` except its reply. These leave the handler alone. After `shutdown` no response is skipped: a handler
  -- sends no requests, so none is due to it.
  abbrev pub of_handler : Data → Behavior H
  of_handler capabilities = record {
    initializes = λ old params outcome new. (outcome ≡ Ok (initialize_result capabilities))
        × (new ≡ old);
    at_initialized = λ old sent new. (sent ≡ []) × (new ≡ old);
    outputs = Handles;
    wakes = λ old sent new. (sent ≡ []) × (new ≡ old);
    at_shutdown = λ old id sent new. (sent ≡ []) × (new ≡ old);
    after_memory_fault = λ old new. new ≡ old;
    passes_late = false;
  }
