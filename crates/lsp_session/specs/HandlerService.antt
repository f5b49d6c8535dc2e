-- A handler beside its capabilities, as a service: one that was lent, and one that is owned.
use Rattle.serde_json.specs.Data.{Data}
use Rattle.serde_json.specs.View.{view}
use Rattle.std.specs.Prelude.{◌≡◌, ℕ, false, List, [], Result, Ok}
use Rattle.lsp_message.specs.Id.{Id}
use Rattle.lsp_message.specs.Message.{ErrorObject}
use Rattle.lsp_session.specs.HandlerSession.{Handles, initialize_result}
use Rattle.lsp_session.specs.Session.{Behavior}
use Rattle.lsp_session.specs.declared.loops.handler_application.HandlerApplication.{HandlerApplication}
use Rattle.lsp_session.specs.declared.loops.handler_service.HandlerService.{HandlerService}

-- of a service that holds a handler under a name, and capabilities
module _ {S H : Type 0} (handler_of : S → H) (name_of : S → ℕ) (capabilities_of : S → Data) where
  -- the handler is kept, as it is
  abbrev pub KeepsHandler : S → S → Type 0
  KeepsHandler old new = (handler_of new ≡ handler_of old) × (name_of new ≡ name_of old)

  -- `of_handler`, of the handler and the capabilities that are left
  abbrev pub held_handler : (H → Id → List ℕ → Data → Result Data ErrorObject → H → Type 0)
      → (H → List ℕ → Data → H → Type 0) → Behavior S
  held_handler answers notes = record {
    initializes = λ old params outcome new.
        (outcome ≡ Ok (initialize_result (capabilities_of old))) × KeepsHandler old new;
    at_initialized = λ old sent new. (sent ≡ []) × KeepsHandler old new;
    outputs = λ old m sent new. Handles answers notes (handler_of old) m sent (handler_of new)
        × (name_of new ≡ name_of old);
    wakes = λ old sent new. (sent ≡ []) × KeepsHandler old new;
    at_shutdown = λ old id sent new. (sent ≡ []) × KeepsHandler old new;
    after_memory_fault = KeepsHandler;
    passes_late = false;
  }

module _ {H : Type 0} where
  -- of the handler that was lent
  abbrev pub lent_handler : (H → Id → List ℕ → Data → Result Data ErrorObject → H → Type 0)
      → (H → List ℕ → Data → H → Type 0) → Behavior (HandlerService H)
  lent_handler = held_handler (λ (s : HandlerService H). s.handler.now) (λ (s : HandlerService H). s.handler.ghost_name)
      (λ (s : HandlerService H). view s.capabilities.now)

  -- of one that is owned
  abbrev pub own_handler : (H → Id → List ℕ → Data → Result Data ErrorObject → H → Type 0)
      → (H → List ℕ → Data → H → Type 0) → Behavior (HandlerApplication H)
  own_handler = held_handler (λ (s : HandlerApplication H). s.handler) (λ (s : HandlerApplication H). 0) (λ
      (s : HandlerApplication H). view s.capabilities)
