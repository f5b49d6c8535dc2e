-- What registers a method with a client, and what ends that (LSP 3.17, "Register Capability" and "Unregister
-- Capability").
use Rattle.std.specs.Prelude.{Bool, List, ℕ, [], ◌∷◌, Some, codes}
use Rattle.serde_json.specs.Data.{Data, array, string}
use Rattle.serde_json.specs.Find.{pointer}
use Rattle.serde_json.specs.View.{items_of}
use Rattle.lsp_acts.specs.Acts.{Act, asks}
use Rattle.lsp_types.specs.Json.{object_of}
use Rattle.lsp_methods.specs.Configuring.{has_true}

-- the capabilities of a client that can be asked to watch files
abbrev pub can_watch : Data → Bool
can_watch client = has_true (pointer (codes "/workspace/didChangeWatchedFiles/dynamicRegistration") client)

-- the params that register one method
abbrev pub registration_params : List ℕ → List ℕ → Data → Data
registration_params id method options = object_of ((
  codes "registrations",
  Some (array (items_of (object_of (
      (codes "id", Some (string id))
      ∷ (codes "method", Some (string method))
      ∷ (codes "registerOptions", Some options) ∷ []) ∷ []))),
) ∷ [])

-- what asks the client to register a method
abbrev pub registers : {P : Type 0} → List ℕ → List ℕ → Data → P → Act P
registers id method options payload =
    asks (codes "client/registerCapability") (registration_params id method options) payload

-- the params that end one registration, in the standard's spelling
abbrev pub unregistration_params : List ℕ → List ℕ → Data
unregistration_params id method = object_of ((
  codes "unregisterations",
  Some (array (items_of (object_of (
      (codes "id", Some (string id)) ∷ (codes "method", Some (string method)) ∷ []) ∷ []))),
) ∷ [])

-- what asks the client to end it
abbrev pub unregisters : {P : Type 0} → List ℕ → List ℕ → P → Act P
unregisters id method payload = asks (codes "client/unregisterCapability") (unregistration_params id method) payload
