-- Whether a client can be asked for its configuration, and what it is asked (LSP 3.17, "Configuration Request").
use Rattle.std.specs.Prelude.{Bool, false, List, ℕ, [], ◌∷◌, Option, None, Some, codes, option_and_then}
use Rattle.serde_json.specs.Data.{Data, Items, no_items, item, array, string}
use Rattle.serde_json.specs.Find.{as_array, as_bool, get, pointer}
use Rattle.serde_json.specs.View.{items_of}
use Rattle.lsp_acts.specs.Acts.{Act, asks}
use Rattle.lsp_types.specs.Json.{object_of}

-- a member that is true
abbrev pub is_true : Option Bool → Bool
is_true None = false
is_true (Some b) = b

-- a place that has this member
abbrev pub has_true : Option Data → Bool
has_true None = false
has_true (Some d) = is_true (as_bool d)

-- the capabilities of a client that can be asked
abbrev pub can_be_asked : Data → Bool
can_be_asked client = has_true (pointer (codes "/workspace/configuration") client)

-- what asks the client for one section, of no document
abbrev pub asks_for : {P : Type 0} → List ℕ → P → Act P
asks_for section payload = asks (codes "workspace/configuration") (object_of ((
  codes "items",
  Some (array (items_of (
      object_of ((codes "scopeUri", None) ∷ (codes "section", Some (string section)) ∷ []) ∷ []))),
) ∷ [])) payload

-- the value that a client replies to this: the first of a list, as one section was asked for
abbrev pub first_item : Items → Option Data
first_item no_items = None
first_item (item d ds) = Some d

abbrev pub replied_of : Data → Option Data
replied_of reply = option_and_then first_item (as_array reply)

-- what the params of a change have of a section, as a client sends them that can't be asked (LSP 3.17,
-- "DidChangeConfiguration Notification")
abbrev pub settings_of : List ℕ → Data → Option Data
settings_of section params = option_and_then (get section) (get (codes "settings") params)
