-- What a server registers (LSP 3.17, "Register Capability" and "Unregister Capability").
use Rattle.std.specs.Prelude.{ℕ, Bool, true, false, not, ◌&&◌, ◌||◌, ◌==◌, List, [], ◌∷◌, Option, Some, None}
use Rattle.std.specs.Prelude.{option_and_then, option_map, unwrap_or, if◌then◌else◌, codes}
use Rattle.serde_json.specs.Data.{Data, Items, no_items, item, null, boolean}
use Rattle.serde_json.specs.Find.{get, as_array, as_str, pointer}
use Rattle.lsp_message.specs.Message.{Message}
use Rattle.lsp_watch.specs.Documents.{params_in, text_in, is_text}
use Rattle.lsp_watch.specs.Log.{Log, Passed, asks, from_client, is_success, is_some_such, answered_by}
use Rattle.lsp_watch.specs.declared.direction.Direction.{Direction}
use Rattle.lsp_capabilities.specs.Methods.{registered_as, registered_option}

-- ---- what a tree says

-- a capability is announced by true, or by options; not by false or null
abbrev pub is_offered : Option Data → Bool
is_offered None = false
is_offered (Some null) = false
is_offered (Some (boolean b)) = b
is_offered (Some d) = true

abbrev pub any_item : (Data → Bool) → Items → Bool
any_item such no_items = false
any_item such (item d ds) = such d || any_item such ds

abbrev pub items_of : Option Data → Items
items_of d = unwrap_or (option_and_then as_array d) no_items

-- a list has this text
abbrev pub lists : List ℕ → Option Data → Bool
lists text d = any_item (λ it. is_text text (as_str it)) (items_of d)

-- ---- one registration

-- the options of a registration have what a request needs
abbrev pub has_option : Option (List ℕ) → Data → Bool
has_option None r = true
has_option (Some path) r = is_offered (pointer path r)

-- a registration registers the requests of this method
abbrev pub registers_method : List ℕ → Data → Bool
registers_method method r =
    is_text (registered_as method) (text_in (codes "method") r) && has_option (registered_option method) r

-- a registration registers this command
abbrev pub registers_command : List ℕ → Data → Bool
registers_command command r = is_text (codes "workspace/executeCommand") (text_in (codes "method") r)
    && lists command (pointer (codes "/registerOptions/commands") r)

-- an unregistration ends a registration: it has the same id and the same method
abbrev pub is_of : Data → Data → Bool
is_of r u = is_some_such (λ id. is_text id (text_in (codes "id") u)) (text_in (codes "id") r)
    && is_some_such (λ method. is_text method (text_in (codes "method") u)) (text_in (codes "method") r)

-- ---- one message

-- the server asks the client to register something
abbrev pub is_registration : Direction → Message → Bool
is_registration direction m = not (from_client direction) && asks (codes "client/registerCapability") m

abbrev pub registrations_in : Data → Items
registrations_in params = items_of (get (codes "registrations") params)

-- the server asks the client to end registrations
abbrev pub is_unregistration : Direction → Message → Bool
is_unregistration direction m = not (from_client direction) && asks (codes "client/unregisterCapability") m

-- the standard spells it so
abbrev pub unregistrations_in : Data → Items
unregistrations_in params = items_of (get (codes "unregisterations") params)

-- the place of the request of the server that the client replies to
abbrev pub replied_at : Log → Passed → Option ℕ
replied_at before p = if from_client p.direction then option_map (λ o. o.place) (answered_by before p) else None

abbrev pub is_place : ℕ → Option ℕ → Bool
is_place place None = false
is_place place (Some at) = place == at

-- ---- what was registered

-- a message is the client's reply, with a result, to the request of the server at this place
abbrev pub confirms : Log → Passed → ℕ → Bool
confirms before p place = is_success p.message && is_place place (replied_at before p)

-- a message is the client's reply, with an error, to the request of the server at this place
abbrev pub refuses : Log → Passed → ℕ → Bool
refuses before p place = not (is_success p.message) && is_place place (replied_at before p)

-- The server asked the client to end registrations, and the client did not confirm it: at a place and with params that
-- are such.
abbrev pub is_unconfirmed : (ℕ → Data → Bool) → Log → Bool
is_unconfirmed such [] = false
is_unconfirmed such (p ∷ before) =
    is_unconfirmed (λ place params. such place params && not (confirms before p place)) before
    || (is_unregistration p.direction p.message && such p.place (params_in p.message))

-- A message ends a registration that was asked for at this place: the client refuses it, or confirms that it ends.
abbrev pub ends : Log → Passed → ℕ → Data → Bool
ends before p place r = refuses before p place
    || is_unconfirmed (λ at params. confirms before p at && any_item (is_of r) (unregistrations_in params)) before

-- A registration is in force that is such: from the request that asks for it on, until it ends.
abbrev pub is_registered : (ℕ → Data → Bool) → Log → Bool
is_registered such [] = false
is_registered such (p ∷ before) = is_registered (λ place r. such place r && not (ends before p place r)) before
    || (is_registration p.direction p.message && any_item (such p.place) (registrations_in (params_in p.message)))
