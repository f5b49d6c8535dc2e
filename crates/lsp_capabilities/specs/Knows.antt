-- What is kept of what was announced.
use Rattle.std.specs.BTreeSet.{contains, contains_text}
use Rattle.std.specs.List.{list_any}
use Rattle.std.specs.Ordering.{nat_cmp}
use Rattle.std.specs.Prelude.{◌≡◌, ℕ, Bool, not, ◌&&◌, ◌||◌, List, Option}
use Rattle.serde_json.specs.Data.{Data}
use Rattle.serde_json.specs.View.{view}
use Rattle.lsp_watch.specs.Log.{Log, is_initialize}
use Rattle.lsp_capabilities.specs.Announced.{server_capabilities, client_capabilities, was_opened, asked_unannounced}
use Rattle.lsp_capabilities.specs.Registrations.{is_registered, is_unconfirmed, is_place, is_of, any_item}
use Rattle.lsp_capabilities.specs.Registrations.{unregistrations_in}
use Rattle.lsp_capabilities.specs.declared.announced.Announced.{Announced}
use Rattle.lsp_capabilities.specs.declared.registrations.Placed.{Placed}
use Rattle.lsp_capabilities.specs.declared.registrations.Registrations.{Registrations}

-- what was kept with its place is such
abbrev pub is_such : (ℕ → Data → Bool) → Placed → Bool
is_such such it = such it.place (view it.value)

abbrev pub any_placed : (ℕ → Data → Bool) → List Placed → Bool
any_placed such its = list_any (is_such such) its

-- By a reply with a result, or with an error, to the request at this place: what is unconfirmed ends, or what was
-- registered.
abbrev pub is_ended : List Placed → Option ℕ → Bool → ℕ → Data → Bool
is_ended unconfirmed at succeeds place r = (not succeeds && is_place place at)
    || any_placed (λ asked params. (succeeds && is_place asked at) && any_item (is_of r) (unregistrations_in params))
    unconfirmed

-- the registrations of this log
pub record Holds (rs : Registrations) (log : Log) : Type 0 where
  pub registered_are : (such : ℕ → Data → Bool) → any_placed such rs.registered.items ≡ is_registered such log
  pub unconfirmed_are : (such : ℕ → Data → Bool) → any_placed such rs.unconfirmed.items ≡ is_unconfirmed such log

-- it saw this log
pub record Knows (a : Announced) (log : Log) : Type 0 where
  pub server_is : view a.server ≡ server_capabilities log
  pub client_is : view a.client ≡ client_capabilities log
  pub registrations_are : Holds a.registrations log
  pub unannounced_are : (place : ℕ) → contains nat_cmp a.unannounced place ≡ asked_unannounced place log
  pub known_is : a.is_known ≡ list_any is_initialize log
  pub opened_are : (uri : List ℕ) → contains_text a.opened uri ≡ was_opened uri log
