-- Lists of JSON, and of what was kept with its place.
use Rattle.std.proofs.Common.{◌≡◌, ◌∙◌, ℕ, Bool, true, false, not, ◌&&◌, ◌||◌, ◌==◌, List, [], ◌∷◌, Option, Some, None}
use Rattle.std.proofs.Common.{length, filter, cond, is_some, refl, ap, sym, arith}
use Rattle.std.specs.List.{list_any}
use Rattle.serde_json.specs.Data.{Data, null}
use Rattle.serde_json.specs.View.{view, items_view}
use Rattle.serde_json.specs.declared.value.Value.{Value}
use Rattle.lsp_watch.specs.Log.{Log, Passed, is_success}
use Rattle.lsp_capabilities.specs.Announced.{opens_in}
use Rattle.lsp_capabilities.specs.Knows.{Holds, is_such, any_placed, is_ended}
use Rattle.lsp_capabilities.specs.Registrations.{any_item, is_place, is_of, unregistrations_in, replied_at, refuses}
use Rattle.lsp_capabilities.specs.Registrations.{confirms, ends, is_registered, is_unconfirmed}
use Rattle.lsp_capabilities.specs.declared.registrations.Placed.{Placed}
use Rattle.lsp_capabilities.specs.declared.registrations.Registrations.{Registrations}

pub any_is : (such : Data → Bool) (vs : List Value) → list_any (λ v. such (view v)) vs ≡ any_item such (items_view vs)
any_is such [] = refl
any_is such (v ∷ vs) = ap (λ b. such (view v) || b) (any_is such vs)

filtered_step : {X : Type 0} (such : X → Bool) (x : X) (b : Bool) (xs : List X)
    → list_any such (cond b (x ∷ xs) xs) ≡ ((such x && b) || list_any such xs)
filtered_step such x true xs = grind arith
filtered_step such x false xs = grind arith

-- an element of what is left after a filter
pub any_filtered : {X : Type 0} (such test : X → Bool) (xs : List X)
    → list_any such (filter test xs) ≡ list_any (λ x. such x && test x) xs
any_filtered such test [] = refl
any_filtered such test (x ∷ xs) = filtered_step such x (test x) (filter test xs)
    ∙ ap (λ b. (such x && test x) || b) (any_filtered such test xs)

pub any_same : {X : Type 0} (f g : X → Bool) → ((x : X) → f x ≡ g x) → (xs : List X) → list_any f xs ≡ list_any g xs
any_same f g same [] = refl
any_same f g same (x ∷ xs) = ap (λ b. b || list_any f xs) (same x) ∙ ap (λ b. g x || b) (any_same f g same xs)

pub none_at_all : {X : Type 0} (f : X → Bool) → ((x : X) → f x ≡ false) → (xs : List X) → list_any f xs ≡ false
none_at_all f none [] = refl
none_at_all f none (x ∷ xs) = ap (λ b. b || list_any f xs) (none x) ∙ none_at_all f none xs

pub any_at_all : {X : Type 0} (xs : List X) → (length xs == 0) ≡ not (list_any (λ x. true) xs)
any_at_all [] = refl
any_at_all (x ∷ xs) = grind arith

pub or_is : (a b : Bool) → cond a true b ≡ (a || b)
or_is true b = refl
or_is false b = refl

pub null_opens_nothing : (uri method : List ℕ) → opens_in uri method null ≡ false
null_opens_nothing uri method = grind arith

and_false : (b : Bool) → (b && false) ≡ false
and_false true = refl
and_false false = refl

and_not_false : (b c : Bool) → c ≡ false → b ≡ (b && not c)
and_not_false true c never = sym (ap not never)
and_not_false false c never = refl

-- where the client replied to no request, nothing ends
nothing_ends : (unconfirmed : List Placed) (at : Option ℕ) (succeeds : Bool) → is_some at ≡ false
    → (place : ℕ) (r : Data) → is_ended unconfirmed at succeeds place r ≡ false
nothing_ends unconfirmed (Some at) succeeds never place r = absurd (grind arith)
nothing_ends unconfirmed None succeeds never place r =
    ap (λ b. b || any_placed (λ asked params. (succeeds && false) && any_item (is_of r) (unregistrations_in params))
    unconfirmed) (and_false (not succeeds))
    ∙ none_at_all (is_such (λ asked params. (succeeds && false) && any_item (is_of r) (unregistrations_in params)))
    (λ it. ap (λ b. b && any_item (is_of r) (unregistrations_in (view it.value))) (and_false succeeds)) unconfirmed

pub all_stay : (unconfirmed : List Placed) (at : Option ℕ) (succeeds : Bool) → is_some at ≡ false
    → (such : ℕ → Data → Bool) (its : List Placed) → any_placed such its
    ≡ any_placed (λ place r. such place r && not (is_ended unconfirmed at succeeds place r)) its
all_stay unconfirmed at succeeds never such its = any_same (is_such such)
    (is_such (λ place r. such place r && not (is_ended unconfirmed at succeeds place r)))
    (λ it. and_not_false (such it.place (view it.value)) (is_ended unconfirmed at succeeds it.place (view it.value))
    (nothing_ends unconfirmed at succeeds never it.place (view it.value))) its

module _ (rs : Registrations) (log : Log) (p : Passed) (at : Option ℕ) (succeeds : Bool) (at_is : at ≡ replied_at log p)
    (succeeds_is : succeeds ≡ is_success p.message) (holds : Holds rs log) where
  ended_is : (place : ℕ) (r : Data) → is_ended rs.unconfirmed.items at succeeds place r ≡ ends log p place r
  ended_is place r =
      ap (λ at. is_ended rs.unconfirmed.items at succeeds place r) at_is
      ∙ ap (λ succeeds. is_ended rs.unconfirmed.items (replied_at log p) succeeds place r) succeeds_is
      ∙ ap (λ b. refuses log p place || b) (holds.unconfirmed_are
      (λ asked params. confirms log p asked && any_item (is_of r) (unregistrations_in params)))

  -- what is left of the registrations, and of the requests to end some, after a message that registers nothing
  pub registered_after : (such : ℕ → Data → Bool)
      → any_placed (λ place r. such place r && not (is_ended rs.unconfirmed.items at succeeds place r))
      rs.registered.items
      ≡ is_registered (λ place r. such place r && not (ends log p place r)) log
  registered_after such =
      any_same (is_such (λ place r. such place r && not (is_ended rs.unconfirmed.items at succeeds place r)))
      (is_such (λ place r. such place r && not (ends log p place r)))
      (λ it. ap (λ b. such it.place (view it.value) && not b) (ended_is it.place (view it.value))) rs.registered.items
      ∙ holds.registered_are (λ place r. such place r && not (ends log p place r))

  pub unconfirmed_after : (such : ℕ → Data → Bool)
      → any_placed (λ place params. such place params && not (succeeds && is_place place at)) rs.unconfirmed.items
      ≡ is_unconfirmed (λ place params. such place params && not (confirms log p place)) log
  unconfirmed_after such =
      ap (λ at. any_placed (λ place params. such place params && not (succeeds && is_place place at))
      rs.unconfirmed.items) at_is
      ∙ ap (λ succeeds. any_placed (λ place params. such place params
      && not (succeeds && is_place place (replied_at log p))) rs.unconfirmed.items) succeeds_is
      ∙ holds.unconfirmed_are (λ place params. such place params && not (confirms log p place))
