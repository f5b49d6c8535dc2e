use Rattle.std.proofs.Common.{◌≡◌, ◌||◌, ℕ, Bool, drop}
use Rattle.serde_json.specs.Data.{Data}
use Rattle.serde_json.specs.View.{items_view}
use Rattle.lsp_capabilities.specs.Knows.{any_placed}
use Rattle.lsp_capabilities.specs.Registrations.{any_item}
use Rattle.lsp_capabilities.proofs.registrations.add_all.Given as goal

-- what is kept, and what is left to keep, are the same as at the start
abbrev pub invariant-loop-registration : goal.invariant-loop-registration
invariant-loop-registration l = (such : ℕ → Data → Bool)
    → (any_placed such l.registered.items
    || any_item (such l.place) (items_view (drop l.registration-index l.registrations)))
    ≡ (any_placed such l.initial.registered.items || any_item (such l.place) (items_view l.registrations))
