-- How parts are read that stand in others.
use Rattle.std.proofs.Common.{◌≡◌, ℕ, zero, suc, ◌-◌, Option, Some, None, Box, Global, codes, option_map, arith}
use Rattle.std.proofs.Common.{refl, subst, sym}
use Rattle.lsp_text.specs.declared.position.Range.{Range}
use Rattle.serde_json.specs.Data.{Data}
use Rattle.serde_json.specs.Find.{get}
use Rattle.lsp_types.specs.Reads.{IsRange, ReadsSome, Required, but_null}
use Rattle.lsp_types_features.specs.Selections.{IsSelectionWith, IsSelectionWithin}
use Rattle.lsp_types_features.specs.declared.places.SelectionRange.{SelectionRange}
use Rattle.lsp_types_features.specs.declared.places.SelectionRange.TheOpen.{SelectionRange-F}
use Rattle.lsp_types_features.specs.declared.places.SelectionRange.TheViews.{out-SelectionRange, roll-SelectionRange}
use Rattle.lsp_types_features.specs.declared.places.SelectionRange.TheViews.{out-roll-SelectionRange}

-- no part stands in no levels
pub none_within : (levels : ℕ) (json : Data) (it : SelectionRange) → levels ≡ 0 → ¬ IsSelectionWithin levels json it
unfolding IsSelectionWithin
none_within zero json it none one = one
none_within (suc levels) json it none one = absurd (omega (none, arith))

-- the one around a part has a level less
pub inside : (levels : ℕ) (json : Data) (it : SelectionRange) → ¬ (levels ≡ 0) → IsSelectionWithin levels json it
    → IsSelectionWith (IsSelectionWithin (levels - 1)) json (out-SelectionRange it)
unfolding IsSelectionWithin
inside zero json it some one = absurd one
inside (suc levels) json it some one =
    let less : levels ≡ suc levels - 1 = omega arith in
    subst (λ n. IsSelectionWith (IsSelectionWithin n) json (out-SelectionRange it)) less one

-- a part has a level more than the one around it
pub made : (levels : ℕ) (json : Data) (it : SelectionRange-F SelectionRange) → ¬ (levels ≡ 0)
    → IsSelectionWith (IsSelectionWithin (levels - 1)) json it → IsSelectionWithin levels json (roll-SelectionRange it)
unfolding IsSelectionWithin
made zero json it some one = absurd (some refl)
made (suc levels) json it some one =
    let less : suc levels - 1 ≡ levels = omega arith in
    subst (λ n. IsSelectionWith (IsSelectionWithin n) json (out-SelectionRange (roll-SelectionRange it))) less
    (subst (λ made. IsSelectionWith (IsSelectionWithin (suc levels - 1)) json made)
    (sym (out-roll-SelectionRange it)) one)

-- the one around a part that was read
around : (reads : Data → SelectionRange → Type 0) (json : Data) (parent : Option (Box SelectionRange Global))
    → ReadsSome reads (Some json) (option_map (λ parent. parent.value) parent) → (it : SelectionRange) × reads json it
around reads json None one = absurd one
around reads json (Some parent) one = (parent.value, one)

-- a part has no reading if the one around it has none
pub unfit_around : (levels : ℕ) (json parent : Data) (it : SelectionRange) → ¬ (levels ≡ 0)
    → but_null (get (codes "parent") json) ≡ Some parent
    → ((it : SelectionRange) → ¬ IsSelectionWithin (levels - 1) parent it) → ¬ IsSelectionWithin levels json it
unfit_around levels json parent it some is unfit one =
    let found = around (IsSelectionWithin (levels - 1)) parent (out-SelectionRange it).parent
    (subst (λ found. ReadsSome (IsSelectionWithin (levels - 1)) found
    (option_map (λ parent. parent.value) (out-SelectionRange it).parent)) is (inside levels json it some one).1) in
    unfit found.0 found.1

-- a part whose range does not fit
pub unfit_range : (levels : ℕ) (json : Data) (it : SelectionRange) → ¬ (levels ≡ 0)
    → ((range : Range) → ¬ Required IsRange (codes "range") json range) → ¬ IsSelectionWithin levels json it
unfit_range levels json it some unfit one = unfit _ (inside levels json it some one).0
