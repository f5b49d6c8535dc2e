-- How a value fits a type, level by level.
use Rattle.std.proofs.Common.{◌≡◌, ◌∙◌, ℕ, zero, suc, ◌-◌, List, Some, None, true, refl, ap, sym, arith, slice_get}
use Rattle.std.proofs.Common.{[], ◌∷◌, length}
use Rattle.serde_json.specs.Data.{Data}
use Rattle.serde_json.specs.View.{items_view}
use Rattle.serde_json.specs.declared.value.Value.{Value}
use Rattle.lsp_model.specs.Fits.{fits, fits_some, fits_form}
use Rattle.lsp_model.specs.Spans.{count}
use Rattle.lsp_model.specs.declared.form.Form.{Form}
use Rattle.lsp_model.specs.declared.mode.Mode.{Mode}

-- what nests too deep fits
pub too_deep : (types : List Form) (mode : Mode) (levels at : ℕ) (d : Data) → levels ≡ 0
    → true ≡ fits types mode levels at d
unfolding fits
too_deep types mode zero at d none = refl
too_deep types mode (suc levels) at d none = absurd (omega (none, arith))

-- the parts of a value fit with a level less
pub one_level : (types : List Form) (mode : Mode) (levels at : ℕ) (d : Data) → ¬ (levels ≡ 0)
    → fits types mode levels at d ≡ fits_some (fits types mode (levels - 1)) mode (slice_get types at) d
unfolding fits
one_level types mode zero at d some = absurd (some refl)
one_level types mode (suc levels) at d some =
    let less : levels ≡ suc levels - 1 = omega arith in
    ap (λ n. fits_some (fits types mode n) mode (slice_get types at) d) less

-- a type that the list does not have
pub no_type : (types : List Form) (mode : Mode) (levels at : ℕ) (d : Data) → ¬ (levels ≡ 0)
    → slice_get types at ≡ None → true ≡ fits types mode levels at d
no_type types mode levels at d some none =
    sym (one_level types mode levels at d some ∙ ap (λ form. fits_some (fits types mode (levels - 1)) mode form d) none)

-- a type that the list has
pub has_type : (types : List Form) (mode : Mode) (levels at : ℕ) (d : Data) (form : Form) → ¬ (levels ≡ 0)
    → slice_get types at ≡ Some form
    → fits types mode levels at d ≡ fits_form (fits types mode (levels - 1)) mode form d
has_type types mode levels at d form some is =
    one_level types mode levels at d some ∙ ap (λ form. fits_some (fits types mode (levels - 1)) mode form d) is

pub counted : (vs : List Value) → count (items_view vs) ≡ length vs
counted [] = refl
counted (v ∷ vs) = ap suc (counted vs)
