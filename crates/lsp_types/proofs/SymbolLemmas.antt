-- How symbols are read that have others in them.
use Rattle.std.proofs.Common.{◌≡◌, ℕ, zero, suc, ◌-◌, arith, refl, subst, sym}
use Rattle.serde_json.specs.Data.{Data}
use Rattle.lsp_types.specs.Symbols.{IsSymbolWith, IsSymbolWithin}
use Rattle.lsp_types.specs.declared.symbols.DocumentSymbol.{DocumentSymbol}
use Rattle.lsp_types.specs.declared.symbols.DocumentSymbol.TheOpen.{DocumentSymbol-F}
use Rattle.lsp_types.specs.declared.symbols.DocumentSymbol.TheViews.{out-DocumentSymbol, roll-DocumentSymbol}
use Rattle.lsp_types.specs.declared.symbols.DocumentSymbol.TheViews.{out-roll-DocumentSymbol}

-- no symbol stands in no levels
pub none_within : (levels : ℕ) (json : Data) (it : DocumentSymbol) → levels ≡ 0 → ¬ IsSymbolWithin levels json it
unfolding IsSymbolWithin
none_within zero json it none one = one
none_within (suc levels) json it none one = absurd (omega (none, arith))

-- those inside a symbol have a level less
pub inside : (levels : ℕ) (json : Data) (it : DocumentSymbol) → ¬ (levels ≡ 0) → IsSymbolWithin levels json it
    → IsSymbolWith (IsSymbolWithin (levels - 1)) json (out-DocumentSymbol it)
unfolding IsSymbolWithin
inside zero json it some one = absurd one
inside (suc levels) json it some one =
    let less : levels ≡ suc levels - 1 = omega arith in
    subst (λ n. IsSymbolWith (IsSymbolWithin n) json (out-DocumentSymbol it)) less one

-- a symbol has a level more than those inside it
pub around : (levels : ℕ) (json : Data) (it : DocumentSymbol-F DocumentSymbol) → ¬ (levels ≡ 0)
    → IsSymbolWith (IsSymbolWithin (levels - 1)) json it → IsSymbolWithin levels json (roll-DocumentSymbol it)
unfolding IsSymbolWithin
around zero json it some one = absurd (some refl)
around (suc levels) json it some one =
    let less : suc levels - 1 ≡ levels = omega arith in
    subst (λ n. IsSymbolWith (IsSymbolWithin n) json (out-DocumentSymbol (roll-DocumentSymbol it))) less
    (subst (λ made. IsSymbolWith (IsSymbolWithin (suc levels - 1)) json made) (sym (out-roll-DocumentSymbol it)) one)
