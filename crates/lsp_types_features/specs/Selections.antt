-- What a part that a user may select is read as.
use Rattle.std.specs.Prelude.{ℕ, zero, suc, codes, option_map}
use Rattle.serde_json.specs.Data.{Data}
use Rattle.serde_json.specs.Find.{get}
use Rattle.lsp_types.specs.Reads.{IsRange, ReadsSome, Required, but_null, ◌and◌}
use Rattle.lsp_types_features.specs.declared.places.SelectionRange.{SelectionRange}
use Rattle.lsp_types_features.specs.declared.places.SelectionRange.TheOpen.{SelectionRange-F}
use Rattle.lsp_types_features.specs.declared.places.SelectionRange.TheViews.{out-SelectionRange}

-- a part (LSP 3.17, "SelectionRange"), and what the one around it is read as
abbrev pub IsSelectionWith : (Data → SelectionRange → Type 0) → Data → SelectionRange-F SelectionRange → Type 0
IsSelectionWith around json it = Required IsRange (codes "range") json it.range
    and ReadsSome around (but_null (get (codes "parent") json)) (option_map (λ parent. parent.value) it.parent)

-- the same of a part that stands in others, up to this many levels
unfoldable pub IsSelectionWithin : ℕ → Data → SelectionRange → Type 0
IsSelectionWithin zero json it = ⊥
IsSelectionWithin (suc levels) json it = IsSelectionWith (IsSelectionWithin levels) json (out-SelectionRange it)
