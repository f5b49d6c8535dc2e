-- What a symbol of a document is read as.
use Rattle.std.specs.Prelude.{◌≡◌, ℕ, zero, suc, Option, Some, None, codes, string_bytes}
use Rattle.serde_json.specs.Data.{Data, Items, no_items}
use Rattle.serde_json.specs.Find.{as_array, as_bool, as_str, get}
use Rattle.lsp_types.specs.Reads.{EachItem, InSome, IsObject, IsRange, IsWithin, Optional, Required, but_null, ◌and◌}
use Rattle.lsp_types.specs.declared.symbols.DocumentSymbol.{DocumentSymbol}
use Rattle.lsp_types.specs.declared.symbols.DocumentSymbol.TheOpen.{DocumentSymbol-F}
use Rattle.lsp_types.specs.declared.symbols.DocumentSymbol.TheViews.{out-DocumentSymbol}

-- the items of a list that may be missing or null, and has none then
abbrev pub items_or_none : Option Data → Option Items
items_or_none None = Some no_items
items_or_none (Some json) = as_array json

-- a symbol (LSP 3.17, "DocumentSymbol"), and what those inside it are read as
abbrev pub IsSymbolWith : (Data → DocumentSymbol → Type 0) → Data → DocumentSymbol-F DocumentSymbol → Type 0
IsSymbolWith inside json it = IsObject json
    and Required (λ json name. as_str json ≡ Some (string_bytes name)) (codes "name") json it.name
    and Optional (λ json detail. as_str json ≡ Some (string_bytes detail)) (codes "detail") json it.detail
    and Required (λ json kind. IsWithin 1 26 json kind.0) (codes "kind") json it.kind
    and Optional (λ json tags. InSome (λ items. EachItem (λ json tag. IsWithin 1 1 json tag.0) items tags.items)
    (as_array json)) (codes "tags") json it.tags
    and Optional (λ json deprecated. as_bool json ≡ Some deprecated) (codes "deprecated") json it.deprecated
    and Required IsRange (codes "range") json it.range
    and Required IsRange (codes "selectionRange") json it.selection_range
    and InSome (λ items. EachItem inside items it.children.items)
    (items_or_none (but_null (get (codes "children") json)))

-- the same of a symbol in which others nest, down to this many levels
unfoldable pub IsSymbolWithin : ℕ → Data → DocumentSymbol → Type 0
IsSymbolWithin zero json it = ⊥
IsSymbolWithin (suc levels) json it = IsSymbolWith (IsSymbolWithin levels) json (out-DocumentSymbol it)
