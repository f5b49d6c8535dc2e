-- The JSON that types are written as whose writers are not made from the table.
use Rattle.std.specs.Prelude.{List, ◌∷◌, [], Some, codes, option_map, map, string_bytes}
use Rattle.serde_json.specs.Data.{Data, array, boolean, number, string, unsigned}
use Rattle.serde_json.specs.View.{items_of}
use Rattle.lsp_text.specs.Documents.{Change}
use Rattle.lsp_text.specs.declared.position.Position.{Position}
use Rattle.lsp_text.specs.declared.position.Range.{Range}
use Rattle.lsp_types.specs.Json.{object_of}
use Rattle.lsp_types.specs.declared.symbols.DocumentSymbol.{DocumentSymbol}
use Rattle.lsp_types.specs.declared.symbols.DocumentSymbol.TheOpen.{DocumentSymbol-F}
use Rattle.lsp_types.specs.declared.symbols.DocumentSymbol.TheFolds.{fold-DocumentSymbol}
use Rattle.lsp_types.specs.declared.symbols.SymbolTag.{SymbolTag}

-- a place in a text
abbrev pub position : Position → Data
position it = object_of (
    (codes "character", Some (number (unsigned it.character)))
    ∷ (codes "line", Some (number (unsigned it.line))) ∷ [])

-- a part of a text
abbrev pub range : Range → Data
range it = object_of ((codes "end", Some (position it.end)) ∷ (codes "start", Some (position it.start)) ∷ [])

-- a change of a document
abbrev pub content_change : Change → Data
content_change it = object_of ((codes "range", option_map range it.range) ∷ (codes "text", Some (string it.text)) ∷ [])

-- a symbol, with what those inside it stand for
abbrev pub symbol_with : {A : Type 0} → DocumentSymbol-F A → List Data → Data
symbol_with it children = object_of (
    (codes "children", Some (array (items_of children)))
    ∷ (codes "deprecated", option_map boolean it.deprecated)
    ∷ (codes "detail", option_map (λ text. string (string_bytes text)) it.detail)
    ∷ (codes "kind", Some (number (unsigned it.kind.0)))
    ∷ (codes "name", Some (string (string_bytes it.name)))
    ∷ (codes "range", Some (range it.range))
    ∷ (codes "selectionRange", Some (range it.selection_range))
    ∷ (
      codes "tags",
      option_map (λ tags. array (items_of (map (λ (tag : SymbolTag). number (unsigned tag.0))
          tags.items))) it.tags,
    ) ∷ [])

-- a symbol, of which each inside it is already what it stands for
abbrev pub symbol_step : DocumentSymbol-F Data → Data
symbol_step it = symbol_with it it.children.items

-- a symbol of a document, with those inside it
abbrev pub document_symbol : DocumentSymbol → Data
document_symbol = fold-DocumentSymbol Data symbol_step
