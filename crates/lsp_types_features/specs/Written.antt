-- The JSON that a type is written as whose writer is not made from the table.
use Rattle.std.specs.Prelude.{◌∷◌, [], Option, Some, codes, option_map}
use Rattle.serde_json.specs.Data.{Data}
use Rattle.lsp_types.specs.Json.{object_of}
use Rattle.lsp_types.specs.Written.{range}
use Rattle.lsp_types_features.specs.declared.places.SelectionRange.{SelectionRange}
use Rattle.lsp_types_features.specs.declared.places.SelectionRange.TheOpen.{SelectionRange-F}
use Rattle.lsp_types_features.specs.declared.places.SelectionRange.TheFolds.{fold-SelectionRange}

-- a part, with what the one around it stands for
abbrev pub selection_with : {A : Type 0} → SelectionRange-F A → Option Data → Data
selection_with it parent = object_of ((codes "parent", parent) ∷ (codes "range", Some (range it.range)) ∷ [])

-- a part, of which the one around it is already what it stands for
abbrev pub selection_step : SelectionRange-F Data → Data
selection_step it = selection_with it (option_map (λ parent. parent.value) it.parent)

-- a part that a user may select, with those around it
abbrev pub selection_range : SelectionRange → Data
selection_range = fold-SelectionRange Data selection_step
