-- What stands around a part, in a layer whose parts are already what they stand for.
use Rattle.std.proofs.Common.{◌≡◌, Box, Global, Option, None, Some, option_map, refl}
use Rattle.lsp_text.specs.declared.position.Range.{Range}
use Rattle.serde_json.specs.Data.{Data}
use Rattle.lsp_types_features.specs.Written.{selection_range}
use Rattle.lsp_types_features.specs.declared.places.SelectionRange.{SelectionRange}
use Rattle.lsp_types_features.specs.declared.places.SelectionRange.TheFolds.{map-SelectionRange}

pub around_of : (r : Range) (around : Option (Box SelectionRange Global))
    → option_map (λ parent. selection_range parent.value) around
    ≡ option_map (λ parent. parent.value)
    (map-SelectionRange SelectionRange Data selection_range (record { range = r; parent = around })).parent
around_of r None = refl
around_of r (Some parent) = refl
