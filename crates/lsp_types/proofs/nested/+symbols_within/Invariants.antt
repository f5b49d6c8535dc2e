use Rattle.std.proofs.Common.{◌+◌, ◌*◌}
use Rattle.lsp_json.specs.JsonRef.{items_count, items_data}
use Rattle.lsp_types.specs.Symbols.{IsSymbolWithin}
use Rattle.lsp_types.proofs.ItemLemmas.{ReadBefore}
use Rattle.lsp_types.proofs.nested.+symbols_within.Given as goal

abbrev pub decreases-symbol_within : goal.decreases-symbol_within
decreases-symbol_within l = 2 * l.levels

abbrev pub decreases-children_within : goal.decreases-children_within
decreases-children_within l = 2 * l.levels + 1

abbrev pub invariant-children_within-loop-item : goal.invariant-children_within-loop-item
invariant-children_within-loop-item l =
    ReadBefore (IsSymbolWithin l.levels) (items_data l.initial.items) (items_data l.items) l.children.items

abbrev pub decreases-children_within-loop-item : goal.decreases-children_within-loop-item
decreases-children_within-loop-item l = items_count (items_data l.items)
