use Rattle.lsp_json.specs.JsonRef.{items_count, items_data}
use Rattle.lsp_types.proofs.ItemLemmas.{ReadBefore}
use Rattle.lsp_types.proofs.json.read_lists.each_item.Given as goal

abbrev pub invariant-loop-item : goal.invariant-loop-item
invariant-loop-item g l = ReadBefore g.T.FromJson.reads (items_data l.fn.items) (items_data l.items) l.values.items

abbrev pub decreases-loop-item : goal.decreases-loop-item
decreases-loop-item g l = items_count (items_data l.items)
