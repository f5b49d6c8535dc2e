use Rattle.std.proofs.Common.{◌≡◌, List, ◌++◌, take}
use Rattle.serde_json.specs.Data.{no_items, no_members}
use Rattle.serde_json.specs.View.{items_view, members_view}
use Rattle.serde_json.proofs.Views.{Entry}
use Rattle.lsp_json_write.specs.Taken.{Taken, open_array, open_object}
use Rattle.lsp_json_write.specs.Text.{HasWritten}
use Rattle.lsp_json_write.proofs.json_writer.JsonWriter.+tree.Given as goal

abbrev pub invariant-items-loop-item : goal.invariant-items-loop-item
invariant-items-loop-item l = (outer : Taken) → HasWritten l.initial.self (open_array no_items outer)
    → HasWritten l.self (open_array (items_view (take l.item-index l.item-items)) outer)

abbrev pub invariant-members-loop-key : goal.invariant-members-loop-key
invariant-members-loop-key l = (done : List Entry) × (l.members.entries ≡ done ++ l.key-iterator)
    × ((outer : Taken) → HasWritten l.initial.self (open_object no_members outer)
    → HasWritten l.self (open_object (members_view done) outer))
