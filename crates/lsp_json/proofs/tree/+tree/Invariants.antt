use Rattle.std.proofs.Common.{◌≡◌, ◌+◌, ◌*◌, ◌≤◌, length}
use Rattle.serde_json.specs.Data.{no_members}
use Rattle.serde_json.specs.View.{members_view}
use Rattle.lsp_json.specs.Text.{text_items, text_members, text_depth, text_items_depth, text_members_depth}
use Rattle.lsp_json.proofs.Trees.{with_items}
use Rattle.lsp_json.proofs.tree.+tree.Given as goal

abbrev pub decreases-tree : goal.decreases-tree
decreases-tree l = 2 * text_depth l.text.now.element

abbrev pub decreases-array : goal.decreases-array
decreases-array l = 2 * text_items_depth l.items.items + 1

abbrev pub decreases-object : goal.decreases-object
decreases-object l = 2 * text_members_depth l.members.members + 1

abbrev pub invariant-array-items : goal.invariant-array-items
invariant-array-items l =
    (text_items l.initial.items.items ≡ with_items l.trees.items (text_items l.items.items))
    × (text_items_depth l.items.items ≤ text_items_depth l.initial.items.items)

abbrev pub decreases-array-items : goal.decreases-array-items
decreases-array-items l = length l.items.items

abbrev pub invariant-object-members : goal.invariant-object-members
invariant-object-members l =
    (text_members l.initial.members.members no_members ≡ text_members l.members.members (members_view l.trees.entries))
    × (text_members_depth l.members.members ≤ text_members_depth l.initial.members.members)

abbrev pub decreases-object-members : goal.decreases-object-members
decreases-object-members l = length l.members.members
