-- A tree that is made part by part.
use Rattle.std.specs.Prelude.{◌≡◌, Option, Some, None, fold, string_bytes}
use Rattle.serde_json.specs.View.{items_view, members_view, view}
use Rattle.serde_json.specs.declared.value.Value.{Value}
use Rattle.lsp_json_write.specs.Taken.{Taken, nothing, whole, open_array, open_object, open_member}
use Rattle.lsp_json_write.specs.declared.tree_writer.Level.{Level}
use Rattle.lsp_json_write.specs.declared.tree_writer.Level.TheVariants as level
use Rattle.lsp_json_write.specs.declared.tree_writer.TreeWriter.{TreeWriter}

-- the whole value, if there is one
abbrev pub root_taken : Option Value → Taken
root_taken None = nothing
root_taken (Some value) = whole (view value)

-- a level that is open, in what is around it
abbrev pub within : Taken → Level → Taken
within outer (level.Array items) = open_array (items_view items.items) outer
within outer (level.Object members) = open_object (members_view members.entries) outer
within outer (level.Member members key) = open_member (string_bytes key) (members_view members.entries) outer

-- a writer has made the tree of this
abbrev pub HasMade : TreeWriter → Taken → Type 0
HasMade w t = fold within (root_taken w.root) w.levels.items ≡ t
