-- The result of a request while it waits: its text, or its tree where that could not be read back.
use Rattle.serde_json.specs.Data.{Data, depth}
use Rattle.serde_json.specs.Read.{max_depth}
use Rattle.serde_json.specs.View.{view}
use Rattle.serde_json.specs.declared.value.Value.{Value}
use Rattle.std.specs.Prelude.{◌≤◌, ℕ, List, nat_le, Bool, Option, Some, None, true, false, string_bytes}
use Rattle.lsp_trees.proofs.TreeOfText.{tree_of_text}
use Rattle.lsp_message.specs.Text.{IsValueText}
use Rattle.lsp_message.specs.declared.msg.result_text.Kept.{Kept}
use Rattle.lsp_message.specs.declared.msg.result_text.Kept.TheVariants.{Text, Written, Tree}

-- A text that may be written for data, and that is read back as the data: they nest at most 127 levels.
abbrev pub IsReadableText : List ℕ → Type 0
IsReadableText text = (d : Data) × IsValueText d text × (depth d ≤ max_depth)

-- the tree that the result is
abbrev pub kept_tree : Kept → Value
kept_tree (Text text tree) = tree.value
kept_tree (Written text) = (tree_of_text text).0
kept_tree (Tree tree) = tree

-- A text is one that the tree is written as. The tree nests at most 127 levels, so it is read back.
abbrev pub IsKept : Kept → Type 0
IsKept (Text text tree) = IsValueText (view tree.value) (string_bytes text) × (depth (view tree.value) ≤ max_depth)
IsKept (Written text) = IsReadableText (string_bytes text)
IsKept (Tree tree) = Unit {0}

abbrev if_so : Bool → Value → Option Value
if_so true tree = Some tree
if_so false tree = None

-- the tree if the result does not keep it
abbrev pub spare_tree : Value → Option Value
spare_tree tree = if_so (nat_le (depth (view tree)) max_depth) tree
