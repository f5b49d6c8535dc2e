-- A JSON text that is written part by part.
use Rattle.std.specs.Prelude.{◌≡◌, ◌≤◌, ◌+◌, ℕ, List, [], ◌∷◌, ◌++◌, false, Some, IsTrue}
use Rattle.json.specs.Token.{Token}
use Rattle.json.specs.Json as json
use Rattle.json.specs.Lex.{tokens}
use Rattle.json.specs.Print.{print}
use Rattle.json.specs.Tree as tree
use Rattle.serde_json.specs.Data.{Data, Items, Members, no_members, depth, items_depth, members_depth}
use Rattle.serde_json.specs.Read.{read, max_depth, of_items, of_members}
use Rattle.serde_json.specs.Written.{WritesValue, blank_items, blank_members, items_outline, members_outline}
use Rattle.serde_json.specs.Written.{has_float, compact_text, IsInOrder}
use Rattle.lsp_json_write.specs.Taken.{Taken, nothing, whole, open_array, open_object, open_member, are_before}
use Rattle.lsp_json_write.specs.declared.json_writer.JsonWriter.{JsonWriter}

-- the tokens of items, with no bracket
abbrev pub open_items : json.Items → List Token
open_items json.no_items = []
open_items (json.item j js) = tree.json_tokens j ++ open_items js

-- the tokens of members, with no brace
abbrev pub open_members : json.Members → List Token
open_members json.no_members = []
open_members (json.member k j ms) = Token.key k ∷ (tree.json_tokens j ++ open_members ms)

-- an array with these items was begun after the tokens `before`
abbrev pub HasItems : Items → List Token → List Token → Type 0
HasItems ds before ts = (js : json.Items) × (ts ≡ before ++ Token.begin_array ∷ open_items js)
    × (of_items js ≡ Some ds) × (tree.items_depth js ≤ items_depth ds) × (blank_items js ≡ items_outline ds)

-- an object with these members was begun after the tokens `before`
abbrev pub HasMembers : Members → List Token → List Token → Type 0
HasMembers ds before ts = (ms : json.Members) × (ts ≡ before ++ Token.begin_object ∷ open_members ms)
    × (of_members ms no_members ≡ Some ds) × (tree.members_depth ms ≤ members_depth ds)
    × (blank_members ms ≡ members_outline ds)

-- These tokens are the text of what was taken, and so many levels may still be opened.
abbrev pub IsTextOf : Taken → List Token → ℕ → Type 0
IsTextOf nothing ts levels = (ts ≡ []) × (levels ≡ max_depth)
IsTextOf (whole d) ts levels = WritesValue d [] ts × (depth d ≤ max_depth) × (levels ≡ max_depth)
IsTextOf (open_array ds outer) ts levels =
    (before : List Token) × IsTextOf outer before (levels + 1) × HasItems ds before ts × (items_depth ds ≤ levels)
IsTextOf (open_object ms outer) ts levels =
    (before : List Token) × IsTextOf outer before (levels + 1) × HasMembers ms before ts × (members_depth ms ≤ levels)
IsTextOf (open_member k ms outer) ts levels =
    (before inside : List Token) × IsTextOf outer before (levels + 1) × HasMembers ms before inside
    × (members_depth ms ≤ levels) × (ts ≡ inside ++ Token.key k ∷ []) × IsTrue (are_before k ms)

-- a writer has written the text of this
abbrev pub HasWritten : JsonWriter → Taken → Type 0
HasWritten w t = IsTextOf t w.out.tokens w.levels × (w.out.before ≡ [])

-- A text that was written for a value, with no space, and that `serde_json` reads as the value. There is one such text
-- if the value has no float. The digits of a float are the choice of `serde_json`.
pub record IsWrittenText (d : Data) (text : List ℕ) : Type 0 where
  pub exact : has_float d ≡ false → text ≡ compact_text d
  pub compact : text ≡ print (tokens text)
  pub in_order : IsInOrder text d
  pub shallow : depth d ≤ max_depth
  pub reads_back : read text ≡ Some d
