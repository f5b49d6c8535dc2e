-- The data that a `JsonRef` stands for, and the items that are left of a list.
use Rattle.std.specs.Prelude.{ℕ, zero, suc, List, Bool, false, not, ◌||◌, bytes_eq, map, option_map, unwrap_or}
use Rattle.std.specs.List.{list_any}
use Rattle.serde_json.specs.Data.{Data, Items, Members, null, no_items, item, no_members, member}
use Rattle.serde_json.specs.Find.{as_object}
use Rattle.serde_json.specs.View.{items_of, view}
use Rattle.lsp_json.specs.Text.{text_data, text_items}
use Rattle.lsp_json.specs.declared.json_ref.ItemsSource.{ItemsSource}
use Rattle.lsp_json.specs.declared.json_ref.ItemsSource.TheVariants as items_source
use Rattle.lsp_json.specs.declared.json_ref.JsonItems.{JsonItems}
use Rattle.lsp_json.specs.declared.json_ref.JsonRef.{JsonRef}
use Rattle.lsp_json.specs.declared.json_ref.Source.{Source}
use Rattle.lsp_json.specs.declared.json_ref.Source.TheVariants.{Null, Text, Tree}

abbrev pub source_data : Source → Data
source_data (Tree tree) = view tree.now
source_data (Text text) = text_data text.element
source_data Null = null

abbrev pub items_source_data : ItemsSource → Items
items_source_data (items_source.Tree trees) = items_of (map view trees.now)
items_source_data (items_source.Text text) = text_items text.items

-- the data of a value, wherever it stands
unfoldable pub json_data : JsonRef → Data
json_data json = source_data json.source

-- the data of the items that are left
unfoldable pub items_data : JsonItems → Items
items_data items = items_source_data items.source

-- how many items there are
abbrev pub items_count : Items → ℕ
items_count no_items = zero
items_count (item json rest) = suc (items_count rest)

-- whether a key is none of these
abbrev pub is_other : List (List ℕ) → List ℕ → Bool
is_other keys key = not (list_any (λ named. bytes_eq named key) keys)

-- whether one of the members has another key than these
abbrev pub others_within : List (List ℕ) → Members → Bool
others_within keys no_members = false
others_within keys (member key json rest) = is_other keys key || others_within keys rest

-- whether the value is an object that has such a member
abbrev pub has_others : List (List ℕ) → Data → Bool
has_others keys json = unwrap_or (option_map (others_within keys) (as_object json)) false
