-- What a short list holds, for private clauses.
use Rattle.std.specs.Prelude.{◌≡◌, ◌⊎◌}
use Rattle.serde_json.specs.Data.{Data, Items, no_items, item}
use Rattle.serde_json.specs.View.{view}
use Rattle.lsp_message.specs.declared.msg.tree.Listed.{Listed}
use Rattle.lsp_message.specs.declared.msg.tree.Listed.TheVariants.{One, Two, Three, Other}

-- a list with one, two or three items, and no other has these items
abbrev pub Lists : Listed → Items → Type 0
Lists (One a) ds = ds ≡ item (view a) no_items
Lists (Two a b) ds = ds ≡ item (view a) (item (view b) no_items)
Lists (Three a b c) ds = ds ≡ item (view a) (item (view b) (item (view c) no_items))
Lists Other ds = (ds ≡ no_items)
    ⊎ ((a : Data) × (b : Data) × (c : Data) × (e : Data) × (more : Items)
    × (ds ≡ item a (item b (item c (item e more)))))
