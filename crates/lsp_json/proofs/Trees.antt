-- The trees of a text's values, beside the data that the values stand for.
use Rattle.std.proofs.Common.{◌≡◌, List, [], ◌∷◌, ◌++◌, refl, ap}
use Rattle.serde_json.specs.Data.{Items, no_items, item}
use Rattle.serde_json.specs.View.{items_view, view}
use Rattle.serde_json.specs.declared.value.Value.{Value}

-- these items, before the rest
abbrev pub with_items : List Value → Items → Items
with_items [] rest = rest
with_items (v ∷ vs) rest = item (view v) (with_items vs rest)

pub with_items-no_items : (vs : List Value) → with_items vs no_items ≡ items_view vs
with_items-no_items [] = refl
with_items-no_items (v ∷ vs) = ap (item (view v)) (with_items-no_items vs)

pub with_items-push : (vs : List Value) (v : Value) (rest : Items)
    → with_items (vs ++ v ∷ []) rest ≡ with_items vs (item (view v) rest)
with_items-push [] v rest = refl
with_items-push (w ∷ vs) v rest = ap (item (view w)) (with_items-push vs v rest)
