-- The items and the members of a tree, up to one of them.
use Rattle.std.proofs.Common.{◌≡◌, List, [], ◌∷◌, ◌++◌, IsTrue, Less, refl, ap, string_bytes, string_cmp}
use Rattle.std.proofs.lemmas.Bool.{and_from}
use Rattle.std.specs.List.{AllByRecursion}
use Rattle.std.specs.List.Sorted.{IsStrictlySortedBy}
use Rattle.std.specs.Map.{keys_of}
use Rattle.serde_json.specs.Data.{item}
use Rattle.serde_json.specs.View.{items_view, members_view, view}
use Rattle.serde_json.specs.declared.value.Value.{Value}
use Rattle.serde_json.proofs.Views.{Entry}
use Rattle.lsp_json_write.specs.Taken.{add_item, are_before}
use Rattle.lsp_json_write.proofs.Writing.{from_less}

pub items_view-add_item : (vs : List Value) (v : Value) → items_view (vs ++ v ∷ []) ≡ add_item (items_view vs) (view v)
items_view-add_item [] v = refl
items_view-add_item (u ∷ vs) v = ap (item (view u)) (items_view-add_item vs v)

below_middle : (first : Entry) (es : List Entry) (e : Entry) (more : List Entry)
    → AllByRecursion (λ y. string_cmp first.0 y ≡ Less) (keys_of (es ++ e ∷ more)) → string_cmp first.0 e.0 ≡ Less
below_middle first [] e more h = h.0
below_middle first (x ∷ es) e more h = below_middle first es e more h.1

-- the keys of a map are in order
pub are_before_entry : (done : List Entry) (e : Entry) (more : List Entry)
    → IsStrictlySortedBy string_cmp (keys_of (done ++ e ∷ more))
    → IsTrue (are_before (string_bytes e.0) (members_view done))
unfolding IsStrictlySortedBy
are_before_entry [] e more h = refl
are_before_entry (first ∷ done) e more h =
    and_from _ _ (from_less _ (below_middle first done e more h.0)) (are_before_entry done e more h.1)
