-- How the text of a value grows, part by part.
use Rattle.std.proofs.Common.{◌≡◌, ◌≤◌, ◌+◌, ℕ, max, List, [], ◌∷◌, ◌++◌, Option, Some, None, IfSome}
use Rattle.std.proofs.Common.{Ordering, Less, Equal, Greater, IsTrue, true, false, true≢false, nat_cmp}
use Rattle.std.proofs.Common.{option_map, option_and_then}
use Rattle.std.proofs.Common.{refl, sym, ap, ap₂, ◌∙◌, subst, arith, append_assoc, append-nil}
use Rattle.std.proofs.lemmas.Bool.{and_from, and_parts}
use Rattle.std.proofs.lemmas.Cmp.{nat_list_cmp_total}
use Rattle.std.specs.Cmp.Lexicographic.{slice_cmp}
use Rattle.std.specs.Ordering.{match_ordering, ordering_reverse}
use Rattle.json.specs.Token.{Token}
use Rattle.json.specs.Json as json
use Rattle.json.specs.Lex.{tokens}
use Rattle.json.specs.Print.{print}
use Rattle.json.specs.Tree as tree
use Rattle.json.specs.Written.{Written}
use Rattle.json.proofs.Printed.Trees.{value-json_tokens}
use Rattle.serde_json.specs.Data.{Data, Items, no_items, item, Members, no_members, member, array, object, put}
use Rattle.serde_json.specs.Data.{depth, items_depth, members_depth}
use Rattle.serde_json.specs.Read.{read, max_depth, of_json, of_items, of_members}
use Rattle.serde_json.specs.View.{items_of}
use Rattle.serde_json.specs.Written.{WritesValue, IsInOrder, outline, items_outline}
use Rattle.serde_json.specs.Written.{members_outline, blank, blank_items, blank_members}
use Rattle.serde_json.proofs.Texts.{tokens_from_order, print-outline}
use Rattle.lsp_json_write.specs.Taken.{Taken, nothing, whole, open_array, open_object, open_member, add_item, precedes}
use Rattle.lsp_json_write.specs.Taken.{are_before, with_value, array_ended, object_ended, Steps}
use Rattle.lsp_json_write.specs.Text.{open_items, open_members, HasItems, HasMembers, IsTextOf, HasWritten}
use Rattle.lsp_json_write.specs.Text.{IsWrittenText}
use Rattle.lsp_json_write.specs.declared.json_writer.JsonWriter.{JsonWriter}

-- ---- one more item

abbrev add_json : json.Items → json.Json → json.Items
add_json json.no_items j = json.item j json.no_items
add_json (json.item k js) j = json.item k (add_json js j)

open_items-add_json : (js : json.Items) (j : json.Json)
    → open_items (add_json js j) ≡ open_items js ++ tree.json_tokens j
open_items-add_json json.no_items j = append-nil (tree.json_tokens j)
open_items-add_json (json.item k js) j =
    ap (λ ts. tree.json_tokens k ++ ts) (open_items-add_json js j)
    ∙ sym (append_assoc (tree.json_tokens k) (open_items js) (tree.json_tokens j))

first_read : (q : Option Data)
    → option_and_then (λ d. option_map (item d) (Some no_items)) q ≡ option_map (add_item no_items) q
first_read None = refl
first_read (Some d) = refl

later_read : (r : Option Data) (s : Option Items) (q : Option Data)
    → option_and_then (λ e. option_map (item e) (option_and_then (λ ds. option_map (add_item ds) q) s)) r
    ≡ option_and_then (λ ds. option_map (add_item ds) q) (option_and_then (λ e. option_map (item e) s) r)
later_read None s q = refl
later_read (Some e) None q = refl
later_read (Some e) (Some ds) None = refl
later_read (Some e) (Some ds) (Some d) = refl

of_items-add_json : (js : json.Items) (j : json.Json)
    → of_items (add_json js j) ≡ option_and_then (λ ds. option_map (add_item ds) (of_json j)) (of_items js)
of_items-add_json json.no_items j = first_read (of_json j)
of_items-add_json (json.item k js) j =
    ap (λ s. option_and_then (λ e. option_map (item e) s) (of_json k)) (of_items-add_json js j)
    ∙ later_read (of_json k) (of_items js) (of_json j)

items_depth-add_json : (js : json.Items) (j : json.Json)
    → tree.items_depth (add_json js j) ≡ max (tree.items_depth js) (tree.depth j)
items_depth-add_json json.no_items j = omega arith
items_depth-add_json (json.item k js) j = omega (arith, items_depth-add_json js j)

items_depth-add_item : (ds : Items) (d : Data) → items_depth (add_item ds d) ≡ max (items_depth ds) (depth d)
items_depth-add_item no_items d = omega arith
items_depth-add_item (item e ds) d = omega (arith, items_depth-add_item ds d)

blank_items-add_json : (js : json.Items) (j : json.Json)
    → blank_items (add_json js j) ≡ add_json (blank_items js) (blank j)
blank_items-add_json json.no_items j = refl
blank_items-add_json (json.item k js) j = ap (json.item (blank k)) (blank_items-add_json js j)

items_outline-add_item : (ds : Items) (d : Data)
    → items_outline (add_item ds d) ≡ add_json (items_outline ds) (outline d)
items_outline-add_item no_items d = refl
items_outline-add_item (item e ds) d = ap (json.item (outline e)) (items_outline-add_item ds d)

-- an item came into the array that is open
item_written : (ds : Items) (d : Data) (before old new : List Token) → HasItems ds before old → WritesValue d old new
    → HasItems (add_item ds d) before new
item_written ds d before old new h w =
    let js = h.0 in
    let j = w.0 in (
      add_json js j,
      w.1 ∙ ap (λ ts. ts ++ tree.json_tokens j) h.1
          ∙ append_assoc before (Token.begin_array ∷ open_items js) (tree.json_tokens j)
          ∙ ap (λ ts. before ++ Token.begin_array ∷ ts) (sym (open_items-add_json js j)),
      of_items-add_json js j ∙ ap (option_and_then (λ es. option_map (add_item es) (of_json j))) h.2
          ∙ ap (option_map (add_item ds)) w.2,
      omega (arith, items_depth-add_json js j, items_depth-add_item ds d, h.3, w.3),
      blank_items-add_json js j ∙ ap₂ add_json h.4 w.4 ∙ sym (items_outline-add_item ds d),
    )

items_tokens-open_items : (js : json.Items) → open_items js ++ Token.end_array ∷ [] ≡ tree.items_tokens js
items_tokens-open_items json.no_items = refl
items_tokens-open_items (json.item j js) =
    append_assoc (tree.json_tokens j) (open_items js) (Token.end_array ∷ [])
    ∙ ap (λ ts. tree.json_tokens j ++ ts) (items_tokens-open_items js)

-- the array was closed, which is then one value
array_closed : (ds : Items) (before old new : List Token) → HasItems ds before old
    → new ≡ old ++ Token.end_array ∷ [] → WritesValue (array ds) before new
array_closed ds before old new h closed =
    let js = h.0 in (
      json.array js,
      closed ∙ ap (λ ts. ts ++ Token.end_array ∷ []) h.1
          ∙ append_assoc before (Token.begin_array ∷ open_items js) (Token.end_array ∷ [])
          ∙ ap (λ ts. before ++ Token.begin_array ∷ ts) (items_tokens-open_items js),
      ap (option_map array) h.2,
      omega (arith, h.3),
      ap json.array h.4,
    )

-- what a list has at its end
pub items_of-add_item : (l : List Data) (d : Data) → items_of (l ++ d ∷ []) ≡ add_item (items_of l) d
items_of-add_item [] d = refl
items_of-add_item (e ∷ l) d = ap (item e) (items_of-add_item l d)

-- ---- the order of the keys

is_less : (o : Ordering) → IsTrue (match_ordering o true false false) → o ≡ Less
is_less Less h = refl
is_less Equal h = absurd (true≢false (sym h))
is_less Greater h = absurd (true≢false (sym h))

pub from_less : (o : Ordering) → o ≡ Less → IsTrue (match_ordering o true false false)
from_less o e = rw e refl

-- a key stands before another one that stands later still
pub precedes_later : (k l m : List ℕ) → IsTrue (precedes k l) → IsTrue (precedes l m) → IsTrue (precedes k m)
precedes_later k l m a b =
    from_less _ (nat_list_cmp_total.trans k l m (is_less (slice_cmp nat_cmp k l) a) (is_less (slice_cmp nat_cmp l m) b))

-- what stands before a key stands before each later one
pub are_before_later : (k l : List ℕ) (ms : Members) → IsTrue (are_before k ms) → IsTrue (precedes k l)
    → IsTrue (are_before l ms)
are_before_later k l no_members h later = refl
are_before_later k l (member m d ms) h later =
    let each = and_parts (precedes m k) (are_before k ms) h in
    and_from _ _ (precedes_later m k l each.0 later) (are_before_later k l ms each.1 later)

-- ---- one more member

abbrev add_member : Members → List ℕ → Data → Members
add_member no_members k d = member k d no_members
add_member (member l e ms) k d = member l e (add_member ms k d)

put_last : (k : List ℕ) (d : Data) (ms : Members) → IsTrue (are_before k ms) → put k d ms ≡ add_member ms k d
put_last k d no_members h = refl
put_last k d (member l e ms) h =
    let each = and_parts (precedes l k) (are_before k ms) h in
    let above : slice_cmp nat_cmp k l ≡ Greater =
    nat_list_cmp_total.antisymm k l ∙ ap ordering_reverse (is_less (slice_cmp nat_cmp l k) each.0) in
    rw above (ap (member l e) (put_last k d ms each.1))

are_before-add_member : (k l : List ℕ) (d : Data) (ms : Members) → IsTrue (are_before l ms) → IsTrue (precedes k l)
    → IsTrue (are_before l (add_member ms k d))
are_before-add_member k l d no_members h later = and_from _ _ later refl
are_before-add_member k l d (member m e ms) h later =
    let each = and_parts (precedes m l) (are_before l ms) h in
    and_from _ _ each.0 (are_before-add_member k l d ms each.1 later)

-- members before a key, and one at that key, stand before each later key
pub are_before_put : (k l : List ℕ) (d : Data) (ms : Members) → IsTrue (are_before k ms) → IsTrue (precedes k l)
    → IsTrue (are_before l (put k d ms))
are_before_put k l d ms h later =
    subst (λ those. IsTrue (are_before l those)) (sym (put_last k d ms h))
    (are_before-add_member k l d ms (are_before_later k l ms h later) later)

abbrev add_json_member : json.Members → List ℕ → json.Json → json.Members
add_json_member json.no_members k j = json.member k j json.no_members
add_json_member (json.member l i ms) k j = json.member l i (add_json_member ms k j)

open_members-add : (ms : json.Members) (k : List ℕ) (j : json.Json)
    → open_members (add_json_member ms k j) ≡ open_members ms ++ Token.key k ∷ tree.json_tokens j
open_members-add json.no_members k j = ap (λ ts. Token.key k ∷ ts) (append-nil (tree.json_tokens j))
open_members-add (json.member l i ms) k j =
    ap (λ ts. Token.key l ∷ (tree.json_tokens i ++ ts)) (open_members-add ms k j)
    ∙ ap (λ ts. Token.key l ∷ ts)
    (sym (append_assoc (tree.json_tokens i) (open_members ms) (Token.key k ∷ tree.json_tokens j)))

first_put : (q : Option Data) (k : List ℕ) (found : Members)
    → option_and_then (λ d. Some (put k d found)) q ≡ option_map (λ d. put k d found) q
first_put None k found = refl
first_put (Some d) k found = refl

later_put : (r : Option Data) (f g : Data → Option Members) (h : Members → Option Members)
    → ((d : Data) → f d ≡ option_and_then h (g d)) → option_and_then f r ≡ option_and_then h (option_and_then g r)
later_put None f g h e = refl
later_put (Some d) f g h e = e d

of_members-add : (ms : json.Members) (k : List ℕ) (j : json.Json) (found : Members)
    → of_members (add_json_member ms k j) found
    ≡ option_and_then (λ ds. option_map (λ d. put k d ds) (of_json j)) (of_members ms found)
of_members-add json.no_members k j found = first_put (of_json j) k found
of_members-add (json.member l i ms) k j found =
    later_put (of_json i) _ _ _ (λ d. of_members-add ms k j (put l d found))

members_depth-add_json : (ms : json.Members) (k : List ℕ) (j : json.Json)
    → tree.members_depth (add_json_member ms k j) ≡ max (tree.members_depth ms) (tree.depth j)
members_depth-add_json json.no_members k j = omega arith
members_depth-add_json (json.member l i ms) k j = omega (arith, members_depth-add_json ms k j)

members_depth-add_member : (ms : Members) (k : List ℕ) (d : Data)
    → members_depth (add_member ms k d) ≡ max (members_depth ms) (depth d)
members_depth-add_member no_members k d = omega arith
members_depth-add_member (member l e ms) k d = omega (arith, members_depth-add_member ms k d)

blank_members-add : (ms : json.Members) (k : List ℕ) (j : json.Json)
    → blank_members (add_json_member ms k j) ≡ add_json_member (blank_members ms) k (blank j)
blank_members-add json.no_members k j = refl
blank_members-add (json.member l i ms) k j = ap (json.member l (blank i)) (blank_members-add ms k j)

members_outline-add : (ms : Members) (k : List ℕ) (d : Data)
    → members_outline (add_member ms k d) ≡ add_json_member (members_outline ms) k (outline d)
members_outline-add no_members k d = refl
members_outline-add (member l e ms) k d = ap (json.member l (outline e)) (members_outline-add ms k d)

-- a key and its value came into the object that is open
member_written : (ds : Members) (k : List ℕ) (d : Data) (before old mid new : List Token) → HasMembers ds before old
    → IsTrue (are_before k ds) → mid ≡ old ++ Token.key k ∷ [] → WritesValue d mid new
    → HasMembers (put k d ds) before new
member_written ds k d before old mid new h after took w =
    let js = h.0 in
    let j = w.0 in
    let last = put_last k d ds after in
    let deep : members_depth (put k d ds) ≡ max (members_depth ds) (depth d) =
    ap members_depth last ∙ members_depth-add_member ds k d in (
      add_json_member js k j,
      w.1 ∙ ap (λ ts. ts ++ tree.json_tokens j) took
          ∙ append_assoc old (Token.key k ∷ []) (tree.json_tokens j)
          ∙ ap (λ ts. ts ++ Token.key k ∷ tree.json_tokens j) h.1
          ∙ append_assoc before (Token.begin_object ∷ open_members js) (Token.key k ∷ tree.json_tokens j)
          ∙ ap (λ ts. before ++ Token.begin_object ∷ ts) (sym (open_members-add js k j)),
      of_members-add js k j no_members
          ∙ ap (option_and_then (λ es. option_map (λ e. put k e es) (of_json j))) h.2
          ∙ ap (option_map (λ e. put k e ds)) w.2,
      omega (arith, members_depth-add_json js k j, deep, h.3, w.3),
      blank_members-add js k j ∙ ap₂ (λ ms b. add_json_member ms k b) h.4 w.4
          ∙ sym (members_outline-add ds k d) ∙ ap members_outline (sym last),
    )

put_depth : (k : List ℕ) (d : Data) (ms : Members) (n : ℕ) → IsTrue (are_before k ms) → members_depth ms ≤ n
    → depth d ≤ n → members_depth (put k d ms) ≤ n
put_depth k d ms n after few low =
    omega (arith, ap members_depth (put_last k d ms after), members_depth-add_member ms k d)

members_tokens-open_members : (ms : json.Members) → open_members ms ++ Token.end_object ∷ [] ≡ tree.members_tokens ms
members_tokens-open_members json.no_members = refl
members_tokens-open_members (json.member k j ms) =
    ap (λ ts. Token.key k ∷ ts) (append_assoc (tree.json_tokens j) (open_members ms) (Token.end_object ∷ [])
    ∙ ap (λ ts. tree.json_tokens j ++ ts) (members_tokens-open_members ms))

-- the object was closed, which is then one value
object_closed : (ds : Members) (before old new : List Token) → HasMembers ds before old
    → new ≡ old ++ Token.end_object ∷ [] → WritesValue (object ds) before new
object_closed ds before old new h closed =
    let ms = h.0 in (
      json.object ms,
      closed ∙ ap (λ ts. ts ++ Token.end_object ∷ []) h.1
          ∙ append_assoc before (Token.begin_object ∷ open_members ms) (Token.end_object ∷ [])
          ∙ ap (λ ts. before ++ Token.begin_object ∷ ts) (members_tokens-open_members ms),
      ap (option_map object) h.2,
      omega (arith, h.3),
      ap json.object h.4,
    )

-- ---- the steps of a writer

-- no more levels may be opened than in a text that is read
few_levels : (t : Taken) (ts : List Token) (n : ℕ) → IsTextOf t ts n → n ≤ 127
few_levels nothing ts n h = omega (arith, h.1)
few_levels (whole d) ts n h = omega (arith, h.2)
few_levels (open_array ds outer) ts n h = omega (arith, few_levels outer h.0 (n + 1) h.1)
few_levels (open_object ms outer) ts n h = omega (arith, few_levels outer h.0 (n + 1) h.1)
few_levels (open_member k ms outer) ts n h = omega (arith, few_levels outer h.0 (n + 1) h.2)

-- one more value
value_taken : {P : Type 0} (d : Data) (t : Taken) (old new : List Token) (n : ℕ) → IsTextOf t old n
    → WritesValue d old new → depth d ≤ n → P → IfSome (with_value d t) (λ u. IsTextOf u new n × P)
value_taken d nothing old new n h w low p =
    (((subst (λ ts. WritesValue d ts new) h.0 w), (omega (arith, h.1)), h.1), p)
value_taken d (whole e) old new n h w low p = tt
value_taken d (open_array ds outer) old new n h w low p = (
  (
    h.0,
    h.1,
    item_written ds d h.0 old new h.2 w,
    omega (arith, items_depth-add_item ds d, h.3),
  ),
  p,
)
value_taken d (open_object ms outer) old new n h w low p = tt
value_taken d (open_member k ms outer) old new n h w low p = (
  (
    h.0,
    h.2,
    member_written ms k d h.0 h.1 old new h.3 h.6 h.5 w,
    put_depth k d ms n h.6 h.4 low,
  ),
  p,
)

-- a value with no level of its own was written
pub took : (d : Data) (old : JsonWriter) (out : Written) → WritesValue d old.out.tokens out.tokens → depth d ≡ 0
    → out.before ≡ old.out.before
    → Steps HasWritten (with_value d) old (record { alloc = old.alloc; out = out; levels = old.levels })
took d old out w flat kept t h =
    value_taken d t old.out.tokens out.tokens old.levels h.0 w (omega (arith, flat)) (kept ∙ h.1)

-- an array was ended
pub ended_array : (old : JsonWriter) (out : Written) (levels : ℕ)
    → out.tokens ≡ old.out.tokens ++ Token.end_array ∷ [] → (old.levels ≤ 126 → levels ≡ old.levels + 1)
    → out.before ≡ old.out.before
    → Steps HasWritten array_ended old (record { alloc = old.alloc; out = out; levels = levels })
ended_array old out levels closed more kept nothing h = tt
ended_array old out levels closed more kept (whole e) h = tt
ended_array old out levels closed more kept (open_array ds outer) h =
    let before = h.0.0 in
    let few : old.levels + 1 ≤ 127 = few_levels outer before (old.levels + 1) h.0.1 in
    let one_more = more (omega (arith, few)) in
    value_taken (array ds) outer before out.tokens levels (subst (IsTextOf outer before) (sym one_more) h.0.1)
    (array_closed ds before old.out.tokens out.tokens h.0.2 closed) (omega (arith, h.0.3, one_more)) (kept ∙ h.1)
ended_array old out levels closed more kept (open_object ms outer) h = tt
ended_array old out levels closed more kept (open_member k ms outer) h = tt

-- an object was ended
pub ended_object : (old : JsonWriter) (out : Written) (levels : ℕ)
    → out.tokens ≡ old.out.tokens ++ Token.end_object ∷ [] → (old.levels ≤ 126 → levels ≡ old.levels + 1)
    → out.before ≡ old.out.before
    → Steps HasWritten object_ended old (record { alloc = old.alloc; out = out; levels = levels })
ended_object old out levels closed more kept nothing h = tt
ended_object old out levels closed more kept (whole e) h = tt
ended_object old out levels closed more kept (open_array ds outer) h = tt
ended_object old out levels closed more kept (open_object ms outer) h =
    let before = h.0.0 in
    let few : old.levels + 1 ≤ 127 = few_levels outer before (old.levels + 1) h.0.1 in
    let one_more = more (omega (arith, few)) in
    value_taken (object ms) outer before out.tokens levels (subst (IsTextOf outer before) (sym one_more) h.0.1)
    (object_closed ms before old.out.tokens out.tokens h.0.2 closed) (omega (arith, h.0.3, one_more)) (kept ∙ h.1)
ended_object old out levels closed more kept (open_member k ms outer) h = tt

-- ---- the whole text

-- what is read, of a text's first value and the rest
abbrev first_of : Option (json.Json × List Token) → Option Data
first_of o = option_and_then of_json (option_and_then (λ p. json.if_last p.0 p.1) o)

read_back : (d : Data) (ts : List Token) (text : List ℕ) → WritesValue d [] ts → tokens text ≡ ts
    → depth d ≤ max_depth → read text ≡ Some d
read_back d ts text w same shallow =
    ap first_of (ap (json.value max_depth) (same ∙ w.1 ∙ sym (append-nil _))
    ∙ value-json_tokens w.0 max_depth [] (omega (arith, w.3))) ∙ w.2

-- what a writer wrote as one value is the text of that value
pub whole_text : (d : Data) (w : JsonWriter) (text : List ℕ) → HasWritten w (whole d)
    → text ≡ w.out.before ++ print w.out.tokens → tokens (print w.out.tokens) ≡ w.out.tokens → IsWrittenText d text
whole_text d w text h is same =
    let ts = w.out.tokens in
    let bare : text ≡ print ts = is ∙ ap (λ b. b ++ print ts) h.1 in
    let found : tokens text ≡ ts = ap tokens bare ∙ same in
    let written : WritesValue d [] ts = h.0.0 in
    let shallow : depth d ≤ max_depth = h.0.1 in
    let compact : text ≡ print (tokens text) = bare ∙ ap print (sym found) in
    let in_order : IsInOrder text d = (written.0, found ∙ written.1, written.4) in
    record {
      exact = λ h. compact ∙ ap print (tokens_from_order text d in_order h) ∙ print-outline d;
      compact = compact;
      in_order = in_order;
      shallow = shallow;
      reads_back = read_back d ts text written found shallow;
    }
