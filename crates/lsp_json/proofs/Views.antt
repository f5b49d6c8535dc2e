-- What is found in a text is found in the data that serde_json reads there.
use Rattle.std.proofs.Common.{◌≡◌, ℕ, ◌≤◌, max, List, Bool, true, false, cond, bytes_eq, Option, Some, None, option_map}
use Rattle.std.proofs.Common.{option_and_then, refl, sym, ap, ◌∙◌, subst, arith}
use Rattle.std.proofs.lemmas.Bool.Decides.{not_from_Decides}
use Rattle.std.proofs.lemmas.Slice.Eq.{bytes_eq-Decides}
use Rattle.json.specs.Json as json
use Rattle.json.specs.Find as find
use Rattle.json.specs.Tree.{depth, members_depth}
use Rattle.json.proofs.Found.{not_found, Some_inj}
use Rattle.serde_json.specs.Data.{Num, Data, number, array, object, Items, item, Members, no_members, put}
use Rattle.serde_json.specs.Read.{number_of, of_json, of_items, of_members}
use Rattle.serde_json.specs.Find.{get, get_member, as_null, as_bool, as_number, as_str, as_array, as_object}
use Rattle.serde_json.proofs.Views.{get_member-put, get_member-put_other}
use Rattle.std.specs.Prelude.{is_some}

-- what g says of each f a, where an f a was read
each : {A B : Type 0} (f : A → Data) (g : Data → B) (b : B) → ((a : A) → b ≡ g (f a)) → (o : Option A) (d : Data)
    → option_map f o ≡ Some d → b ≡ g d
each f g b is None d e = not_found d e
each f g b is (Some a) d e = is a ∙ ap g (Some_inj (f a) d e)

-- a look at the data that agrees at each kind of value that has no more inside
module _ {B : Type 0} (g : Data → B) (b : B) where
  on_numbers : ((n : Num) → b ≡ g (number n)) → (s : List ℕ) (d : Data) → of_json (json.number s) ≡ Some d → b ≡ g d
  on_numbers is s d e = each number g b is (number_of s) d e

  on_arrays : ((ds : Items) → b ≡ g (array ds)) → (js : json.Items) (d : Data) → of_json (json.array js) ≡ Some d
      → b ≡ g d
  on_arrays is js d e = each array g b is (of_items js) d e

  on_objects : ((ms : Members) → b ≡ g (object ms)) → (ms : json.Members) (d : Data) → of_json (json.object ms) ≡ Some d
      → b ≡ g d
  on_objects is ms d e = each object g b is (of_members ms no_members) d e

pub is_null-of_json : (j : json.Json) (d : Data) → of_json j ≡ Some d → find.is_null j ≡ is_some (as_null d)
is_null-of_json json.null d e = ap (λ x. is_some (as_null x)) (Some_inj _ _ e)
is_null-of_json (json.boolean b) d e = ap (λ x. is_some (as_null x)) (Some_inj _ _ e)
is_null-of_json (json.number s) d e = on_numbers (λ x. is_some (as_null x)) false (λ n. refl) s d e
is_null-of_json (json.string s) d e = ap (λ x. is_some (as_null x)) (Some_inj _ _ e)
is_null-of_json (json.array js) d e = on_arrays (λ x. is_some (as_null x)) false (λ n. refl) js d e
is_null-of_json (json.object ms) d e = on_objects (λ x. is_some (as_null x)) false (λ n. refl) ms d e

pub as_bool-of_json : (j : json.Json) (d : Data) → of_json j ≡ Some d → find.as_bool j ≡ as_bool d
as_bool-of_json json.null d e = ap as_bool (Some_inj _ _ e)
as_bool-of_json (json.boolean b) d e = ap as_bool (Some_inj _ _ e)
as_bool-of_json (json.number s) d e = on_numbers as_bool None (λ n. refl) s d e
as_bool-of_json (json.string s) d e = ap as_bool (Some_inj _ _ e)
as_bool-of_json (json.array js) d e = on_arrays as_bool None (λ n. refl) js d e
as_bool-of_json (json.object ms) d e = on_objects as_bool None (λ n. refl) ms d e

pub as_str-of_json : (j : json.Json) (d : Data) → of_json j ≡ Some d → find.as_str j ≡ as_str d
as_str-of_json json.null d e = ap as_str (Some_inj _ _ e)
as_str-of_json (json.boolean b) d e = ap as_str (Some_inj _ _ e)
as_str-of_json (json.number s) d e = on_numbers as_str None (λ n. refl) s d e
as_str-of_json (json.string s) d e = ap as_str (Some_inj _ _ e)
as_str-of_json (json.array js) d e = on_arrays as_str None (λ n. refl) js d e
as_str-of_json (json.object ms) d e = on_objects as_str None (λ n. refl) ms d e

number_read : (o : Option Num) (d : Data) → option_map number o ≡ Some d → o ≡ as_number d
number_read None d e = not_found d e
number_read (Some n) d e = ap as_number (Some_inj (number n) d e)

pub as_number-of_json : (j : json.Json) (d : Data) → of_json j ≡ Some d
    → option_and_then number_of (find.as_number j) ≡ as_number d
as_number-of_json json.null d e = ap as_number (Some_inj _ _ e)
as_number-of_json (json.boolean b) d e = ap as_number (Some_inj _ _ e)
as_number-of_json (json.number s) d e = number_read (number_of s) d e
as_number-of_json (json.string s) d e = ap as_number (Some_inj _ _ e)
as_number-of_json (json.array js) d e = on_arrays as_number None (λ n. refl) js d e
as_number-of_json (json.object ms) d e = on_objects as_number None (λ n. refl) ms d e

-- ---- arrays

some_array : (o : Option Items) (d : Data) → option_map array o ≡ Some d → (ds : Items) × (o ≡ Some ds) × (array ds ≡ d)
some_array None d e = not_found d e
some_array (Some ds) d e = (ds, refl, Some_inj (array ds) d e)

-- the items of an array that was read
pub array-of_json : (js : json.Items) (d : Data) → of_json (json.array js) ≡ Some d
    → (ds : Items) × (of_items js ≡ Some ds) × (array ds ≡ d)
array-of_json js d e = some_array (of_items js) d e

pub no_array-of_json : (j : json.Json) (d : Data) → of_json j ≡ Some d → find.as_array j ≡ None → None ≡ as_array d
no_array-of_json json.null d e h = ap as_array (Some_inj _ _ e)
no_array-of_json (json.boolean b) d e h = ap as_array (Some_inj _ _ e)
no_array-of_json (json.number s) d e h = on_numbers as_array None (λ n. refl) s d e
no_array-of_json (json.string s) d e h = ap as_array (Some_inj _ _ e)
no_array-of_json (json.array js) d e h = not_found js (sym h)
no_array-of_json (json.object ms) d e h = on_objects as_array None (λ n. refl) ms d e

both_items : (o : Option Data) (p : Option Items) (ds : Items)
    → option_and_then (λ d. option_map (item d) p) o ≡ Some ds → (d : Data) × (rest : Items) × (o ≡ Some d)
    × (p ≡ Some rest) × (ds ≡ item d rest)
both_items None p ds e = not_found ds e
both_items (Some d) None ds e = not_found ds e
both_items (Some d) (Some rest) ds e = (d, rest, refl, refl, sym (Some_inj (item d rest) ds e))

pub item-of_items : (j : json.Json) (js : json.Items) (ds : Items) → of_items (json.item j js) ≡ Some ds
    → (d : Data) × (rest : Items) × (of_json j ≡ Some d) × (of_items js ≡ Some rest) × (ds ≡ item d rest)
item-of_items j js ds e = both_items (of_json j) (of_items js) ds e

-- ---- objects

some_object : (o : Option Members) (d : Data) → option_map object o ≡ Some d → (ms : Members) × (o ≡ Some ms)
    × (object ms ≡ d)
some_object None d e = not_found d e
some_object (Some ms) d e = (ms, refl, Some_inj (object ms) d e)

pub object-of_json : (ms : json.Members) (d : Data) → of_json (json.object ms) ≡ Some d
    → (all : Members) × (of_members ms no_members ≡ Some all) × (object all ≡ d)
object-of_json ms d e = some_object (of_members ms no_members) d e

pub no_object-of_json : (j : json.Json) (d : Data) → of_json j ≡ Some d → find.as_object j ≡ None → None ≡ as_object d
no_object-of_json json.null d e h = ap as_object (Some_inj _ _ e)
no_object-of_json (json.boolean b) d e h = ap as_object (Some_inj _ _ e)
no_object-of_json (json.number s) d e h = on_numbers as_object None (λ n. refl) s d e
no_object-of_json (json.string s) d e h = ap as_object (Some_inj _ _ e)
no_object-of_json (json.array js) d e h = on_arrays as_object None (λ n. refl) js d e
no_object-of_json (json.object ms) d e h = not_found ms (sym h)

one_member : (o : Option Data) (more : Data → Option Members) (all : Members) → option_and_then more o ≡ Some all
    → (d : Data) × (o ≡ Some d) × (more d ≡ Some all)
one_member None more all e = not_found all e
one_member (Some d) more all e = (d, refl, e)

pub member-of_members : (k : List ℕ) (j : json.Json) (ms : json.Members) (found all : Members)
    → of_members (json.member k j ms) found ≡ Some all
    → (d : Data) × (of_json j ≡ Some d) × (of_members ms (put k d found) ≡ Some all)
member-of_members k j ms found all e = one_member (of_json j) (λ d. of_members ms (put k d found)) all e

-- the members are read whatever was found before them
pub any_members : (ms : json.Members) (found other all : Members) → of_members ms found ≡ Some all
    → (rest : Members) × (of_members ms other ≡ Some rest)
any_members json.no_members found other all e = (other, refl)
any_members (json.member k j ms) found other all e =
    let m = member-of_members k j ms found all e in
    let more = any_members ms (put k m.0 found) (put k m.0 other) all m.2 in
    (more.0, ap (option_and_then (λ d. of_members ms (put k d other))) m.1 ∙ more.1)

-- ---- the member of a name

abbrev found_in : Option json.Json → Option Data → Option Data
found_in None before = before
found_in (Some j) before = of_json j

found_turn : (o : Option json.Json) (b : Bool) (k name : List ℕ) (j : json.Json) (d : Data) (found : Members)
    → bytes_eq k name ≡ b → of_json j ≡ Some d
    → found_in o (get_member name (put k d found))
    ≡ found_in (find.later_or o (cond b (Some j) None)) (get_member name found)
found_turn (Some i) b k name j d found is e = refl
found_turn None true k name j d found is e =
    let same : k ≡ name = (bytes_eq-Decides k name).0 is in
    ap (λ x. get_member x (put k d found)) (sym same) ∙ get_member-put k d found ∙ sym e
found_turn None false k name j d found is e =
    let other : k ≡ name → ⊥ = not_from_Decides (bytes_eq k name) (bytes_eq-Decides k name) is in
    get_member-put_other name k d found (λ h. other (sym h))

pub get_member-of_members : (name : List ℕ) (ms : json.Members) (found all : Members) → of_members ms found ≡ Some all
    → get_member name all ≡ found_in (find.get_member name ms) (get_member name found)
get_member-of_members name json.no_members found all e = ap (get_member name) (sym (Some_inj found all e))
get_member-of_members name (json.member k j ms) found all e =
    let m = member-of_members k j ms found all e in
    get_member-of_members name ms (put k m.0 found) all m.2
    ∙ found_turn (find.get_member name ms) (bytes_eq k name) k name j m.0 found refl m.1

-- what was found among the members was read, and is no deeper
abbrev WasRead : json.Json → ℕ → Type 0
WasRead i deep = (e : Data) × (of_json i ≡ Some e) × (depth i ≤ deep)

read_turn : (o : Option json.Json) (b : Bool) (i j : json.Json) (d : Data) (deep : ℕ) → (o ≡ Some i → WasRead i deep)
    → of_json j ≡ Some d
    → find.later_or o (cond b (Some j) None) ≡ Some i → WasRead i (max (depth j) deep)
read_turn (Some x) b i j d deep later e h = let w = later h in (w.0, w.1, omega (arith, w.2))
read_turn None true i j d deep later e h =
    let same : j ≡ i = Some_inj j i h in
    (d, ap of_json (sym same) ∙ e, subst (λ x. depth x ≤ max (depth j) deep) same (omega arith))
read_turn None false i j d deep later e h = not_found i h

pub get_member-was_read : (name : List ℕ) (ms : json.Members) (i : json.Json) (found all : Members)
    → of_members ms found ≡ Some all → find.get_member name ms ≡ Some i → WasRead i (members_depth ms)
get_member-was_read name json.no_members i found all e h = not_found i h
get_member-was_read name (json.member k j ms) i found all e h =
    let m = member-of_members k j ms found all e in
    read_turn (find.get_member name ms) (bytes_eq k name) i j m.0 (members_depth ms)
    (get_member-was_read name ms i (put k m.0 found) all m.2) m.1 h

pub get_none : (name : List ℕ) (j : json.Json) (d : Data) → of_json j ≡ Some d → find.get name j ≡ None
    → None ≡ get name d
get_none name json.null d e h = ap (get name) (Some_inj _ _ e)
get_none name (json.boolean b) d e h = ap (get name) (Some_inj _ _ e)
get_none name (json.number s) d e h = on_numbers (get name) None (λ n. refl) s d e
get_none name (json.string s) d e h = ap (get name) (Some_inj _ _ e)
get_none name (json.array js) d e h = on_arrays (get name) None (λ n. refl) js d e
get_none name (json.object ms) d e h =
    let o = object-of_json ms d e in
    sym (get_member-of_members name ms no_members o.0 o.1 ∙ ap (λ x. found_in x None) h) ∙ ap (get name) o.2

pub get_some : (name : List ℕ) (j i : json.Json) (d : Data) → of_json j ≡ Some d → find.get name j ≡ Some i
    → (e : Data) × (of_json i ≡ Some e) × (depth i ≤ depth j) × (Some e ≡ get name d)
get_some name json.null i d e h = not_found i h
get_some name (json.boolean b) i d e h = not_found i h
get_some name (json.number s) i d e h = not_found i h
get_some name (json.string s) i d e h = not_found i h
get_some name (json.array js) i d e h = not_found i h
get_some name (json.object ms) i d e h =
    let o = object-of_json ms d e in
    let w = get_member-was_read name ms i no_members o.0 o.1 h in
    let here = get_member-of_members name ms no_members o.0 o.1 ∙ ap (λ x. found_in x None) h in
    (w.0, w.1, omega (arith, w.2), sym (here ∙ w.1) ∙ ap (get name) o.2)
