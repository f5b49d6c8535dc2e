-- How the members of an object are read that have other keys.
use Rattle.std.proofs.Common.{◌≡◌, ℕ, Bool, true, false, ◌||◌, true≢false, List, [], ◌∷◌, ◌++◌, Some, None, length}
use Rattle.std.proofs.Common.{map, string_bytes, bytes_eq, if◌then◌else◌, sym, ap, refl, subst, ◌∙◌, append_assoc}
use Rattle.std.proofs.Common.{append-nil, string_cmp, nat_cmp, Greater, Option, is_some, not, option_map, unwrap_or}
use Rattle.std.proofs.lemmas.Bool.{or_parts}
use Rattle.std.specs.Cmp.Lexicographic.{slice_cmp}
use Rattle.std.specs.List.{list_any}
use Rattle.std.specs.List.Sorted.{IsStrictlySortedBy}
use Rattle.std.specs.Map.{keys_of}
use Rattle.serde_json.specs.Data.{Data, Members, no_members, member, object, put}
use Rattle.serde_json.specs.View.{members_view, view}
use Rattle.serde_json.specs.Find.{as_object}
use Rattle.lsp_json.specs.JsonRef.{has_others, others_within}
use Rattle.lsp_types.specs.Reads.{Beside, InSome, is_named, object_if, others, with_other}
use Rattle.lsp_types.proofs.ReadLemmas.{Entry, above}

not_false : (is : Bool) → not is ≡ false → is ≡ true
not_false true none = refl
not_false false none = sym none

-- an entry that is named is passed over
passed : (keys : List (List ℕ)) (done : List Entry) (e : Entry) → is_named keys (string_bytes e.0) ≡ true
    → others keys (members_view (done ++ e ∷ [])) ≡ others keys (members_view done)
passed keys [] e named =
    ap (λ is. if is then no_members else member (string_bytes e.0) (view e.1) no_members) named
passed keys (first ∷ done) e named =
    let key = string_bytes first.0 in
    ap (λ rest. if is_named keys key then rest else member key (view first.1) rest) (passed keys done e named)

-- a member behind one that is or is not there
behind : (is : Bool) (key last : List ℕ) (one more : Data) (old new : Members)
    → slice_cmp nat_cmp last key ≡ Greater → put last more old ≡ new
    → put last more (if is then old else member key one old) ≡ (if is then new else member key one new)
behind true key last one more old new greater same = same
behind false key last one more old new greater same = rw greater (ap (member key one) same)

-- another one goes last
put_last : (keys : List (List ℕ)) (done : List Entry) (e : Entry) (more : List Entry)
    → IsStrictlySortedBy string_cmp (keys_of (done ++ e ∷ more)) → is_named keys (string_bytes e.0) ≡ false
    → put (string_bytes e.0) (view e.1) (others keys (members_view done)) ≡ others keys (members_view (done ++ e ∷ []))
unfolding IsStrictlySortedBy
put_last keys [] e more sorted other =
    ap (λ is. if is then no_members else member (string_bytes e.0) (view e.1) no_members) (sym other)
put_last keys (first ∷ done) e more sorted other =
    behind (is_named keys (string_bytes first.0)) _ _ _ _ _ _ (above first done e more sorted.0)
    (put_last keys done e more sorted.1 other)

-- of all members those before the rest were looked at
abbrev pub OthersUpTo : List (List ℕ) → List Entry → List Entry → List Entry → Type 0
OthersUpTo keys all rest found =
    (done : List Entry) × (all ≡ done ++ rest) × (members_view found ≡ others keys (members_view done))

pub others_start : (keys : List (List ℕ)) (all rest found : List Entry) → found ≡ [] → rest ≡ all
    → OthersUpTo keys all rest found
others_start keys all rest found none same = ([], sym same, ap members_view none)

-- one more was looked at
one_more : (keys : List (List ℕ)) (done : List Entry) (e : Entry) (more : List Entry) (is : Bool)
    → IsStrictlySortedBy string_cmp (keys_of (done ++ e ∷ more)) → is_named keys (string_bytes e.0) ≡ is
    → (if is then others keys (members_view done)
    else put (string_bytes e.0) (view e.1) (others keys (members_view done)))
    ≡ others keys (members_view (done ++ e ∷ []))
one_more keys done e more true sorted named = sym (passed keys done e named)
one_more keys done e more false sorted other = put_last keys done e more sorted other

pub others_more : (keys : List (List ℕ)) (all rest left : List Entry) (e : Entry) (old new : List Entry) (key : List ℕ)
    → IsStrictlySortedBy string_cmp (keys_of all) → OthersUpTo keys all rest old → rest ≡ e ∷ left
    → key ≡ string_bytes e.0 → members_view new ≡ with_other keys key (view e.1) (members_view old)
    → OthersUpTo keys all left new
others_more keys all rest left e old new key sorted before step same one =
    let parts : all ≡ before.0 ++ e ∷ left = before.1 ∙ ap (λ es. before.0 ++ es) step in (
      before.0 ++ e ∷ [],
      parts ∙ sym (append_assoc before.0 (e ∷ []) left),
      one ∙ ap (λ key. with_other keys key (view e.1) (members_view old)) same
          ∙ ap (with_other keys (string_bytes e.0) (view e.1)) before.2
          ∙ one_more keys before.0 e left (is_named keys (string_bytes e.0))
          (subst (λ es. IsStrictlySortedBy string_cmp (keys_of es)) parts sorted) refl,
    )

pub others_all : (keys : List (List ℕ)) (all rest found : List Entry) → OthersUpTo keys all rest found → rest ≡ []
    → members_view found ≡ others keys (members_view all)
others_all keys all rest found before none =
    before.2 ∙ ap (λ es. others keys (members_view es))
    (sym (before.1 ∙ ap (λ es. before.0 ++ es) none ∙ append-nil before.0))

-- an object is there if a member is
pub none_if : (entries : List Entry) → entries ≡ [] → object_if (members_view entries) ≡ None
none_if entries none = ap (λ es. object_if (members_view es)) none

pub some_if : (entries : List Entry) (empty : Bool) → (length entries ≡ 0 → empty ≡ true) → empty ≡ false
    → Some (object (members_view entries)) ≡ object_if (members_view entries)
some_if [] empty is other = absurd (true≢false (sym (is refl) ∙ other))
some_if (e ∷ entries) empty is other = refl

-- a key is among those that texts have
pub among : {T : Type 0} (text : T → List ℕ) (keys : List T) (key : List ℕ)
    → list_any (λ named. bytes_eq (text named) key) keys ≡ is_named (map text keys) key
among text [] key = refl
among text (first ∷ keys) key = ap (λ is. bytes_eq (text first) key || is) (among text keys key)

-- a member whose key is named is not put
pub with_named : {T : Type 0} (text : T → List ℕ) (keys : List T) (key : List ℕ) (json : Data) (members : Members)
    → list_any (λ named. bytes_eq (text named) key) keys ≡ true
    → with_other (map text keys) key json members ≡ members
with_named text keys key json members named =
    ap (λ is. if is then members else put key json members) (sym (among text keys key) ∙ named)

-- another one is
pub with_new : {T : Type 0} (text : T → List ℕ) (keys : List T) (key : List ℕ) (json : Data) (members : Members)
    → list_any (λ named. bytes_eq (text named) key) keys ≡ false
    → with_other (map text keys) key json members ≡ put key json members
with_new text keys key json members other =
    ap (λ is. if is then members else put key json members) (sym (among text keys key) ∙ other)

-- each member is named, so none is another one
none_other : (keys : List (List ℕ)) (members : Members) → others_within keys members ≡ false
    → others keys members ≡ no_members
none_other keys no_members none = refl
none_other keys (member key json rest) none =
    let each = or_parts _ _ none in
    ap (λ is. if is then others keys rest else member key json (others keys rest)) (not_false _ each.0)
    ∙ none_other keys rest each.1

nothing_in : (keys : List (List ℕ)) (found : Option Members) → is_some found ≡ true
    → unwrap_or (option_map (others_within keys) found) false ≡ false
    → InSome (λ members. None ≡ object_if (others keys members)) found
nothing_in keys None is none = true≢false (sym is)
nothing_in keys (Some members) is none = sym (ap object_if (none_other keys members none))

-- no value is read where each member is named
pub nothing_beside : (keys : List (List ℕ)) (json : Data) → is_some (as_object json) ≡ true
    → has_others keys json ≡ false → Beside keys json None
unfolding Beside
nothing_beside keys json is none = nothing_in keys (as_object json) is none
