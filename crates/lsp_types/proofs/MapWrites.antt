-- How the entries of a map are written one after another.
use Rattle.std.proofs.Common.{◌≡◌, ℕ, List, [], ◌∷◌, ◌++◌, String, Global, Option, Some, OnOk, Result, IsTrue}
use Rattle.std.proofs.Common.{Less, Greater}
use Rattle.std.proofs.Common.{refl, sym, ap, ◌∙◌, subst, map, string_bytes, string_cmp, nat_cmp, append_assoc}
use Rattle.std.proofs.Common.{append-nil}
use Rattle.std.proofs.lemmas.Bool.{and_from}
use Rattle.std.proofs.lemmas.Cmp.{nat_list_cmp_total}
use Rattle.std.proofs.lemmas.Result.{on_ok_weaker}
use Rattle.std.specs.Cmp.Lexicographic.{slice_cmp}
use Rattle.std.specs.List.{AllByRecursion}
use Rattle.std.specs.List.Sorted.{IsStrictlySortedBy}
use Rattle.std.specs.Map.{keys_of}
use Rattle.std.specs.Ordering.{ordering_reverse}
use Rattle.serde_json.specs.Data.{Data, Members, no_members, member, put}
use Rattle.lsp_json_write.specs.Taken.{Steps, Taken, are_before, object_ended, open_object, with_key, with_object}
use Rattle.lsp_json_write.specs.Taken.{with_value}
use Rattle.lsp_json_write.proofs.Steps.{member_taken}
use Rattle.lsp_json_write.proofs.Writing.{from_less}
use Rattle.lsp_types.specs.Json.{object_of, with_member, with_members}
use Rattle.lsp_types.proofs.JsonLemmas.{with-snoc}

-- the member that an entry is written as
abbrev pub member_of : {T : Type 0} → (T → Data) → String Global × T → List ℕ × Option Data
member_of stands entry = (string_bytes entry.0, Some (stands entry.1))

-- the members of entries, in the order of the entries
abbrev pub in_order : {T : Type 0} → (T → Data) → List (String Global × T) → Members
in_order stands [] = no_members
in_order stands (entry ∷ entries) = member (string_bytes entry.0) (stands entry.1) (in_order stands entries)

below_middle : {T : Type 0} (first : String Global × T) (done : List (String Global × T)) (entry : String Global × T)
    (left : List (String Global × T))
    → AllByRecursion (λ key. string_cmp first.0 key ≡ Less) (keys_of (done ++ entry ∷ left))
    → string_cmp first.0 entry.0 ≡ Less
below_middle first [] entry left below = below.0
below_middle first (other ∷ done) entry left below = below_middle first done entry left below.1

-- the keys of a map are in order
before_entry : {T : Type 0} (stands : T → Data) (done : List (String Global × T)) (entry : String Global × T)
    (left : List (String Global × T)) → IsStrictlySortedBy string_cmp (keys_of (done ++ entry ∷ left))
    → IsTrue (are_before (string_bytes entry.0) (in_order stands done))
unfolding IsStrictlySortedBy
before_entry stands [] entry left sorted = refl
before_entry stands (first ∷ done) entry left sorted =
    and_from _ _ (from_less _ (below_middle first done entry left sorted.0))
    (before_entry stands done entry left sorted.1)

-- an entry that is after those before it goes last
entry_last : {T : Type 0} (stands : T → Data) (done : List (String Global × T)) (entry : String Global × T)
    (left : List (String Global × T)) → IsStrictlySortedBy string_cmp (keys_of (done ++ entry ∷ left))
    → put (string_bytes entry.0) (stands entry.1) (in_order stands done) ≡ in_order stands (done ++ entry ∷ [])
unfolding IsStrictlySortedBy
entry_last stands [] entry left sorted = refl
entry_last stands (first ∷ done) entry left sorted =
    let above : slice_cmp nat_cmp (string_bytes entry.0) (string_bytes first.0) ≡ Greater =
    nat_list_cmp_total.antisymm (string_bytes entry.0) (string_bytes first.0)
    ∙ ap ordering_reverse (below_middle first done entry left sorted.0) in
    rw above (ap (member (string_bytes first.0) (stands first.1)) (entry_last stands done entry left sorted.1))

-- an object was begun, and the entries of a map before `left` are in it
pub record HasEntries {S T : Type 0} (holds : S → Taken → Type 0) (stands : T → Data)
    (all left : List (String Global × T)) (start now : S) : Type 0 where
  pub done : List (String Global × T)
  pub is : all ≡ done ++ left
  pub ordered : with_members no_members (map (member_of stands) done) ≡ in_order stands done
  pub written : (outer : Taken) → holds start outer
      → holds now (open_object (with_members no_members (map (member_of stands) done)) outer)

-- it has none yet
pub entries_none : {S T : Type 0} (holds : S → Taken → Type 0) (stands : T → Data) (all left : List (String Global × T))
    (start now : S) → Steps holds with_object start now → left ≡ all → HasEntries holds stands all left start now
entries_none holds stands all left start now begun same =
    record { done = []; is = sym same; ordered = refl; written = begun }

-- one entry more
pub entries_more : {S T : Type 0} (holds : S → Taken → Type 0) (stands : T → Data)
    (all old_left left : List (String Global × T)) (key : String Global) (value : T) (start old mid new : S)
    → IsStrictlySortedBy string_cmp (keys_of all) → HasEntries holds stands all old_left start old
    → old_left ≡ (key, value) ∷ left → Steps holds (with_key (string_bytes key)) old mid
    → Steps holds (with_value (stands value)) mid new → HasEntries holds stands all left start new
unfolding with_member
entries_more holds stands all old_left left key value start old mid new sorted has step took wrote =
    let done = has.done in
    let k = string_bytes key in
    let before = with_members no_members (map (member_of stands) done) in
    let split : all ≡ done ++ (key, value) ∷ left = has.is ∙ ap (λ entries. done ++ entries) step in
    let keys = subst (λ entries. IsStrictlySortedBy string_cmp (keys_of entries)) split sorted in
    let below : IsTrue (are_before k before) =
    subst (λ members. IsTrue (are_before k members)) (sym has.ordered)
    (before_entry stands done (key, value) left keys) in
    let more : with_members no_members (map (member_of stands) (done ++ (key, value) ∷ []))
    ≡ put k (stands value) before = with-snoc (member_of stands) done (key, value) no_members in
    record {
      done = done ++ (key, value) ∷ [];
      is = split ∙ sym (append_assoc done ((key, value) ∷ []) left);
      ordered = more ∙ ap (put k (stands value)) has.ordered ∙ entry_last stands done (key, value) left keys;
      written = λ outer h. subst (λ members. holds new (open_object members outer)) (sym more)
          (member_taken holds k (stands value) before outer old mid new below took wrote (has.written outer h));
    }

-- the whole object of a map
pub entries_all : {S T E : Type 0} (holds : S → Taken → Type 0) (stands : T → Data)
    (all left : List (String Global × T)) (start old new : S) (result : Result (Unit {0}) E)
    → OnOk result (Steps holds object_ended old new) → HasEntries holds stands all left start old → left ≡ []
    → OnOk result (Steps holds (with_value (object_of (map (member_of stands) all))) start new)
entries_all holds stands all left start old new result ends has none =
    let whole : all ≡ has.done = has.is ∙ ap (λ entries. has.done ++ entries) none ∙ append-nil has.done in
    let members = with_members no_members (map (member_of stands) has.done) in
    on_ok_weaker result (λ ended. subst (λ entries. Steps holds
    (with_value (object_of (map (member_of stands) entries))) start new) (sym whole)
    (λ outer h. ended (open_object members outer) (has.written outer h))) ends
