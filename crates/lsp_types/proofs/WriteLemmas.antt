-- How members and items are written one after another.
use Rattle.std.proofs.Common.{◌≡◌, ◌<◌, ◌≤◌, ◌+◌, ℕ, List, [], ◌∷◌, length, get_or, take, map, take_all}
use Rattle.std.proofs.Common.{OnOk, Result, Ok, Err, Option, Some, None, IsTrue, refl, ap, subst, sym, ◌∙◌}
use Rattle.std.proofs.lemmas.Bool.{and_parts}
use Rattle.std.proofs.lemmas.List.{map_more}
use Rattle.serde_json.specs.Data.{Data, no_items, Members, no_members, array, object}
use Rattle.serde_json.specs.View.{items_of}
use Rattle.lsp_json_write.specs.Taken.{Steps, Taken, add_item, array_ended, object_ended, open_array, open_object}
use Rattle.lsp_json_write.specs.Taken.{precedes, with_array, with_key, with_object, with_value}
use Rattle.lsp_json_write.proofs.Steps.{member_taken}
use Rattle.lsp_json_write.proofs.Writing.{are_before_put, items_of-add_item, precedes_later}
use Rattle.lsp_types.specs.Json.{with_member}
use Rattle.lsp_types.specs.Writes.{HasMembers, WritesMember, are_in_order, is_after}

-- an object has no member yet
none_yet : {S : Type 0} (holds : S → Taken → Type 0) (outer : Taken) (now : S)
    → holds now (open_object no_members outer) → HasMembers holds [] no_members outer now
none_yet holds outer now begun = record { written = λ ordered. begun; before = λ ordered key after. refl }

-- one member more
pub one_more : {S : Type 0} (holds : S → Taken → Type 0) (key : List ℕ) (value : Data) (old mid new : S)
    → Steps holds (with_key key) old mid → Steps holds (with_value value) mid new
    → WritesMember holds key (Some value) old new
unfolding with_member
one_more holds key value old mid new took wrote = record {
  adds = λ keys members outer has. record {
    written = λ ordered. let each = and_parts (is_after key keys) (are_in_order keys) ordered in
        member_taken holds key value members outer old mid new (has.before each.1 key each.0) took wrote
        (has.written each.1);
    before = λ ordered later beyond. let each = and_parts (is_after key keys) (are_in_order keys) ordered in
        are_before_put key later value members (has.before each.1 key each.0) beyond;
  };
}

-- one member more, if it was written
pub member_if : {S E : Type 0} (holds : S → Taken → Type 0) (key : List ℕ) (value : Data) (old mid new : S)
    (result : Result (Unit {0}) E) → Steps holds (with_key key) old mid
    → OnOk result (Steps holds (with_value value) mid new)
    → OnOk result (WritesMember holds key (Some value) old new)
member_if holds key value old mid new (Ok done) took wrote = one_more holds key value old mid new took wrote
member_if holds key value old mid new (Err failed) took wrote = tt

-- what stands after a key that stands after these stands after these too
after_later : (key later : List ℕ) (keys : List (List ℕ)) → IsTrue (is_after key keys) → IsTrue (precedes key later)
    → IsTrue (is_after later keys)
after_later key later [] after beyond = refl
after_later key later (last ∷ keys) after beyond = precedes_later last key later after beyond

-- no member more, as it has no value
pub no_more : {S : Type 0} (holds : S → Taken → Type 0) (key : List ℕ) (now : S)
    → WritesMember holds key None now now
unfolding with_member
no_more holds key now = record {
  adds = λ keys members outer has. record {
    written = λ ordered. has.written (and_parts (is_after key keys) (are_in_order keys) ordered).1;
    before = λ ordered later beyond. let each = and_parts (is_after key keys) (are_in_order keys) ordered in
        has.before each.1 later (after_later key later keys each.0 beyond);
  };
}

infixl 20 ◌then◌
-- the members so far, and one that a call wrote
pub ◌then◌ : {S : Type 0} {holds : S → Taken → Type 0} {keys : List (List ℕ)} {members : Members} {outer : Taken}
    {key : List ℕ} {value : Option Data} {old new : S} → HasMembers holds keys members outer old
    → WritesMember holds key value old new
    → HasMembers holds (key ∷ keys) (with_member members (key, value)) outer new
has then wrote = wrote.adds _ _ _ has

-- the whole object, whose keys are in order
pub whole : {S E : Type 0} (holds : S → Taken → Type 0) {keys : List (List ℕ)} {members : Members}
    (start begun old new : S) (result : Result (Unit {0}) E) → IsTrue (are_in_order keys)
    → Steps holds with_object start begun → OnOk result (Steps holds object_ended old new)
    → ((outer : Taken) → HasMembers holds [] no_members outer begun → HasMembers holds keys members outer old)
    → OnOk result (Steps holds (with_value (object members)) start new)
whole holds {keys} {members} start begun old new (Ok done) ordered begins ends has = λ outer held.
    ends (open_object members outer) ((has outer (none_yet holds outer begun (begins outer held))).written ordered)
whole holds start begun old new (Err failed) ordered begins ends has = tt

-- an array was begun, and the first values of a list are in it
abbrev pub HasFirst : {S T : Type 0} → (S → Taken → Type 0) → (T → Data) → List T → ℕ → S → S → Type 0
HasFirst holds stands values count begun now = (outer : Taken) → holds begun (open_array no_items outer)
    → holds now (open_array (items_of (map stands (take count values))) outer)

-- one value more
pub first_more : {S T : Type 0} (holds : S → Taken → Type 0) (stands : T → Data) (values : List T)
    (count : ℕ) (value : T) (begun old new : S) → count < length values → value ≡ get_or values count value
    → HasFirst holds stands values count begun old → Steps holds (with_value (stands value)) old new
    → HasFirst holds stands values (count + 1) begun new
first_more holds stands values count value begun old new within is has wrote =
    let here = items_of (map stands (take count values)) in
    let more : items_of (map stands (take (count + 1) values)) ≡ add_item here (stands value)
    = ap items_of (map_more stands values count value within)
    ∙ items_of-add_item (map stands (take count values)) (stands (get_or values count value))
    ∙ ap (λ it. add_item here (stands it)) (sym is) in
    λ outer h. subst (λ items. holds new (open_array items outer)) (sym more)
    (wrote (open_array here outer) (has outer h))

-- the whole list was written
pub first_written : {S T : Type 0} (holds : S → Taken → Type 0) (stands : T → Data) (values : List T) (count : ℕ)
    (start begun old new : S) → Steps holds with_array start begun → Steps holds array_ended old new
    → HasFirst holds stands values count begun old → length values ≤ count
    → Steps holds (with_value (array (items_of (map stands values)))) start new
first_written holds stands values count start begun old new begins ends has all =
    subst (λ those. Steps holds (with_value (array (items_of (map stands those)))) start new)
    (take_all count values all)
    (λ outer h. ends (open_array (items_of (map stands (take count values))) outer) (has outer (begins outer h)))

-- the whole list, if its end was written
pub first_all : {S T E : Type 0} (holds : S → Taken → Type 0) (stands : T → Data) (values : List T) (count : ℕ)
    (start begun old new : S) (result : Result (Unit {0}) E) → Steps holds with_array start begun
    → OnOk result (Steps holds array_ended old new) → HasFirst holds stands values count begun old
    → length values ≤ count → OnOk result (Steps holds (with_value (array (items_of (map stands values)))) start new)
first_all holds stands values count start begun old new (Ok done) begins ends has all =
    first_written holds stands values count start begun old new begins ends has all
first_all holds stands values count start begun old new (Err failed) begins ends has all = tt
