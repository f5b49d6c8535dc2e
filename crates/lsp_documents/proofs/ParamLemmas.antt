-- Params that are read in one pass, and numbers by 64 bits.
use Rattle.std.proofs.Common.{◌≡◌, Bool, true, false, ◌||◌, List, [], ◌∷◌, ◌++◌, Option, Some, None}
use Rattle.std.proofs.Common.{refl, sym, ap, ◌∙◌, append_assoc, option_map, option_and_then, arith}
use Rattle.std.specs.Prelude.{if◌then◌else◌, is_some, is_none, IfSome, Result, Ok, Err, OnErr}
use Rattle.std.proofs.lemmas.Bool.Decides.{nat_tests}
use Rattle.std.proofs.lemmas.List.{append-nil}
use Rattle.serde_json.specs.Data.{Data, null, boolean, number, string, array, object, Num, unsigned, negative, float}
use Rattle.serde_json.specs.Data.{Items, no_items, item}
use Rattle.serde_json.specs.Find.{as_null, as_i64}
use Rattle.lsp_message.specs.Meaning.{as_i32, is_i32}
use Rattle.lsp_text.specs.Documents.{Change}
use Rattle.lsp_documents.specs.Notices.{has_whole, has_changes}
use Rattle.lsp_documents.specs.Params.{change_in, changes_in, is_whole, whole_among, values_since_whole, given_range}
use Rattle.lsp_documents.specs.Params.{range_from}
use Rattle.lsp_documents.specs.Passes.{with_more}

-- ---- one value

-- a number that 32 bits hold is the same by 64 bits
pub by_64_bits : (n : Option Num) → option_and_then as_i32 n
    ≡ option_and_then (λ z. if is_i32 z then Some z else None) (option_and_then as_i64 n)
by_64_bits None = refl
by_64_bits (Some (unsigned n)) = grind (arith, nat_tests)
by_64_bits (Some (negative z)) = refl
by_64_bits (Some (float x)) = refl

-- a range that is null is none
pub given_null : (d : Data) → is_some (as_null d) ≡ true → given_range (Some d) ≡ Some None
given_null null h = refl
given_null (boolean b) h = cc
given_null (number n) h = cc
given_null (string s) h = cc
given_null (array ds) h = cc
given_null (object ms) h = cc

-- another is read
pub given_other : (d : Data) → is_some (as_null d) ≡ false → given_range (Some d) ≡ option_map Some (range_from d)
given_other null h = cc
given_other (boolean b) h = refl
given_other (number n) h = refl
given_other (string s) h = refl
given_other (array ds) h = refl
given_other (object ms) h = refl

-- ---- changes

-- what the values that are left make of the changes before them
abbrev pub read_on : Option (List Change) → Items → Option (List Change)
read_on before left = if whole_among left then changes_in (values_since_whole left)
    else option_and_then (λ cs. option_map (λ more. cs ++ more) (changes_in left)) before

-- the same with one more value, which may be a change
abbrev pub with_next : Option (List Change) → Option Change → Option (List Change)
with_next before None = None
with_next before (Some c) = with_more before c

changes_all : (r : Bool) (since own : Items) → changes_in (if r then since else own)
    ≡ (if r then changes_in since else changes_in own)
changes_all true since own = refl
changes_all false since own = refl

as_they_are : (o : Option (List Change)) → o ≡ option_map (λ more. [] ++ more) o
as_they_are None = refl
as_they_are (Some cs) = refl

all_of : (w r : Bool) (since own : Items) → changes_in (if r then since else own)
    ≡ (if w || r then changes_in (if r then since else own) else option_map (λ more. [] ++ more) (changes_in own))
all_of true r since own = refl
all_of false true since own = refl
all_of false false since own = as_they_are (changes_in own)

-- a list whose values are none of a whole text is read from its start
since_none : (vs : Items) → changes_in (values_since_whole vs) ≡ read_on (Some []) vs
since_none no_items = refl
since_none (item d ds) = all_of (is_whole (change_in d)) (whole_among ds) (values_since_whole ds) (item d ds)

-- before the first is read
pub read_first : (before : List Change) (vs : Items) → before ≡ []
    → changes_in (values_since_whole vs) ≡ read_on (Some before) vs
read_first before vs h = rw h (since_none vs)

joined_one : (before : Option (List Change)) (c : Change) (rest : Option (List Change)) → option_and_then
    (λ cs. option_map (λ more. cs ++ more) (option_map (λ more. c ∷ more) rest)) before
    ≡ option_and_then (λ cs. option_map (λ more. cs ++ more) rest) (option_map (λ cs. cs ++ (c ∷ [])) before)
joined_one None c rest = refl
joined_one (Some cs) c None = refl
joined_one (Some cs) c (Some more) = ap Some (sym (append_assoc cs (c ∷ []) more))

changed_one : (before : Option (List Change)) (c : Change) (w r : Bool) (rest : Option (List Change))
    (since own : Items)
    → changes_in own ≡ option_map (λ more. c ∷ more) rest →
    (if w || r then changes_in (if r then since else own)
    else option_and_then (λ cs. option_map (λ more. cs ++ more) (option_map (λ more. c ∷ more) rest)) before)
    ≡ (if r then changes_in since else option_and_then (λ cs. option_map (λ more. cs ++ more) rest)
    (if w then Some (c ∷ []) else option_map (λ cs. cs ++ (c ∷ [])) before))
changed_one before c true true rest since own h = refl
changed_one before c true false rest since own h = h
changed_one before c false true rest since own h = refl
changed_one before c false false rest since own h = joined_one before c rest

unread_one : (before : Option (List Change)) (r : Bool) (since own : Items) →
    (if r then changes_in (if r then since else own)
    else option_and_then (λ cs. option_map (λ more. cs ++ more) None) before)
    ≡ (if r then changes_in since else None)
unread_one before true since own = refl
unread_one None false since own = refl
unread_one (Some cs) false since own = refl

next_one : (before : Option (List Change)) (first : Option Change) (r : Bool) (rest : Option (List Change))
    (since own : Items) → changes_in own ≡ option_and_then (λ c. option_map (λ cs. c ∷ cs) rest) first →
    (if is_whole first || r then changes_in (if r then since else own) else option_and_then
    (λ cs. option_map (λ more. cs ++ more) (option_and_then (λ c. option_map (λ cs. c ∷ cs) rest) first)) before)
    ≡ (if r then changes_in since else option_and_then (λ cs. option_map (λ more. cs ++ more) rest)
    (with_next before first))
next_one before None r rest since own h = unread_one before r since own
next_one before (Some c) r rest since own h = changed_one before c (is_none c.range) r rest since own h

-- one value more is read
pub read_next : (before : Option (List Change)) (d : Data) (ds : Items) → read_on before (item d ds)
    ≡ read_on (with_next before (change_in d)) ds
read_next before d ds = next_one before (change_in d) (whole_among ds) (changes_in ds) (values_since_whole ds)
    (item d ds)
    refl

-- no value is left
pub read_all : (before : Option (List Change)) → read_on before no_items ≡ before
read_all None = refl
read_all (Some cs) = ap Some (append-nil cs)

-- ---- whether they have a whole text

-- what the values that are left make of what was found before them
abbrev pub find_on : Option Bool → Items → Option Bool
find_on found left = if whole_among left then option_map has_whole (changes_in (values_since_whole left))
    else option_and_then (λ w. option_map (λ more. w || has_whole more) (changes_in left)) found

-- the same with one more value, which may be a change
abbrev pub found_next : Option Bool → Option Bool → Option Bool
found_next found None = None
found_next found (Some true) = Some true
found_next found (Some false) = found

found_same : (o : Option (List Change)) → option_map has_whole o ≡ option_map (λ more. false || has_whole more) o
found_same None = refl
found_same (Some cs) = refl

found_of : (w r : Bool) (since own : Items) → option_map has_whole (changes_in (if r then since else own))
    ≡ (if w || r then option_map has_whole (changes_in (if r then since else own))
    else option_map (λ more. false || has_whole more) (changes_in own))
found_of true r since own = refl
found_of false true since own = refl
found_of false false since own = found_same (changes_in own)

-- before the first is looked at
pub find_first : (vs : Items) → option_map has_whole (changes_in (values_since_whole vs)) ≡ find_on (Some false) vs
find_first no_items = refl
find_first (item d ds) = found_of (is_whole (change_in d)) (whole_among ds) (values_since_whole ds) (item d ds)

-- whether there is a whole text with one change more
abbrev one_more : Bool → Option (List Change) → Option Bool
one_more w rest = option_map (λ more. w || has_whole more) rest

found_whole : (c : Change) (rest : Option (List Change)) → is_none c.range ≡ true
    → option_map has_whole (option_map (λ more. c ∷ more) rest) ≡ one_more true rest
found_whole c None h = refl
found_whole c (Some cs) h = ap (λ w. Some (w || has_whole cs)) h

found_part : (found : Option Bool) (c : Change) (rest : Option (List Change)) → is_none c.range ≡ false
    → option_and_then (λ w. option_map (λ more. w || has_whole more) (option_map (λ more. c ∷ more) rest)) found
    ≡ option_and_then (λ w. one_more w rest) found
found_part None c rest h = refl
found_part (Some w) c None h = refl
found_part (Some w) c (Some cs) h = ap (λ b. Some (w || (b || has_whole cs))) h

found_one : (found : Option Bool) (c : Change) (w r : Bool) (rest : Option (List Change)) (since own : Items)
    → is_none c.range ≡ w → changes_in own ≡ option_map (λ more. c ∷ more) rest →
    (if w || r then option_map has_whole (changes_in (if r then since else own))
    else option_and_then (λ w. option_map (λ more. w || has_whole more) (option_map (λ more. c ∷ more) rest)) found)
    ≡ (if r then option_map has_whole (changes_in since) else option_and_then (λ w. one_more w rest)
    (found_next found (Some w)))
found_one found c true true rest since own e h = refl
found_one found c true false rest since own e h = ap (option_map has_whole) h ∙ found_whole c rest e
found_one found c false true rest since own e h = refl
found_one found c false false rest since own e h = found_part found c rest e

found_none : (found : Option Bool) (r : Bool) (since own : Items) →
    (if r then option_map has_whole (changes_in (if r then since else own))
    else option_and_then (λ w. option_map (λ more. w || has_whole more) None) found)
    ≡ (if r then option_map has_whole (changes_in since) else None)
found_none found true since own = refl
found_none None false since own = refl
found_none (Some w) false since own = refl

found_at : (found : Option Bool) (first : Option Change) (r : Bool) (rest : Option (List Change))
    (since own : Items) → changes_in own ≡ option_and_then (λ c. option_map (λ cs. c ∷ cs) rest) first →
    (if is_whole first || r then option_map has_whole (changes_in (if r then since else own)) else option_and_then
    (λ w. option_map (λ more. w || has_whole more) (option_and_then (λ c. option_map (λ cs. c ∷ cs) rest) first))
    found)
    ≡ (if r then option_map has_whole (changes_in since) else option_and_then
    (λ w. option_map (λ more. w || has_whole more) rest) (found_next found (option_map (λ c. is_none c.range) first)))
found_at found None r rest since own h = found_none found r since own
found_at found (Some c) r rest since own h = found_one found c (is_none c.range) r rest since own refl h

-- one value more is looked at
pub find_next : (found : Option Bool) (d : Data) (ds : Items) → find_on found (item d ds)
    ≡ find_on (found_next found (option_map (λ c. is_none c.range) (change_in d))) ds
find_next found d ds =
    found_at found (change_in d) (whole_among ds) (changes_in ds) (values_since_whole ds) (item d ds) refl

-- no value is left
pub find_all : (found : Option Bool) → find_on found no_items ≡ found
find_all None = refl
find_all (Some true) = refl
find_all (Some false) = refl

-- ---- memory

more_changes : (c : Option Change) (cs : Option (List Change)) → IfSome (option_and_then (λ c. option_map (λ cs. c ∷ cs)
    cs) c) (λ cs. has_changes cs ≡ true)
more_changes None cs = tt
more_changes (Some c) None = tt
more_changes (Some c) (Some cs) = refl

has_some : (r : Bool) (d : Data) (ds since : Items)
    → (r ≡ true → IfSome (changes_in since) (λ cs. has_changes cs ≡ true))
    → IfSome (changes_in (if r then since else item d ds)) (λ cs. has_changes cs ≡ true)
has_some true d ds since h = h refl
has_some false d ds since h = more_changes (change_in d) (changes_in ds)

since_some : (vs : Items) → whole_among vs ≡ true
    → IfSome (changes_in (values_since_whole vs)) (λ cs. has_changes cs ≡ true)
since_some no_items h = cc
since_some (item d ds) h = has_some (whole_among ds) d ds (values_since_whole ds) (λ e. since_some ds e)

item_there : {d : Data} {ds : Items} → item d ds ≡ no_items → ⊥
item_there h = cc

-- a list with something in it has changes, if they can be read
pub some_changes : (vs left : Items) (d : Data) (ds : Items) → (vs ≡ no_items → left ≡ no_items) → left ≡ item d ds
    → IfSome (changes_in (values_since_whole vs)) (λ cs. has_changes cs ≡ true)
some_changes no_items left d ds h e = absurd (item_there (sym e ∙ h refl))
some_changes (item f fs) left d ds h e =
    has_some (whole_among fs) f fs (values_since_whole fs) (λ w. since_some fs w)

pub at_error : {T E Q : Type 0} (r : Result T E) → Q → OnErr r Q
at_error (Ok x) q = tt
at_error (Err e) q = q
