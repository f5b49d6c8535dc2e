-- Whether members have other keys than those that are known.
use Rattle.std.proofs.Common.{◌≡◌, ℕ, Bool, true, false, ◌||◌, List, [], ◌∷◌, Some, map, bytes_eq, sym, ap, refl, ◌∙◌}
use Rattle.std.proofs.Common.{nat_cmp, is_eq, Ordering, Less, Equal, Greater}
use Rattle.std.proofs.lemmas.Map.Text.{is_eq-slice_cmp}
use Rattle.std.proofs.lemmas.Slice.Eq.{bytes_eq-Decides}
use Rattle.std.specs.Cmp.Lexicographic.{slice_cmp}
use Rattle.std.specs.List.{list_any}
use Rattle.json.specs.Json as json
use Rattle.json.specs.Token.{Token}
use Rattle.json.proofs.Found.{Some_inj}
use Rattle.serde_json.specs.Data.{Data, Members, no_members, member, put}
use Rattle.serde_json.specs.Read.{of_members}
use Rattle.lsp_json.specs.JsonRef.{is_other, others_within}
use Rattle.lsp_json.specs.Text.{json_members, text_members}
use Rattle.lsp_json.proofs.Views.{member-of_members}

-- a key is among those that texts have
pub among : {T : Type 0} (text : T → List ℕ) (keys : List T) (key : List ℕ)
    → list_any (λ named. bytes_eq (text named) key) keys ≡ list_any (λ named. bytes_eq named key) (map text keys)
among text [] key = refl
among text (first ∷ keys) key = ap (λ is. bytes_eq (text first) key || is) (among text keys key)

-- what holds first may stand twice
first_twice : (a b : Bool) → (a || b) ≡ (a || (a || b))
first_twice true b = refl
first_twice false b = refl

first_later : (a b c : Bool) → (a || (b || c)) ≡ (b || (a || c))
first_later true true c = refl
first_later true false c = refl
first_later false b c = refl

others_within-put_at : (o : Ordering) (keys : List (List ℕ)) (k l : List ℕ) (d e : Data) (ms : Members)
    → slice_cmp nat_cmp k l ≡ o
    → others_within keys (put k d ms) ≡ (is_other keys k || others_within keys ms)
    → others_within keys (put k d (member l e ms)) ≡ (is_other keys k || others_within keys (member l e ms))
others_within-put_at Less keys k l d e ms is later = rw is refl
others_within-put_at Equal keys k l d e ms is later =
    let same : k ≡ l = (bytes_eq-Decides k l).0 (sym (is_eq-slice_cmp k l) ∙ ap is_eq is) in
    rw is
    (first_twice (is_other keys l) (others_within keys ms)
    ∙ ap (λ key. is_other keys key || (is_other keys l || others_within keys ms)) (sym same))
others_within-put_at Greater keys k l d e ms is later =
    rw is
    (ap (λ more. is_other keys l || more) later
    ∙ first_later (is_other keys l) (is_other keys k) (others_within keys ms))

-- a member that is put is another one, or one was there
pub others_within-put : (keys : List (List ℕ)) (k : List ℕ) (d : Data) (ms : Members)
    → others_within keys (put k d ms) ≡ (is_other keys k || others_within keys ms)
others_within-put keys k d no_members = refl
others_within-put keys k d (member l e ms) =
    others_within-put_at _ keys k l d e ms refl (others_within-put keys k d ms)

or_true : (a : Bool) → (a || true) ≡ true
or_true true = refl
or_true false = refl

-- the other member that was put
put_another : (keys : List (List ℕ)) (k : List ℕ) (d : Data) (ms : Members) → is_other keys k ≡ true
    → others_within keys (put k d ms) ≡ true
put_another keys k d ms other = others_within-put keys k d ms ∙ ap (λ is. is || others_within keys ms) other

-- another member that was there before
put_later : (keys : List (List ℕ)) (k : List ℕ) (d : Data) (ms : Members) → others_within keys ms ≡ true
    → others_within keys (put k d ms) ≡ true
put_later keys k d ms other =
    others_within-put keys k d ms ∙ ap (λ is. is_other keys k || is) other ∙ or_true (is_other keys k)

-- another member that was found is among all of them
stays_within : (keys : List (List ℕ)) (ms : json.Members) (found all : Members) → of_members ms found ≡ Some all
    → others_within keys found ≡ true → others_within keys all ≡ true
stays_within keys json.no_members found all e other = ap (others_within keys) (sym (Some_inj found all e)) ∙ other
stays_within keys (json.member k j ms) found all e other =
    let m = member-of_members k j ms found all e in
    stays_within keys ms (put k m.0 found) all m.2 (put_later keys k m.0 found other)

-- ---- the members of a text, up to those that are left

-- the members before those that are left have known keys
abbrev pub NoneBefore : List (List ℕ) → List Token → List Token → Type 0
NoneBefore keys whole left =
    (found : Members) × (text_members whole no_members ≡ text_members left found) × (others_within keys found ≡ false)

-- the next member
abbrev pub Step : List Token → List ℕ → Data → List Token → Type 0
Step left k d later = (found : Members) → text_members left found ≡ text_members later (put k d found)

-- one more member with a known key
pub one_more : (keys : List (List ℕ)) (whole left later : List Token) (k : List ℕ) (d : Data)
    → NoneBefore keys whole left → Step left k d later → is_other keys k ≡ false → NoneBefore keys whole later
one_more keys whole left later k d before step known = (
  put k d before.0,
  before.1 ∙ step before.0,
  others_within-put keys k d before.0 ∙ ap (λ is. is || others_within keys before.0) known ∙ before.2,
)

-- a member with another key was found
pub found_another : (keys : List (List ℕ)) (whole left later : List Token) (k : List ℕ) (d : Data) (all : Members)
    → NoneBefore keys whole left → Step left k d later → is_other keys k ≡ true
    → text_members whole no_members ≡ Some all → others_within keys all ≡ true
unfolding text_members
found_another keys whole left later k d all before step other is =
    stays_within keys (json_members later) (put k d before.0) all (sym (before.1 ∙ step before.0) ∙ is)
    (put_another keys k d before.0 other)
