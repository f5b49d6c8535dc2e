-- Laws of the finite map that a list of pairs stands for, under any order whose ties are equal.
use Rattle.std.proofs.Common.{◌≡◌, refl, sym, ◌∙◌, ap, ℕ, zero, suc, ◌+◌, ◌<◌, ◌==◌, Bool, true, false, cond, not}
use Rattle.std.proofs.Common.{is_some, length, List, [], ◌∷◌, Option, Some, None, arith}
use Rattle.std.proofs.lemmas.Bool.Decides.{nat_tests}
use Rattle.std.specs.BTreeMap.{is_at}
use Rattle.std.specs.Cmp.{IsTotalOrder, eq_by_cmp_equiv}
use Rattle.std.specs.FinMap.{FinMap, IsAntisymmetric, empty, entries, find, get, insert, remove, contains_key, len}
use Rattle.std.specs.FinMap.{from_entries, entries-insert, get-from_entries, get-insert, get-remove, get-empty}
use Rattle.std.specs.FinMap.{len-entries, len-insert, len-empty, empty_of_len, same_map}
use Rattle.std.specs.FinMap.Entries.{put}
use Rattle.std.specs.List.{AllByRecursion}
use Rattle.std.specs.List.Sorted.{IsStrictlySortedBy}
use Rattle.std.specs.Map.{lookup, keys_of}
use Rattle.std.specs.Ordering.{eq_by_cmp, is_eq}
use Rattle.std.specs.declared.cmp.Ordering.{Ordering}
use Rattle.std.specs.declared.cmp.Ordering.TheVariants.{Less, Equal, Greater}

-- a test for equality that holds
equal_of : (r : Ordering) → is_eq r ≡ true → r ≡ Equal
equal_of Less e = cc
equal_of Equal e = refl
equal_of Greater e = cc

-- a number above 0 is not 0
not_zero : (n : ℕ) → 0 < n → (n == 0) ≡ false
not_zero n h = grind (arith, nat_tests)

-- a list of no entries
no_entries : {A : Type 0} (es : List A) → length es ≡ 0 → es ≡ []
no_entries [] e = refl
no_entries (x ∷ es) e = absurd (omega (arith, e))

-- an option that is no value
pub is_none_of : {A : Type 0} (o : Option A) → true ≡ not (is_some o) → o ≡ None
is_none_of None e = refl
is_none_of (Some x) e = cc

module _ {K X : Type 0} {R : K → K → Ordering} (o : IsTotalOrder R) (same : IsAntisymmetric R) where
  -- what a list of pairs has at a key
  abbrev pub at_key : List (K × X) → K → Option X
  at_key es q = lookup (is_at (R q)) es

  find_at_key : (es : List (K × X)) (q : K) → find R q es ≡ at_key es q
  find_at_key [] q = refl
  find_at_key (e ∷ es) q = ap (cond (is_at (R q) e.0) (Some e.1)) (find_at_key es q)

  pub get_at_key : (es : List (K × X)) (q : K) → get (from_entries {R = R} es) q ≡ at_key es q
  get_at_key es q = get-from_entries o es q ∙ find_at_key es q

  -- pairs that differ at one key make maps that differ there
  pub one_key_inserted : (es fs : List (K × X)) (k : K) (x : X) → ((q : K) → at_key fs q ≡ cond (is_at (R k) q) (Some x)
      (at_key es q)) → from_entries {R = R} fs ≡ insert (from_entries es) k x
  one_key_inserted es fs k x h = same_map o same _ _ (λ q.
      get_at_key fs q ∙ h q ∙ ap (λ b. cond b (Some x) (at_key es q)) ((eq_by_cmp_equiv o).symm k q)
      ∙ sym (get-insert o (from_entries es) k x q ∙ ap (cond (is_at (R q) k) (Some x)) (get_at_key es q)))

  pub one_key_removed : (es fs : List (K × X)) (k : K) → ((q : K) → at_key fs q ≡ cond (is_at (R k) q) None
      (at_key es q)) → from_entries {R = R} fs ≡ remove (from_entries es) k
  one_key_removed es fs k h = same_map o same _ _ (λ q.
      get_at_key fs q ∙ h q ∙ ap (λ b. cond b None (at_key es q)) ((eq_by_cmp_equiv o).symm k q)
      ∙ sym (get-remove o (from_entries es) k q ∙ ap (cond (is_at (R q) k) None) (get_at_key es q)))

  -- removing a key that is not there changes nothing
  pub remove_absent : (m : FinMap R X) (k : K) → get m k ≡ None → remove m k ≡ m
  remove_absent m k absent = same_map o same _ _ (λ q. get-remove o m k q ∙ same_at q (eq_by_cmp R q k) refl)
    where
      same_at : (q : K) (b : Bool) → eq_by_cmp R q k ≡ b → cond b None (get m q) ≡ get m q
      same_at q true e = rw (same q k (equal_of (R q k) e)) (sym absent)
      same_at q false e = refl

  one_more : (m : FinMap R X) (k : K) (b : Bool) → contains_key m k ≡ b → (cond b (len m) (len m + 1) == 0) ≡ false
  one_more m k false e = not_zero (len m + 1) (omega arith)
  one_more m k true e = has_some (len m) refl
    where
      has_some : (n : ℕ) → len m ≡ n → (n == 0) ≡ false
      has_some zero none = let there = rw (empty_of_len m none, get-empty R k) at e in cc
      has_some (suc n) some = not_zero (suc n) (omega arith)

  -- the map is empty if the list is
  pub none_pending : (es : List (K × X)) → (length es == 0) ≡ (len (from_entries {R = R} es) == 0)
  none_pending [] = rw (len-empty R X) refl
  none_pending (e ∷ es) = not_zero (length (e ∷ es)) (omega arith) ∙ sym (rw (len-insert o (from_entries es) e.0 e.1)
      (one_more (from_entries es) e.0 (contains_key (from_entries es) e.0) refl))

  -- to put an entry below all others is to put it first
  put_first : (k : K) (x : X) (es : List (K × X)) → AllByRecursion (λ y. R k y ≡ Less) (keys_of es) → put R k x es
      ≡ (k, x) ∷ es
  put_first k x [] below = refl
  put_first k x (e ∷ es) below = rw (below.0) refl

  -- the entries of the map are those of the list, if that ascends
  pub entries_ascending : (es : List (K × X)) → IsStrictlySortedBy R (keys_of es) → entries (from_entries {R = R} es)
      ≡ es
  unfolding IsStrictlySortedBy
  entries_ascending [] ascends = no_entries (entries empty) (sym (len-entries empty) ∙ len-empty R X)
  entries_ascending (e ∷ es) ascends =
      entries-insert o (from_entries es) e.0 e.1 ∙ ap (put R e.0 e.1) (entries_ascending es ascends.1)
      ∙ put_first e.0 e.1 es ascends.0
