-- Requests by their numbers: the first that is such, one more behind them, and one less.
use Rattle.std.proofs.Common.{◌≡◌, ◌≤◌, ◌<◌, ◌+◌, ℕ, Bool, true, false, cond, ◌||◌, List, [], ◌∷◌, ◌++◌, Option, Some}
use Rattle.std.proofs.Common.{None, refl, sym, ap, ◌∙◌, arith}
use Rattle.std.specs.BTreeMap.{insert_entry, is_at}
use Rattle.std.specs.BTreeSet.{insert_key}
use Rattle.std.specs.Cmp.{nat_cmp_is}
use Rattle.std.specs.List.{list_any}
use Rattle.std.specs.Map.{lookup, remove_entry, values_of}
use Rattle.std.specs.Ordering.{nat_cmp, is_eq, match_ordering}
use Rattle.std.specs.Prelude.{find, is_some, option_and_then}
use Rattle.std.specs.declared.cmp.Ordering.TheVariants.{Equal, Greater, Less}
use Rattle.lsp_watch.specs.Indexed.{first_of, with_number, without_number, added, removed, numbers_of, RisesTo, IsFresh}
use Rattle.lsp_watch.specs.Log.{Open, without_first}

-- ---- numbers

pub greater : (n k : ℕ) → k < n → nat_cmp n k ≡ Greater
greater n k below = sym (nat_cmp_is n k Greater below)

pub less : (n k : ℕ) → n < k → nat_cmp n k ≡ Less
less n k below = sym (nat_cmp_is n k Less below)

pub same : (n : ℕ) → nat_cmp n n ≡ Equal
same n = sym (nat_cmp_is n n Equal refl)

pub not_above : (n k : ℕ) → k < n → is_at (nat_cmp n) k ≡ false
not_above n k below = ap is_eq (greater n k below)

pub not_below : (n k : ℕ) → n < k → is_at (nat_cmp n) k ≡ false
not_below n k below = ap is_eq (less n k below)

-- ---- bounds

pub least_end : (least end : ℕ) (es : List (ℕ × Open)) → RisesTo least end es → least ≤ end
least_end least end [] rises = rises
least_end least end (e ∷ es) rises = let more = least_end (e.0 + 1) end es rises.1 in omega (arith, more, rises.0)

pub key_below : (least end : ℕ) (e : ℕ × Open) (es : List (ℕ × Open)) → RisesTo least end (e ∷ es) → e.0 < end
key_below least end e es rises = let more = least_end (e.0 + 1) end es rises.1 in omega (arith, more)

pub lower : (low least end : ℕ) (es : List (ℕ × Open)) → low ≤ least → RisesTo least end es → RisesTo low end es
lower low least end [] below rises = omega (arith, below, rises)
lower low least end (e ∷ es) below rises = (omega (arith, below, rises.0), rises.1)

pub rises_push : (least end : ℕ) (es : List (ℕ × Open)) (o : Open) → RisesTo least end es
    → RisesTo least (end + 1) (es ++ (end, o) ∷ [])
rises_push least end [] o rises = (rises, omega arith)
rises_push least end (e ∷ es) o rises = (rises.0, rises_push (e.0 + 1) end es o rises.1)

pub rises_less : (n least end : ℕ) (es : List (ℕ × Open)) → RisesTo least end es
    → RisesTo least end (remove_entry (is_at (nat_cmp n)) es)
rises_less n least end [] rises = rises
rises_less n least end (e ∷ es) rises = by (is_at (nat_cmp n) e.0) (rises_less n (e.0 + 1) end es rises.1)
  where
    by : (b : Bool) → RisesTo (e.0 + 1) end (remove_entry (is_at (nat_cmp n)) es)
        → RisesTo least end (cond b es (e ∷ remove_entry (is_at (nat_cmp n)) es))
    by true more = lower least (e.0 + 1) end es (omega (arith, rises.0)) rises.1
    by false more = (rises.0, more)

-- ---- one more, behind the others

pub insert_last : (least end : ℕ) (es : List (ℕ × Open)) (o : Open) → RisesTo least end es
    → insert_entry nat_cmp es end o ≡ es ++ (end, o) ∷ []
insert_last least end [] o rises = refl
insert_last least end (e ∷ es) o rises =
    ap (λ r. match_ordering r ((end, o) ∷ e ∷ es) ((e.0, o) ∷ es) (e ∷ insert_entry nat_cmp es end o))
    (greater end e.0 (key_below least end e es rises))
    ∙ ap (λ l. e ∷ l) (insert_last (e.0 + 1) end es o rises.1)

pub values_last : (n : ℕ) (es : List (ℕ × Open)) (o : Open) → values_of (es ++ (n, o) ∷ []) ≡ values_of es ++ o ∷ []
values_last n [] o = refl
values_last n (e ∷ es) o = ap (λ l. e.1 ∷ l) (values_last n es o)

insert_behind : (n k : ℕ) (ks : List ℕ) → k < n → insert_key nat_cmp (k ∷ ks) n ≡ k ∷ insert_key nat_cmp ks n
insert_behind n k ks below =
    ap (λ r. match_ordering r (n ∷ k ∷ ks) (k ∷ ks) (k ∷ insert_key nat_cmp ks n)) (greater n k below)

remove_behind : (n k : ℕ) (ks : List ℕ) → is_at (nat_cmp n) k ≡ false
    → without_number n (k ∷ ks) ≡ k ∷ without_number n ks
remove_behind n k ks apart = ap (λ b. cond b ks (k ∷ without_number n ks)) apart

module _ (such : Open → Bool) where
  pub numbers_last : (least end : ℕ) (es : List (ℕ × Open)) (o : Open) → RisesTo least end es
      → numbers_of such (es ++ (end, o) ∷ []) ≡ added (such o) end (numbers_of such es)
  numbers_last least end [] o rises = refl
  numbers_last least end (e ∷ es) o rises = by (such e.1) (such o) (numbers_last (e.0 + 1) end es o rises.1)
    where
      by : (b c : Bool) → numbers_of such (es ++ (end, o) ∷ []) ≡ added c end (numbers_of such es)
          → cond b (e.0 ∷ numbers_of such (es ++ (end, o) ∷ [])) (numbers_of such (es ++ (end, o) ∷ []))
          ≡ added c end (cond b (e.0 ∷ numbers_of such es) (numbers_of such es))
      by true true is = ap (λ l. e.0 ∷ l) is
          ∙ sym (insert_behind end e.0 (numbers_of such es) (key_below least end e es rises))
      by true false is = ap (λ l. e.0 ∷ l) is
      by false c is = is

  pub fresh : (least end : ℕ) (es : List (ℕ × Open)) → RisesTo least end es → IsFresh end (numbers_of such es)
  fresh least end [] rises = (refl, ap (λ r. cond (is_eq r) [] (end ∷ [])) (same end))
  fresh least end (e ∷ es) rises = by (such e.1) (fresh (e.0 + 1) end es rises.1)
    where
      below : e.0 < end
      below = key_below least end e es rises

      apart : (ks : List ℕ) → without_number end (e.0 ∷ ks) ≡ e.0 ∷ without_number end ks
      apart ks = remove_behind end e.0 ks (not_above end e.0 below)

      by : (b : Bool) → IsFresh end (numbers_of such es)
          → IsFresh end (cond b (e.0 ∷ numbers_of such es) (numbers_of such es))
      by true more = (
        apart (numbers_of such es) ∙ ap (λ l. e.0 ∷ l) more.0,
        ap (without_number end) (insert_behind end e.0 (numbers_of such es) below)
            ∙ apart (with_number end (numbers_of such es)) ∙ ap (λ l. e.0 ∷ l) more.1,
      )
      by false more = more

  -- ---- the first that is such

  first_from : (least end n : ℕ) (es : List (ℕ × Open)) → RisesTo least end es
      → first_of (numbers_of such es) ≡ Some n → least ≤ n
  first_from least end n [] rises is = cc
  first_from least end n (e ∷ es) rises is = by (such e.1) (first_from (e.0 + 1) end n es rises.1) is
    where
      by : (b : Bool) → (first_of (numbers_of such es) ≡ Some n → e.0 + 1 ≤ n)
          → first_of (cond b (e.0 ∷ numbers_of such es) (numbers_of such es)) ≡ Some n → least ≤ n
      by true later is = let here : e.0 ≡ n = cc in omega (arith, here, rises.0)
      by false later is = let more : e.0 + 1 ≤ n = later is in omega (arith, more, rises.0)

  pub find_first : (least end : ℕ) (es : List (ℕ × Open)) → RisesTo least end es
      → find such (values_of es)
      ≡ option_and_then (λ k. lookup (is_at (nat_cmp k)) es) (first_of (numbers_of such es))
  find_first least end [] rises = refl
  find_first least end (e ∷ es) rises = by (such e.1) (find_first (e.0 + 1) end es rises.1)
    where
      behind : (r : Option ℕ) → first_of (numbers_of such es) ≡ r
          → option_and_then (λ k. lookup (is_at (nat_cmp k)) es) r
          ≡ option_and_then (λ k. lookup (is_at (nat_cmp k)) (e ∷ es)) r
      behind None is = refl
      behind (Some k) is =
          let more = first_from (e.0 + 1) end k es rises.1 is in
          let above : e.0 < k = omega (arith, more) in
          ap (λ b. cond b (Some e.1) (lookup (is_at (nat_cmp k)) es)) (sym (not_above k e.0 above))

      by : (b : Bool) → find such (values_of es)
          ≡ option_and_then (λ k. lookup (is_at (nat_cmp k)) es) (first_of (numbers_of such es))
          → cond b (Some e.1) (find such (values_of es))
          ≡ option_and_then (λ k. lookup (is_at (nat_cmp k)) (e ∷ es))
          (first_of (cond b (e.0 ∷ numbers_of such es) (numbers_of such es)))
      by true is = ap (λ r. cond (is_eq r) (Some e.1) (lookup (is_at (nat_cmp e.0)) es)) (sym (same e.0))
      by false is = is ∙ behind (first_of (numbers_of such es)) refl

  pub any_first : (es : List (ℕ × Open)) → list_any such (values_of es) ≡ is_some (first_of (numbers_of such es))
  any_first [] = refl
  any_first (e ∷ es) = by (such e.1) (any_first es)
    where
      by : (b : Bool) → list_any such (values_of es) ≡ is_some (first_of (numbers_of such es))
          → (b || list_any such (values_of es))
          ≡ is_some (first_of (cond b (e.0 ∷ numbers_of such es) (numbers_of such es)))
      by true is = refl
      by false is = is

  -- ---- one less

  pub numbers_less : (n : ℕ) (o : Open) (es : List (ℕ × Open)) → lookup (is_at (nat_cmp n)) es ≡ Some o
      → numbers_of such (remove_entry (is_at (nat_cmp n)) es) ≡ removed (such o) n (numbers_of such es)
  numbers_less n o [] found = cc
  numbers_less n o (e ∷ es) found = by (is_at (nat_cmp n) e.0) refl (numbers_less n o es) found
    where
      here : (b c : Bool) → is_at (nat_cmp n) e.0 ≡ true → such o ≡ c
          → numbers_of such es ≡ removed c n (cond c (e.0 ∷ numbers_of such es) (numbers_of such es))
      here b true at is = ap (λ b. cond b (numbers_of such es) (e.0 ∷ without_number n (numbers_of such es))) (sym at)
      here b false at is = refl

      behind : (b c : Bool) → is_at (nat_cmp n) e.0 ≡ false
          → numbers_of such (remove_entry (is_at (nat_cmp n)) es) ≡ removed c n (numbers_of such es)
          → cond b (e.0 ∷ numbers_of such (remove_entry (is_at (nat_cmp n)) es))
          (numbers_of such (remove_entry (is_at (nat_cmp n)) es))
          ≡ removed c n (cond b (e.0 ∷ numbers_of such es) (numbers_of such es))
      behind true true apart is = ap (λ l. e.0 ∷ l) is ∙ sym (remove_behind n e.0 (numbers_of such es) apart)
      behind true false apart is = ap (λ l. e.0 ∷ l) is
      behind false c apart is = is

      by : (b : Bool) → is_at (nat_cmp n) e.0 ≡ b
          → (lookup (is_at (nat_cmp n)) es ≡ Some o
          → numbers_of such (remove_entry (is_at (nat_cmp n)) es) ≡ removed (such o) n (numbers_of such es))
          → cond b (Some e.1) (lookup (is_at (nat_cmp n)) es) ≡ Some o
          → numbers_of such (cond b es (e ∷ remove_entry (is_at (nat_cmp n)) es))
          ≡ removed (such o) n (cond (such e.1) (e.0 ∷ numbers_of such es) (numbers_of such es))
      by true at less found =
          let is : e.1 ≡ o = cc in
          here true (such o) at refl
          ∙ ap (λ x. removed (such o) n (cond (such x) (e.0 ∷ numbers_of such es) (numbers_of such es))) (sym is)
      by false at less found = behind (such e.1) (such o) at (less found)

  pub first_goes : (least end n : ℕ) (es : List (ℕ × Open)) → RisesTo least end es
      → first_of (numbers_of such es) ≡ Some n
      → values_of (remove_entry (is_at (nat_cmp n)) es) ≡ without_first such (values_of es)
  first_goes least end n [] rises is = refl
  first_goes least end n (e ∷ es) rises is = by (such e.1) (first_goes (e.0 + 1) end n es rises.1) is
    where
      by : (b : Bool) → (first_of (numbers_of such es) ≡ Some n
          → values_of (remove_entry (is_at (nat_cmp n)) es) ≡ without_first such (values_of es))
          → first_of (cond b (e.0 ∷ numbers_of such es) (numbers_of such es)) ≡ Some n
          → values_of (cond (is_at (nat_cmp n) e.0) es (e ∷ remove_entry (is_at (nat_cmp n)) es))
          ≡ cond b (values_of es) (e.1 ∷ without_first such (values_of es))
      by true goes is =
          let here : e.0 ≡ n = cc in
          ap (λ k. values_of (cond (is_at (nat_cmp k) e.0) es (e ∷ remove_entry (is_at (nat_cmp k)) es))) (sym here)
          ∙ ap (λ r. values_of (cond (is_eq r) es (e ∷ remove_entry (is_at (nat_cmp e.0)) es))) (same e.0)
      by false goes is =
          let more = first_from (e.0 + 1) end n es rises.1 is in
          let above : e.0 < n = omega (arith, more) in
          ap (λ b. values_of (cond b es (e ∷ remove_entry (is_at (nat_cmp n)) es))) (not_above n e.0 above)
          ∙ ap (λ l. e.1 ∷ l) (goes is)

  pub none_goes : (os : List Open) → find such os ≡ None → without_first such os ≡ os
  none_goes [] is = refl
  none_goes (o ∷ os) is = by (such o) (none_goes os) is
    where
      by : (b : Bool) → (find such os ≡ None → without_first such os ≡ os) → cond b (Some o) (find such os) ≡ None
          → cond b os (o ∷ without_first such os) ≡ o ∷ os
      by true goes is = cc
      by false goes is = ap (λ l. o ∷ l) (goes is)
