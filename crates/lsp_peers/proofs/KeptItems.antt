-- Items that have the ids 0, 1, 2, .., without those of some ids.
use Rattle.std.proofs.Common.{◌≡◌, ◌≢◌, ℕ, zero, suc, pos, negsuc, List, [], ◌∷◌, ◌++◌, length, ◌≤◌, refl, ap, arith}
use Rattle.std.proofs.Common.{◌+◌, sym, ◌∙◌, subst, ⊎_elim}
use Rattle.std.proofs.lemmas.Bool.{cond-true, cond-false}
use Rattle.std.specs.Prelude.{Option, None, Some, IsSome, slice_get, Bool, true, false, if◌then◌else◌}
use Rattle.lsp_message.specs.Id.{Id, number, text, same_id}
use Rattle.lsp_message.proofs.Ids.{cases_id, same_own, same_other}
use Rattle.lsp_queue.specs.Queue.{Pending}
use Rattle.lsp_queue.proofs.AtIds.{insert_here, insert_other, remove_here, remove_other}
use Rattle.lsp_peers.specs.Ids.{nth_id, item_at, has}
use Rattle.std.specs.FinMap as map

-- ---- ids against each other, and what lists have under them

module _ {X : Type 0} where
  push_at : (xs : List X) (x : X) → slice_get (xs ++ x ∷ []) (length xs) ≡ Some x
  push_at [] x = refl
  push_at (y ∷ xs) x = push_at xs x

  push_at_other : (xs : List X) (x : X) (i : ℕ) → i ≢ length xs → slice_get (xs ++ x ∷ []) i ≡ slice_get xs i
  push_at_other [] x zero other = absurd (other refl)
  push_at_other [] x (suc i) other = refl
  push_at_other (y ∷ xs) x zero other = refl
  push_at_other (y ∷ xs) x (suc i) other = push_at_other xs x i (λ e. other (ap suc e))

  end_at : (xs : List X) → slice_get xs (length xs) ≡ None
  end_at [] = refl
  end_at (x ∷ xs) = end_at xs

  pub get-push : (xs : List X) (x : X) → item_at (xs ++ x ∷ []) (nth_id (length xs)) ≡ Some x
  get-push xs x = push_at xs x

  pub get-push_other : (xs : List X) (x : X) (id : Id) → id ≢ nth_id (length xs) → item_at (xs ++ x ∷ []) id
      ≡ item_at xs id
  get-push_other xs x (number (pos n)) other = push_at_other xs x n (λ e. other (ap (λ (k : ℕ). nth_id k) e))
  get-push_other xs x (number (negsuc n)) other = refl
  get-push_other xs x (text s) other = refl

  pub get-end : (xs : List X) → item_at xs (nth_id (length xs)) ≡ None
  get-end xs = end_at xs

  pub get-nothing : (id : Id) → item_at {X = X} [] id ≡ None
  get-nothing (number (pos n)) = refl
  get-nothing (number (negsuc n)) = refl
  get-nothing (text s) = refl

-- 1 if there is one, else 0
abbrev pub one_some : {X : Type 0} → Option X → ℕ
one_some None = 0
one_some (Some x) = 1

pub at_most : {X : Type 0} (o : Option X) → one_some o ≤ 1
at_most None = omega arith
at_most (Some x) = omega arith

pub some_of : {X : Type 0} (o : Option X) → 1 ≤ one_some o → IsSome o
some_of None some = absurd (omega (arith, some))
some_of (Some x) some = refl

shorter : {X Y : Type 0} (xs : List X) (ys : List Y) (n : ℕ) → length xs ≤ length ys → one_some (slice_get xs n) ≤
    one_some (slice_get ys n)
shorter [] ys n within = omega arith
shorter (x ∷ xs) [] n within = absurd (omega (arith, within))
shorter (x ∷ xs) (y ∷ ys) zero within = omega arith
shorter (x ∷ xs) (y ∷ ys) (suc n) within = shorter xs ys n (omega (arith, within))

-- a list has under an id what a shorter one has
pub item_shorter : {X Y : Type 0} (xs : List X) (ys : List Y) (id : Id) → length xs ≤ length ys → one_some (item_at xs
    id) ≤ one_some (item_at ys id)
item_shorter xs ys (number (pos n)) within = shorter xs ys n within
item_shorter xs ys (number (negsuc n)) within = omega arith
item_shorter xs ys (text s) within = omega arith

-- ---- items that have the ids 0, 1, 2, .., without those of some ids

-- how often an id is in a list
abbrev pub occurs : Id → List Id → ℕ
occurs id [] = 0
occurs id (x ∷ xs) = (if same_id x id then 1 else 0) + occurs id xs

pub occurs-append : (id : Id) (xs ys : List Id) → occurs id (xs ++ ys) ≡ occurs id xs + occurs id ys
occurs-append id [] ys = omega arith
occurs-append id (x ∷ xs) ys = omega (arith, occurs-append id xs ys)

-- a number that is 0 exactly if this is false
abbrev pub Counts : Bool → ℕ → Type 0
Counts true n = 1 ≤ n
Counts false n = n ≡ 0

pub counts : (id : Id) (xs : List Id) → Counts (has id xs) (occurs id xs)
counts id [] = refl
counts id (x ∷ xs) = at (same_id x id) (has id xs) (counts id xs)
  where
    at : (b h : Bool) → Counts h (occurs id xs) → Counts (if b then true else h) ((if b then 1 else 0) + occurs id xs)
    at true h rest = omega arith
    at false true rest = omega (arith, rest)
    at false false rest = omega (arith, rest)

pub absent : (id : Id) (xs : List Id) → occurs id xs ≡ 0 → has id xs ≡ false
absent id xs none = at (has id xs) (counts id xs)
  where
    at : (h : Bool) → Counts h (occurs id xs) → h ≡ false
    at true some = absurd (omega (arith, some, none))
    at false some = refl

pub never : (id : Id) (xs : List Id) → has id xs ≡ false → occurs id xs ≡ 0
never id xs is = subst (λ (h : Bool). Counts h (occurs id xs)) is (counts id xs)

pub here_once : (id : Id) → ◌≡◌ {A = ℕ} (if same_id id id then 1 else 0) 1
here_once id = cond-true (same_id id id) 1 0 (same_own id)

pub not_there : (id other : Id) → other ≢ id → ◌≡◌ {A = ℕ} (if same_id id other then 1 else 0) 0
not_there id other apart = cond-false (same_id id other) 1 0 (same_other id other (λ e. apart (sym e)))

true_or : (b rest : Bool) → rest ≡ true → (if b then true else rest) ≡ true
true_or true rest is = refl
true_or false rest is = is

has-push_own : (id : Id) (xs : List Id) → has id (xs ++ id ∷ []) ≡ true
has-push_own id [] = cond-true (same_id id id) true false (same_own id)
has-push_own id (x ∷ xs) = true_or (same_id x id) (has id (xs ++ id ∷ [])) (has-push_own id xs)

has-push_other : (id other : Id) (xs : List Id) → other ≢ id → has other (xs ++ id ∷ []) ≡ has other xs
has-push_other id other [] apart = cond-false (same_id id other) true false (same_other id other (λ e. apart (sym e)))
has-push_other id other (x ∷ xs) apart = ap (λ b. if same_id x other then true else b) (has-push_other id other xs
    apart)

-- the same but at one id
at_key : {P : Type 0} (old new : Id → P) (key : Id) (x : P) → new key ≡ x → ((id : Id) → id ≢ key → new id ≡ old id)
    → (id : Id) → new id ≡ (if same_id key id then x else old id)
at_key old new key x here apart id =
    ⊎_elim
    (λ same. subst (λ (n : Id). new n ≡ (if same_id key n then x else old n)) (sym same) (here
    ∙ sym (cond-true (same_id key key) x (old key) (same_own key))))
    (λ other. apart id other ∙ sym (cond-false (same_id key id) x (old id) (same_other key id (λ e. other (sym e)))))
    (cases_id id key)

pub has-push : (key id : Id) (xs : List Id) → has id (xs ++ key ∷ []) ≡ (if same_id key id then true else has id xs)
has-push key id xs = at_key (λ i. has i xs) (λ i. has i (xs ++ key ∷ [])) key true (has-push_own key xs)
    (λ i apart. has-push_other key i xs apart) id

pub item-push : {X : Type 0} (xs : List X) (x : X) (id : Id) → item_at (xs ++ x ∷ []) id
    ≡ (if same_id (nth_id (length xs)) id then Some x else item_at xs id)
item-push xs x id = at_key (item_at xs) (item_at (xs ++ x ∷ [])) (nth_id (length xs)) (Some x) (get-push xs x)
    (get-push_other xs x) id

-- ---- one id is set

-- one id gets this value, and each other keeps what it has
pub record Sets {X : Type 0} (old new : Id → X) (key : Id) (value : X) : Type 0 where
  pub here : new key ≡ value
  pub others : (other : Id) → other ≢ key → new other ≡ old other

-- the same id is set in both
pub sets_both : {X : Type 0} {f g new_f new_g : Id → X} {key : Id} {value : X} → ((id : Id) → f id ≡ g id)
    → Sets f new_f key value → Sets g new_g key value → (id : Id) → new_f id ≡ new_g id
sets_both {X} {f} {g} {new_f} {new_g} {key} {value} same one two id =
    ⊎_elim
    (λ here. subst (λ (n : Id). new_f n ≡ new_g n) (sym here) (one.here ∙ sym two.here))
    (λ other. one.others id other ∙ same id ∙ sym (two.others id other))
    (cases_id id key)

module _ {X : Type 0} where
  pub insert_sets : (m : Pending X) (key : Id) (x : X) → Sets (map.get m) (map.get (map.insert m key x)) key (Some x)
  insert_sets m key x = record { here = insert_here m key x; others = insert_other m key x }

  pub remove_sets : (m : Pending X) (key : Id) → Sets (map.get m) (map.get (map.remove m key)) key None
  remove_sets m key = record { here = remove_here m key; others = remove_other m key }

  abbrev pub kept : List X → List Id → Id → Option X
  kept xs ids id = if has id ids then None else item_at xs id

  -- one more item
  pub kept_more : (xs more : List X) (ids same : List Id) (x : X) → more ≡ xs ++ x ∷ [] → same ≡ ids
      → has (nth_id (length xs)) ids ≡ false → Sets (kept xs ids) (kept more same) (nth_id (length xs)) (Some x)
  kept_more xs more ids same x pushed is unseen = record {
    here = (λ i. kept (pushed i) (is i) (nth_id (length xs))) ∙ cond-false _ _ _ unseen ∙ get-push xs x;
    others = λ id apart. (λ i. kept (pushed i) (is i) id) ∙ ap (λ (o : Option X). if has id ids then None else o)
        (get-push_other xs x id apart);
  }

  -- one more id whose item is not kept
  pub kept_less : (xs same : List X) (ids more : List Id) (key : Id) → same ≡ xs → more ≡ ids ++ key ∷ []
      → Sets (kept xs ids) (kept same more) key None
  kept_less xs same ids more key is pushed = record {
    here = (λ i. kept (is i) (pushed i) key) ∙ cond-true _ _ _ (has-push_own key ids);
    others = λ id apart. (λ i. kept (is i) (pushed i) id) ∙ ap (λ (b : Bool). if b then None else item_at xs id)
        (has-push_other key id ids apart);
  }
