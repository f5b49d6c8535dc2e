-- The numbers of each id, where those of one id change.
use Rattle.std.proofs.Common.{◌≡◌, ℕ, Bool, true, false, cond, List, [], Option, Some, None, refl, sym, ap, ◌∙◌}
use Rattle.std.proofs.Common.{option_map, unwrap_or, Result, Ok, Err, OnErr, OnOk}
use Rattle.std.specs.BTreeMap.{BTreeMap, get, UpdatesBy, WritesThrough}
use Rattle.std.specs.BTreeSet.{BTreeSet}
use Rattle.std.specs.Option.{IsSome}
use Rattle.lsp_message.proofs.Ids.{same_own, same_is}
use Rattle.lsp_message.specs.Id.{Id, id_cmp, same_id}
use Rattle.lsp_watch.specs.Indexed.{numbers_at, numbers_by, without_number}
use Rattle.lsp_watch.specs.declared.direction.Direction.{Direction}
use Rattle.lsp_watch.specs.declared.direction.Direction.TheVariants.{ToServer, ToClient}
use Rattle.lsp_watch.specs.declared.uses.ByDirection.{ByDirection}

-- ---- results

module _ {T E P Q : Type 0} where
  pub map_err : (r : Result T E) → (P → Q) → OnErr r P → OnErr r Q
  map_err (Ok x) f h = tt
  map_err (Err e) f h = f h

  pub map_ok : (r : Result T E) → (P → Q) → OnOk r P → OnOk r Q
  map_ok (Ok x) f h = f h
  map_ok (Err e) f h = tt

module _ {T E P : Type 0} where
  pub on_err : (r : Result T E) → P → OnErr r P
  on_err (Ok x) h = tt
  on_err (Err e) h = h

  pub on_ok : (r : Result T E) → P → OnOk r P
  on_ok (Ok x) h = h
  on_ok (Err e) h = tt

pub unless : {A : Type 0} (b : Bool) (x : A) → cond b x x ≡ x
unless true x = refl
unless false x = refl

-- ---- ids

pub swap : (a b : Id) → same_id a b ≡ same_id b a
swap a b = by (same_id a b) (same_id b a) refl refl
  where
    by : (x y : Bool) → same_id a b ≡ x → same_id b a ≡ y → x ≡ y
    by true true is back = refl
    by false false is back = refl
    by true false is back = sym (ap (λ k. same_id b k) (same_is a b is) ∙ same_own b) ∙ back
    by false true is back = sym is ∙ ap (λ k. same_id a k) (same_is b a back) ∙ same_own a

-- the numbers that are kept of an id
abbrev pub kept : Option (BTreeSet ℕ) → List ℕ
kept w = unwrap_or (option_map (λ s. s.keys) w) []

is_there : {A : Type 0} (o : Option A) (x : A) → Some x ≡ o → IsSome o
is_there None x e = cc
is_there (Some y) x e = refl

module _ (m n : BTreeMap Id (BTreeSet ℕ)) (k : Id) (g : List ℕ → List ℕ) where
  pub changed_by : (w : Option (BTreeSet ℕ)) → UpdatesBy id_cmp (id_cmp k) m n w
      → kept w ≡ g (kept (get id_cmp m k)) → (q : Id)
      → kept (get id_cmp n q) ≡ cond (same_id q k) (g (kept (get id_cmp m q))) (kept (get id_cmp m q))
  changed_by w updates is q =
      ap kept (updates.0 q) ∙ by (same_id k q) refl
      ∙ ap (λ b. cond b (g (kept (get id_cmp m q))) (kept (get id_cmp m q))) (swap k q)
    where
      by : (b : Bool) → same_id k q ≡ b → kept (cond b w (get id_cmp m q))
          ≡ cond b (g (kept (get id_cmp m q))) (kept (get id_cmp m q))
      by true at = is ∙ ap (λ i. g (kept (get id_cmp m i))) (same_is k q at)
      by false at = refl

  pub written : (s w : BTreeSet ℕ) → WritesThrough id_cmp (id_cmp k) m w n → Some s ≡ get id_cmp m k
      → w.keys ≡ g s.keys → (q : Id)
      → kept (get id_cmp n q) ≡ cond (same_id q k) (g (kept (get id_cmp m q))) (kept (get id_cmp m q))
  written s w writes there is =
      changed_by (Some w) (writes.3 (is_there (get id_cmp m k) s there)) (is ∙ ap (λ o. g (kept o)) there)

-- an id that no request uses
pub absent : (m : BTreeMap Id (BTreeSet ℕ)) (k : Id) (n : ℕ) → kept (get id_cmp m k) ≡ [] → (q : Id)
    → kept (get id_cmp m q)
    ≡ cond (same_id q k) (without_number n (kept (get id_cmp m q))) (kept (get id_cmp m q))
absent m k n none q = by (same_id q k) refl
  where
    by : (b : Bool) → same_id q k ≡ b → kept (get id_cmp m q)
        ≡ cond b (without_number n (kept (get id_cmp m q))) (kept (get id_cmp m q))
    by true at =
        let is : kept (get id_cmp m q) ≡ [] = ap (λ i. kept (get id_cmp m i)) (same_is q k at) ∙ none in
        is ∙ sym (ap (without_number n) is)
    by false at = refl

-- ---- directions

pub by_directions : (u v : ByDirection) → ((q : Id) → numbers_at v.to_server q ≡ numbers_at u.to_server q)
    → ((q : Id) → numbers_at v.to_client q ≡ numbers_at u.to_client q)
    → (w : Direction) (q : Id) → numbers_by v w q ≡ numbers_by u w q
by_directions u v server client ToServer q = server q
by_directions u v server client ToClient q = client q
