-- Places in lists.
use Rattle.std.proofs.Common.{◌≡◌, ◌⊎◌, refl, sym, subst, ap, inl, inr, List, [], ◌∷◌, ◌++◌}
use Rattle.std.proofs.Common.{Option, Some, None, length, arith}
use Rattle.std.proofs.Math.Seq.{get_or-append_seam}
use Rattle.std.proofs.lemmas.List.{length-append}
use Rattle.std.specs.List.{All}
use Rattle.std.specs.Prelude.{IsSomeAnd}

module _ {A : Type 0} where
  pub not_empty : (before since : List A) (x : A) → [] ≡ before ++ x ∷ since → ⊥
  not_empty [] since x e = absurd (cc (e))
  not_empty (b ∷ before) since x e = absurd (cc (e))

  -- a place in a list with one more: that one, or a place before it
  pub place : (earlier before since : List A) (t x : A) → earlier ++ t ∷ [] ≡ before ++ x ∷ since
      → ((since ≡ []) × (x ≡ t))
      ⊎ ((rest : List A) × (since ≡ rest ++ t ∷ []) × (earlier ≡ before ++ x ∷ rest))
  place [] [] since t x e = inl (cc (e), cc (e))
  place [] (b ∷ before) since t x e =
      let no : [] ≡ before ++ x ∷ since = cc (e) in absurd (not_empty before since x no)
  place (y ∷ earlier) [] since t x e =
      let same : y ≡ x = cc (e) in inr (earlier, cc (e), ap (λ (z : A). z ∷ earlier) same)
  place (y ∷ earlier) (b ∷ before) since t x e =
      let same : y ≡ b = cc (e) in
      let more : earlier ++ t ∷ [] ≡ before ++ x ∷ since = cc (e) in
      elim (place earlier before since t x more) [
        | inl here ↦ inl here
        | inr there ↦ inr (there.0, there.1, λ k. same k ∷ there.2 k)
      ]

  -- a place in a list of one
  pub only : (before after : List A) (x y : A) → y ∷ [] ≡ before ++ x ∷ after → x ≡ y
  only before after x y e = elim (place [] before after y x e) [
    | inl here ↦ here.1
    | inr there ↦ absurd (not_empty before there.0 x there.2)
  ]

-- a place in two lists, one after the other: in the first or in the second
pub place_in : {A : Type 0} (xs ys before after : List A) (x : A) → xs ++ ys ≡ before ++ x ∷ after
    → ((rest : List A) × (after ≡ rest ++ ys) × (xs ≡ before ++ x ∷ rest))
    ⊎ ((sooner : List A) × (before ≡ xs ++ sooner) × (ys ≡ sooner ++ x ∷ after))
place_in [] ys before after x e = inr (before, refl, e)
place_in (y ∷ xs) ys [] after x e =
    let same : y ≡ x = cc (e) in
    let more : xs ++ ys ≡ after = cc (e) in
    inl (xs, sym more, λ k. same k ∷ xs)
place_in {A} (y ∷ xs) ys (b ∷ before) after x e =
    let same : y ≡ b = cc (e) in
    let more : xs ++ ys ≡ before ++ x ∷ after = cc (e) in
    elim (place_in xs ys before after x more) [
      | inl there ↦ inl (there.0, there.1, λ k. same k ∷ there.2 k)
      | inr here ↦ inr (here.0, (λ k. sym same k ∷ here.1 k), here.2)
    ]

pub some_and : {A : Type 0} (Q : A → Type 0) (o : Option A) → IsSomeAnd o Q → (x : A) × (o ≡ Some x) × Q x
some_and Q None q = absurd q
some_and Q (Some x) q = (x, refl, q)

-- what holds of each element of a list holds of one at a place
pub in_list : {A : Type 0} (Q : A → Type 0) (before after : List A) (x : A) (xs : List A) → xs ≡ before ++ x ∷ after
    → All Q xs → Q x
in_list Q before after x xs e all =
    subst Q (get_or-append_seam before x after x)
    (subst (All Q) e all (length before) x (omega (arith, length-append before (x ∷ after))))
