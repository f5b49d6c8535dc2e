-- The name and the value of a field, from the first place of ": ".
use Rattle.std.proofs.Common.{◌≡◌, ℕ, zero, suc, ◌+◌, ◌<◌, Bool, true, false, ◌&&◌, eqb, eq-eqb, eqb-true, List, []}
use Rattle.std.proofs.Common.{◌∷◌, length, take, drop, get_or, Option, Some, None, option_map, refl, sym, ap, ◌∙◌}
use Rattle.std.proofs.Common.{arith, true≢false}
use Rattle.memchr.specs.Find.{OccursAt, FindsNeedle}
use Rattle.lsp_message.specs.HeaderPart.{name_and_value, parted, header_text}

abbrev separator : List ℕ
separator = 58 ∷ 32 ∷ []

shorter : (c : ℕ) (text : List ℕ) (k : ℕ) → OccursAt (c ∷ text) separator (suc k) → OccursAt text separator k
shorter c text k h = record {
  fits = omega (arith, h.fits);
  reads = λ j below. let same : suc k + j ≡ suc (k + j) = omega arith in ap (λ i. get_or (c ∷ text) i 0) (sym same)
      ∙ h.reads j below;
}

longer : (c : ℕ) (text : List ℕ) (k : ℕ) → OccursAt text separator k → OccursAt (c ∷ text) separator (suc k)
longer c text k h = record {
  fits = omega (arith, h.fits);
  reads = λ j below. let same : suc k + j ≡ suc (k + j) = omega arith in ap (λ i. get_or (c ∷ text) i 0) same
      ∙ h.reads j below;
}

first_two : (c d : ℕ) (text : List ℕ) → c ≡ 58 → d ≡ 32 → OccursAt (c ∷ d ∷ text) separator 0
first_two c d text colon space = record { fits = omega arith; reads = at }
  where
    at : (j : ℕ) → j < 2 → get_or (c ∷ d ∷ text) (0 + j) 0 ≡ get_or separator j 0
    at zero below = colon
    at (suc zero) below = space
    at (suc (suc j)) below = absurd (omega arith)

-- the test of the first two bytes
abbrev is_separator : ℕ → ℕ → Bool
is_separator c d = eqb c 58 && eqb d 32

not_first : (c d : ℕ) (text : List ℕ) → (OccursAt (c ∷ d ∷ text) separator 0 → ⊥) → is_separator c d ≡ false
not_first c d text never = at (eqb c 58) refl (eqb d 32) refl
  where
    at : (a : Bool) → eqb c 58 ≡ a → (b : Bool) → eqb d 32 ≡ b → (a && b) ≡ false
    at true e true f = absurd (never (first_two c d text (eqb-true c 58 e) (eqb-true d 32 f)))
    at true e false f = refl
    at false e b f = refl

parted_at : (text : List ℕ) (k : ℕ) → OccursAt text separator k → ((j : ℕ) → j < k → OccursAt text separator j → ⊥)
    → name_and_value text ≡ Some (take k text, drop (k + 2) text)
parted_at [] k h before = absurd (omega (arith, h.fits))
parted_at (c ∷ []) k h before = absurd (omega (arith, h.fits))
parted_at (c ∷ d ∷ text) zero h before =
    let colon : eqb c 58 ≡ true = eq-eqb c 58 (h.reads 0 (omega arith)) in
    let space : eqb d 32 ≡ true = eq-eqb d 32 (h.reads 1 (omega arith)) in
    rw (colon, space) refl
parted_at (c ∷ d ∷ text) (suc k) h before =
    let other = not_first c d text (before 0 (omega arith)) in
    let later = parted_at (d ∷ text) k (shorter c (d ∷ text) k h) (λ j below at. before (suc j) (omega arith)
    (longer c (d ∷ text) j at)) in
    let same : suc k + 2 ≡ suc (k + 2) = omega arith in
    rw (other, later, same) refl

unparted : (text : List ℕ) → ((k : ℕ) → OccursAt text separator k → ⊥) → name_and_value text ≡ None
unparted [] never = refl
unparted (c ∷ []) never = refl
unparted (c ∷ d ∷ text) never =
    let other = not_first c d text (never 0) in
    let later = unparted (d ∷ text) (λ k at. never (suc k) (longer c (d ∷ text) k at)) in
    rw (other, later) refl

pub name_and_value-found : (text : List ℕ) (r : Option ℕ) → FindsNeedle text separator 0 r
    → name_and_value text ≡ option_map (λ k. (take k text, drop (k + 2) text)) r
name_and_value-found text None h = unparted text (λ k at. h k (omega arith) (omega (arith, at.fits)) at)
name_and_value-found text (Some k) h = parted_at text k h.1 (λ j below at. h.0.before j (omega arith) below at)

-- what stands before a line's end, if it is not empty
pub header_text-parted : (text : List ℕ) (r : Option ℕ) → eqb (length text) 0 ≡ false → FindsNeedle text separator 0 r
    → header_text text ≡ parted (option_map (λ k. (take k text, drop (k + 2) text)) r)
header_text-parted [] r some h = absurd (true≢false some)
header_text-parted (c ∷ text) r some h = ap parted (name_and_value-found (c ∷ text) r h)
