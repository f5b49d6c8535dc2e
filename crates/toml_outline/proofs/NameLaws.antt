-- How a name is made.
use Rattle.std.proofs.Common.{◌≡◌, refl, sym, ap, ◌∙◌, ℕ, zero, suc, ◌-◌, ◌+◌, ◌<◌, true, List, []}
use Rattle.std.proofs.Common.{◌∷◌, ◌++◌, append_assoc, length, reverse, drop, get_or, Option, None, Some}
use Rattle.std.proofs.Common.{option_and_then, slice_get, arith}
use Rattle.std.proofs.lemmas.Bool.Decides.{nat_tests}
use Rattle.std.proofs.lemmas.List.{drop_more, reverse-append, reverse-reverse, take_all}
use Rattle.std.specs.Str.{IsCharBoundary}
use Rattle.toml_outline.specs.declared.outline.Span.{Span}
use Rattle.toml_outline.specs.Keys.{Key}
use Rattle.toml_outline.specs.Names.{after_above, is_boundary, parts_above, parts_to}

pub boundary_is : (text : List ℕ) (at : ℕ) → is_boundary text at ≡ true → IsCharBoundary text at
boundary_is text at is = (grind (arith, nat_tests), λ below high. grind (arith, nat_tests))

pub above_none : (keys : List Key) (at : Option ℕ) → parts_above keys 0 at ≡ []
unfolding parts_above
above_none keys at = refl

pub above_over : (keys : List Key) (n : ℕ) (at : Option ℕ) → option_and_then (slice_get keys) at ≡ None
    → parts_above keys n at ≡ []
unfolding parts_above
above_over keys zero at over = refl
above_over keys (suc n) at over = rw over

pub above_more : (keys : List Key) (n : ℕ) (at : Option ℕ) (key : Key) → 0 < n
    → option_and_then (slice_get keys) at ≡ Some key
    → parts_above keys n at ≡ parts_above keys (n - 1) key.parent ++ key.parts
unfolding parts_above
above_more keys zero at key some is = absurd (omega arith)
above_more keys (suc n) at key some is =
    let less : suc n - 1 ≡ n = omega arith in
    rw (is, less)

-- the parts that are added backward
pub reverse_more : (xs : List Span) (i : ℕ) (d : Span) → i < length xs
    → reverse (drop i xs) ≡ reverse (drop (i + 1) xs) ++ get_or xs i d ∷ []
reverse_more xs i d below =
    ap (λ (l : List Span). reverse l) (drop_more xs i d below)
    ∙ reverse-append (get_or xs i d ∷ []) (drop (i + 1) xs)

-- a key more
pub parts_more : (total above parts spans : List Span) → total ≡ (above ++ parts) ++ reverse spans
    → total ≡ above ++ reverse (spans ++ reverse parts)
parts_more total above parts spans is =
    is ∙ append_assoc above parts (reverse spans)
    ∙ ap (λ (l : List Span). above ++ l) (ap (λ (l : List Span). l ++ reverse spans) (sym (reverse-reverse parts))
    ∙ sym (reverse-append spans (reverse parts)))

pub parts_all : (keys : List Key) (key : Option Key) (count : ℕ) → ((k : Key) → key ≡ Some k → count ≡ length k.parts)
    → parts_to keys count key ≡ after_above (parts_above keys (length keys)) key
parts_all keys None count all = refl
parts_all keys (Some key) count all =
    ap (λ (l : List Span). parts_above keys (length keys) key.parent ++ l)
    (take_all count key.parts (omega (arith, all key refl)))
