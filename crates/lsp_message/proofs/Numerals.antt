-- The value of a numeral is what `parse` gives.
use Rattle.std.proofs.Common.{◌≡◌, ℕ, zero, suc, ◌<◌, ◌^◌, Bool, true, false, ◌&&◌, cond, eqb, eqb-true, List, [], ◌∷◌}
use Rattle.std.proofs.Common.{length, drop, Some, None, Result, Ok, Err, refl, sym, ap, arith}
use Rattle.std.proofs.lemmas.Bool.{ltb-true, lt-ltb}
use Rattle.std.proofs.lemmas.Fmt.{IsAscii-from_digits}
use Rattle.std.proofs.lemmas.Str.{IsUtf8-from_ascii, IsUtf8-nil, IsUtf8-append}
use Rattle.std.proofs.lemmas.Str.Parse.{IsNumeralModel, numerals_by_value, tells_all_ascii_digits}
use Rattle.std.specs.Result.{result_ok}
use Rattle.std.specs.Str.{IsUtf8, IsAscii, all_ascii_digits}
use Rattle.std.specs.Str.Parse.{ParsesUnsigned, AllDigits, digits_value, without_leading_plus}
use Rattle.lsp_message.specs.HeaderPart.{number}

pub own : IsNumeralModel (λ ds. all_ascii_digits ds ≡ true) (digits_value 10)
own = numerals_by_value _ tells_all_ascii_digits

-- a test of three that can't all hold
some_fails : {X : Type 0} (a b c : Bool) (x : X) → (a ≡ true → b ≡ true → c ≡ true → ⊥) → cond (a && (b && c)) (Some x)
    None ≡ None
some_fails true true true x never = absurd (never refl refl refl)
some_fails true true false x never = refl
some_fails true false c x never = refl
some_fails false b c x never = refl

pub number-parse : {E : Type 0} (bs : List ℕ) (r : Result ℕ E) → ParsesUnsigned 64 10 bs r → result_ok r ≡ number bs
number-parse bs (Ok x) h =
    let ds = without_leading_plus bs in
    let some = lt-ltb 0 (length ds) h.0.0.0 in
    let digits = own.from ds h.0.0.1 in
    let fits = lt-ltb (digits_value 10 ds) (2 ^ 64) h.0.1 in
    rw (some, digits, fits) (ap Some h.1)
number-parse bs (Err e) h =
    let ds = without_leading_plus bs in
    sym (some_fails _ _ _ _ (λ some digits fits. h ((ltb-true _ _ some, own.to ds digits), ltb-true _ _ fits)))

one_ascii : (c : ℕ) → c < 128 → IsAscii (c ∷ [])
one_ascii c small zero = small
one_ascii c small (suc i) = omega arith

-- a numeral is text
text_with_plus : (bs : List ℕ) → AllDigits 10 (without_leading_plus bs) → IsUtf8 bs
text_with_plus [] h = IsUtf8-nil
text_with_plus (c ∷ cs) h = at (eqb c 43) refl h
  where
    at : (b : Bool) → eqb c 43 ≡ b → AllDigits 10 (drop (cond b 1 0) (c ∷ cs)) → IsUtf8 (c ∷ cs)
    at true e h =
        let plus = eqb-true c 43 e in
        IsUtf8-append (c ∷ []) cs (IsUtf8-from_ascii (c ∷ []) (one_ascii c (omega arith))) (IsUtf8-from_ascii cs
        (IsAscii-from_digits cs h))
    at false e h = IsUtf8-from_ascii (c ∷ cs) (IsAscii-from_digits (c ∷ cs) h)

pub number-no_text : (bs : List ℕ) → ¬ IsUtf8 bs → None ≡ number bs
number-no_text bs never = sym (some_fails _ _ _ _ (λ some digits fits. never (text_with_plus bs (own.to _ digits))))
