-- The numbers of texts that are digits alone.
use Rattle.std.proofs.Common.{◌≡◌, ℕ, ◌^◌, ◌<◌, ◌≤◌, List, [], ◌++◌, length, get_or, false, Some, refl, sym, ap, ◌∙◌}
use Rattle.std.proofs.Common.{subst, arith, append-nil, lt-ltb, ne_eqb, Result, Ok, Err, OkIff, IfSome}
use Rattle.std.proofs.lemmas.Str.Parse.{without_leading_plus_none}
use Rattle.std.specs.Result.{result_ok}
use Rattle.std.specs.Str.Parse.{IsNumeral, ParsesUnsigned, digits_value}
use Rattle.fast_float.specs.Text.{Parts, IsWellFormed, scan}
use Rattle.fast_float.proofs.Writing.{scan-text_of}
use Rattle.serde_json.specs.Data.{unsigned}
use Rattle.serde_json.specs.Read.{number_of}

-- the parts of a numeral that is digits alone
abbrev digits_alone : List ℕ → Parts
digits_alone ds =
    record {
      whole = ds;
      point = false;
      fraction = [];
      exponent_negative = false;
      exponent = [];
      len = length (ds ++ []);
    }

scan_digits : (ds : List ℕ) → IsNumeral 10 ds → scan ds ≡ digits_alone ds
scan_digits ds h =
    let formed : IsWellFormed (digits_alone ds) =
    record {
      whole_digits = h.1;
      fraction_digits = tt;
      exponent_digits = tt;
      no_point = λ _. refl;
      no_exponent = λ _. refl;
      len_is = refl;
    } in
    ap scan (sym (append-nil ds)) ∙ scan-text_of (digits_alone ds) formed

pub number_of-digits : (ds : List ℕ) → 48 ≤ get_or ds 0 0 → IsNumeral 10 ds → digits_value 10 ds < 2 ^ 64
    → number_of ds ≡ Some (unsigned (digits_value 10 ds))
unfolding number_of
number_of-digits ds first h fits =
    rw (ne_eqb (get_or ds 0 0) 45 (λ e. omega arith), scan_digits ds h, append-nil ds, lt-ltb _ _ h.0)
    (rw (lt-ltb _ _ fits) refl)

if_parsed : {E : Type 0} (ds : List ℕ) (r : Result ℕ E) → 48 ≤ get_or ds 0 0
    → OkIff r (IsNumeral 10 ds × (digits_value 10 ds < 2 ^ 64)) (digits_value 10 ds)
    → IfSome (result_ok r) (λ n. number_of ds ≡ Some (unsigned n))
if_parsed ds (Ok n) first parsed =
    number_of-digits ds first parsed.0.0 parsed.0.1 ∙ ap (λ v. Some (unsigned v)) (sym parsed.1)
if_parsed ds (Err e) first parsed = tt

-- a number that was parsed from a text whose first byte is a digit
pub number_if_parsed : {E : Type 0} (bs : List ℕ) (r : Result ℕ E) → 48 ≤ get_or bs 0 0 → get_or bs 0 0 ≤ 57
    → ParsesUnsigned 64 10 bs r → IfSome (result_ok r) (λ n. number_of bs ≡ Some (unsigned n))
number_if_parsed bs r first last parsed =
    if_parsed bs r first
    (subst (λ ds. OkIff r (IsNumeral 10 ds × (digits_value 10 ds < 2 ^ 64)) (digits_value 10 ds))
    (without_leading_plus_none bs (λ e. omega arith)) parsed)
