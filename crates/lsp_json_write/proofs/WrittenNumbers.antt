-- The texts of numbers are read as those numbers.
use Rattle.std.proofs.Common.{◌≡◌, ℕ, ℤ, pos, negsuc, List, [], ◌∷◌, ◌++◌, Float, Some, option_map, unwrap_or}
use Rattle.std.proofs.Common.{true, SFits, w64, refl, sym, ap, subst, arith}
use Rattle.std.specs.Float.{float_is_finite}
use Rattle.std.specs.Fmt.{signed_decimal}
use Rattle.json.specs.Json as json
use Rattle.json.specs.Token.{Token}
use Rattle.serde_json.specs.Data.{Num, float, Data, null, number}
use Rattle.serde_json.specs.Find.{of_float, of_integer}
use Rattle.serde_json.specs.Read.{number_of}
use Rattle.serde_json.specs.Written.{WritesValue, number_text, unless_float}
use Rattle.serde_json.proofs.Numbers.{number_of-decimal, number_of-negative}
use Rattle.serde_json.proofs.Texts.{unless_float-number_of}

-- the text of a number is one value
pub number_written : (n : Num) (s : List ℕ) (old new : List Token) → new ≡ old ++ Token.number s ∷ []
    → number_of s ≡ Some n → unless_float s ≡ number_text n → WritesValue (number n) old new
number_written n s old new e read shown =
    (json.number s, e, ap (option_map number) read, omega arith, ap json.number shown)

signed_read : (z : ℤ) → SFits w64 z → number_of (signed_decimal z) ≡ Some (of_integer z)
signed_read (pos n) fits = number_of-decimal n (grind arith)
signed_read (negsuc n) fits = number_of-negative n (grind arith)

signed_shown : (z : ℤ) → SFits w64 z → unless_float (signed_decimal z) ≡ number_text (of_integer z)
signed_shown (pos n) fits = unless_float-number_of _ _ (signed_read (pos n) fits)
signed_shown (negsuc n) fits = unless_float-number_of _ _ (signed_read (negsuc n) fits)

pub integer_written : (z : ℤ) (old new : List Token) → SFits w64 z
    → new ≡ old ++ Token.number (signed_decimal z) ∷ [] → WritesValue (number (of_integer z)) old new
integer_written z old new fits e =
    number_written (of_integer z) (signed_decimal z) old new e (signed_read z fits) (signed_shown z fits)

abbrev pub float_data : Float → Data
float_data x = unwrap_or (option_map number (of_float x)) null

pub finite_data : (x : Float) → float_is_finite x ≡ true → float_data x ≡ number (float x)
finite_data x e = rw e refl

pub float_written : (x : Float) (s : List ℕ) (old new : List Token) → float_is_finite x ≡ true
    → new ≡ old ++ Token.number s ∷ [] → number_of s ≡ Some (float x) → WritesValue (float_data x) old new
float_written x s old new finite e read =
    subst (λ d. WritesValue d old new) (sym (finite_data x finite))
    (number_written (float x) s old new e read (unless_float-number_of s (float x) read))
