-- How what a server offers is read.
use Rattle.std.proofs.Common.{◌≡◌, ℕ, true, false, true≢false, Float, List, Some, None, option_map}
use Rattle.std.proofs.Common.{is_some, refl, sym}
use Rattle.std.proofs.lemmas.Option.{none-some}
use Rattle.serde_json.specs.Data.{Data, null, boolean, number, string, array, object, no_members, put}
use Rattle.serde_json.specs.Find.{as_bool, as_number, as_object, to_float}
use Rattle.lsp_types.specs.Offers.{offer_of, options_of, whole_of}

-- an object offers
pub object_offers : (json : Data) → is_some (as_object json) ≡ true → offer_of json ≡ Some true
object_offers null is = absurd (true≢false (sym is))
object_offers (boolean b) is = absurd (true≢false (sym is))
object_offers (number n) is = absurd (true≢false (sym is))
object_offers (string s) is = absurd (true≢false (sym is))
object_offers (array ds) is = absurd (true≢false (sym is))
object_offers (object ms) is = refl

-- what is no object offers only as a boolean
pub other_offers : (json : Data) → is_some (as_object json) ≡ false → offer_of json ≡ as_bool json
other_offers null is = refl
other_offers (boolean b) is = refl
other_offers (number n) is = refl
other_offers (string s) is = refl
other_offers (array ds) is = refl
other_offers (object ms) is = absurd (true≢false is)

-- `true` stands for options that say nothing
pub true_options : (json : Data) → as_bool json ≡ Some true → options_of (Some json) ≡ Some (object no_members)
true_options null is = absurd (none-some _ is)
true_options (boolean true) is = refl
true_options (boolean false) is = absurd (true≢false (cc))
true_options (number n) is = absurd (none-some _ is)
true_options (string s) is = absurd (none-some _ is)
true_options (array ds) is = absurd (none-some _ is)
true_options (object ms) is = absurd (none-some _ is)

-- `false` stands for none
pub false_options : (json : Data) → as_bool json ≡ Some false → options_of (Some json) ≡ None
false_options null is = absurd (none-some _ is)
false_options (boolean true) is = absurd (true≢false (cc))
false_options (boolean false) is = refl
false_options (number n) is = absurd (none-some _ is)
false_options (string s) is = absurd (none-some _ is)
false_options (array ds) is = absurd (none-some _ is)
false_options (object ms) is = absurd (none-some _ is)

-- what is no boolean stands for itself
pub other_options : (json : Data) → as_bool json ≡ None → options_of (Some json) ≡ Some json
other_options null is = refl
other_options (boolean b) is = absurd (none-some _ (sym is))
other_options (number n) is = refl
other_options (string s) is = refl
other_options (array ds) is = refl
other_options (object ms) is = refl

-- a number stands for options with one member
pub number_whole : (inside : List ℕ) (json : Data) (x : Float) → option_map to_float (as_number json) ≡ Some x
    → whole_of inside (Some json) ≡ Some (object (put inside json no_members))
number_whole inside null x is = absurd (none-some _ is)
number_whole inside (boolean b) x is = absurd (none-some _ is)
number_whole inside (number n) x is = refl
number_whole inside (string s) x is = absurd (none-some _ is)
number_whole inside (array ds) x is = absurd (none-some _ is)
number_whole inside (object ms) x is = absurd (none-some _ is)

-- what is no number stands for itself
pub other_whole : (inside : List ℕ) (json : Data) → option_map to_float (as_number json) ≡ None
    → whole_of inside (Some json) ≡ Some json
other_whole inside null is = refl
other_whole inside (boolean b) is = refl
other_whole inside (number n) is = absurd (none-some _ (sym is))
other_whole inside (string s) is = refl
other_whole inside (array ds) is = refl
other_whole inside (object ms) is = refl
