-- Whether JSON fits a type of LSP's meta model.
use Rattle.std.specs.List.{list_all, list_any}
use Rattle.std.specs.Prelude.{◌==◌, ◌%◌, ℕ, zero, suc, ℤ, pos, negsuc, int_le, Bool, true, false, not, ◌&&◌, ◌||◌, List}
use Rattle.std.specs.Prelude.{Option, Some, None, option_and_then, option_map, is_some, unwrap_or, slice_get}
use Rattle.std.specs.Prelude.{if◌then◌else◌}
use Rattle.std.specs.Str.{bytes_eq}
use Rattle.serde_json.specs.Data.{Data, array, Items, no_items, item, Members, no_members, member}
use Rattle.serde_json.specs.Find.{get, as_null, as_bool, as_number, as_i64, is_float, as_str, as_array, as_object}
use Rattle.lsp_model.specs.declared.form.Form.{Form}
use Rattle.lsp_model.specs.declared.form.Form.TheVariants as form
use Rattle.lsp_model.specs.Spans.{any_overlap, count, is_fold_reversed, is_reversed, is_within, span_in}
use Rattle.lsp_model.specs.declared.form.Member.{Member}
use Rattle.lsp_model.specs.declared.form.Member.TheVariants.{Required, Optional}
use Rattle.lsp_model.specs.declared.mode.Mode.{Mode}
use Rattle.lsp_model.specs.declared.mode.Mode.TheVariants.{Loose, Strict, Edits, Tokens, Selection, Ranges}

-- ---- how JSON is looked at

abbrev pub is_strict : Mode → Bool
is_strict Loose = false
is_strict Strict = true
is_strict Edits = false
is_strict Tokens = false
is_strict Selection = false
is_strict Ranges = false

-- no two edits of a list overlap
abbrev pub has_no_overlap : Data → Bool
has_no_overlap (array ds) = not (any_overlap ds)
has_no_overlap d = true

-- a list has five numbers for each token
abbrev pub is_in_fives : Data → Bool
is_in_fives (array ds) = count ds % 5 == 0
is_in_fives d = true

-- what a type demands of texts, beside the types of its parts
abbrev pub keeps_edits : Form → Data → Bool
keeps_edits (form.Edits at) d = has_no_overlap d
keeps_edits form d = true

abbrev pub keeps_tokens : Form → Data → Bool
keeps_tokens (form.Tokens at) d = is_in_fives d
keeps_tokens form d = true

abbrev pub keeps_selection : Form → Data → Bool
keeps_selection (form.Around members whole part) d = is_within (span_in whole.now d) (span_in part.now d)
keeps_selection form d = true

abbrev pub keeps_ranges : Form → Data → Bool
keeps_ranges (form.Range members) d = not (is_reversed d)
keeps_ranges (form.Folding members) d = not (is_fold_reversed d)
keeps_ranges form d = true

abbrev pub keeps : Form → Mode → Data → Bool
keeps form Loose d = true
keeps form Strict d = true
keeps form Edits d = keeps_edits form d
keeps form Tokens d = keeps_tokens form d
keeps form Selection d = keeps_selection form d
keeps form Ranges d = keeps_ranges form d

-- ---- a type that has no others in it

-- a whole number between two others; if it is not strict, each number with a fraction or an exponent is taken for one
abbrev pub is_between : Bool → ℤ → ℤ → Data → Option ℤ → Bool
is_between strict least most d (Some z) = int_le least z && int_le z most
is_between strict least most d None = not strict && unwrap_or (option_map is_float (as_number d)) false

abbrev pub fits_whole : Bool → ℤ → ℤ → Data → Bool
fits_whole strict least most d = is_between strict least most d (option_and_then as_i64 (as_number d))

-- the least and the greatest whole number of 32 bits
abbrev pub least_integer : ℤ
least_integer = negsuc 2147483647

abbrev pub greatest_integer : ℤ
greatest_integer = pos 2147483647

abbrev pub is_text : List ℕ → Option (List ℕ) → Bool
is_text word None = false
is_text word (Some text) = bytes_eq text word

abbrev pub fits_word : List ℕ → Data → Bool
fits_word word d = is_text word (as_str d)

-- one of the listed strings, or, if it is not strict, a string
abbrev pub is_one_of : Bool → (List ℕ → Bool) → Option (List ℕ) → Bool
is_one_of strict is_listed None = false
is_one_of strict is_listed (Some text) = not strict || is_listed text

abbrev pub fits_words : Bool → (List ℕ → Bool) → Data → Bool
fits_words strict is_listed d = is_one_of strict is_listed (as_str d)

abbrev pub fits_listed : Bool → ℕ → ℕ → Data → Bool
fits_listed true least most d = fits_whole true (pos least) (pos most) d
fits_listed false least most d = fits_whole false least_integer greatest_integer d

abbrev pub fits_plain : Form → Bool → Data → Bool
fits_plain form.Nothing strict d = not strict || is_some (as_null d)
fits_plain form.Null strict d = is_some (as_null d)
fits_plain form.Boolean strict d = is_some (as_bool d)
fits_plain form.String strict d = is_some (as_str d)
fits_plain form.Integer strict d = fits_whole strict least_integer greatest_integer d
fits_plain form.Unsigned strict d = fits_whole strict (pos 0) greatest_integer d
fits_plain form.Decimal strict d = is_some (as_number d)
fits_plain (form.Listed least most) strict d = fits_listed strict least most d
fits_plain (form.Word word) strict d = fits_word word.now d
fits_plain (form.Words words) strict d =
    fits_words strict (λ text. list_any (λ word. bytes_eq word.now text) words.now) d
fits_plain form strict d = true

-- ---- a member of an object

abbrev pub key_of : Member → List ℕ
key_of (Required key at) = key.now
key_of (Optional key at) = key.now

abbrev pub form_of : Member → ℕ
form_of (Required key at) = at
form_of (Optional key at) = at

abbrev pub is_needed : Member → Bool
is_needed (Required key at) = true
is_needed (Optional key at) = false

-- a value, unless it is null and null counts as missing
abbrev pub unless_null : Bool → Option Data → Option Data
unless_null counts None = None
unless_null counts (Some d) = if counts && is_some (as_null d) then None else Some d

-- the value of a member; if it is not strict, null counts as missing where the member may be missing
abbrev pub member_in : Bool → Member → Data → Option Data
member_in strict m d = unless_null (not strict && not (is_needed m)) (get (key_of m) d)

-- ---- a type with others in it

abbrev pub each_item : (Data → Bool) → Items → Bool
each_item such no_items = true
each_item such (item d ds) = such d && each_item such ds

abbrev pub each_member : (Data → Bool) → Members → Bool
each_member such no_members = true
each_member such (member key d ms) = such d && each_member such ms

abbrev pub all_if : {A : Type 0} → (A → Bool) → Option A → Bool
all_if such None = false
all_if such (Some found) = such found

-- a value has its type, and one may only be missing where it has not to be there
abbrev pub fits_member : (ℕ → Data → Bool) → Member → Option Data → Bool
fits_member inner m None = not (is_needed m)
fits_member inner m (Some d) = inner (form_of m) d

abbrev pub fits_list : (ℕ → Data → Bool) → ℕ → Data → Bool
fits_list inner at d = all_if (each_item (inner at)) (as_array d)

abbrev pub fits_object : (ℕ → Data → Bool) → Bool → List Member → Data → Bool
fits_object inner strict members d =
    is_some (as_object d) && list_all (λ m. fits_member inner m (member_in strict m d)) members

-- the parts of a value fit the types of its parts
abbrev pub fits_parts : (ℕ → Data → Bool) → Bool → Form → Data → Bool
fits_parts inner strict (form.List at) d = fits_list inner at d
fits_parts inner strict (form.Edits at) d = fits_list inner at d
fits_parts inner strict (form.Tokens at) d = fits_list inner at d
fits_parts inner strict (form.Map at) d = all_if (each_member (inner at)) (as_object d)
fits_parts inner strict (form.OneOf cases) d = list_any (λ at. inner at d) cases.now
fits_parts inner strict (form.Object members) d = fits_object inner strict members.now d
fits_parts inner strict (form.Around members whole part) d = fits_object inner strict members.now d
fits_parts inner strict (form.Range members) d = fits_object inner strict members.now d
fits_parts inner strict (form.Folding members) d = fits_object inner strict members.now d
fits_parts inner strict form d = fits_plain form strict d

abbrev pub fits_form : (ℕ → Data → Bool) → Mode → Form → Data → Bool
fits_form inner mode form d = fits_parts inner (is_strict mode) form d && keeps form mode d

abbrev pub fits_some : (ℕ → Data → Bool) → Mode → Option Form → Data → Bool
fits_some inner mode None d = true
fits_some inner mode (Some form) d = fits_form inner mode form d

-- JSON fits the type at a place of the list. What nests deeper than this many levels is taken to fit.
unfoldable pub fits : List Form → Mode → ℕ → ℕ → Data → Bool
fits types mode zero at d = true
fits types mode (suc levels) at d = fits_some (fits types mode levels) mode (slice_get types at) d
