-- What a test of a header line can give: a length of 64 bits, or a fault of the line itself.
use Rattle.std.proofs.Common.{◌≡◌, ◌≢◌, ℕ, ◌-◌, ◌^◌, ◌<◌, ◌≤◌, nat_lt, Bool, true, false, not, ◌&&◌, cond, nat_eq, List}
use Rattle.std.proofs.Common.{[], ◌∷◌, length, take, codes, option_map, Option, Some, None, Result, Ok, Err, refl}
use Rattle.std.proofs.Common.{subst, arith}
use Rattle.std.proofs.lemmas.Bool.{ltb-true}
use Rattle.std.specs.List.{ends_with}
use Rattle.std.specs.Option.{ok_or}
use Rattle.std.specs.Str.{is_utf8, all_ascii_digits}
use Rattle.std.specs.Str.Parse.{without_leading_plus, digits_value}
use Rattle.lsp_message.specs.Limits.{most_content}
use Rattle.lsp_message.specs.HeaderPart.{number, name_and_value, same_name, field, parted, header_text, header_line}
use Rattle.lsp_message.specs.HeaderPart.{fields, after_fields, length_in, or_else, content_length, at_last_line}
use Rattle.lsp_message.specs.HeaderPart.{header_end, header_of, lines}
use Rattle.lsp_message.specs.declared.frame.ReadFault.{ReadFault}
use Rattle.lsp_message.specs.declared.frame.ReadFault.TheVariants.{LineNotText, LineEnd, NoSeparator, BadLength}
use Rattle.lsp_message.specs.declared.frame.ReadFault.TheVariants.{Memory, TooLong}
use Rattle.lsp_message.specs.declared.frame.header.HeaderLine.{HeaderLine}
use Rattle.lsp_message.specs.declared.frame.header.HeaderLine.TheVariants.{Blank, Length, Other}

-- a fault of a line
abbrev pub IsOfLine : ReadFault → Type 0
IsOfLine LineNotText = Unit {0}
IsOfLine LineEnd = Unit {0}
IsOfLine NoSeparator = Unit {0}
IsOfLine BadLength = Unit {0}
IsOfLine fault = ⊥

abbrev pub IsKnownLine : Result HeaderLine ReadFault → Type 0
IsKnownLine (Ok Blank) = Unit {0}
IsKnownLine (Ok (Length n)) = n ≤ most_content
IsKnownLine (Ok Other) = Unit {0}
IsKnownLine (Err fault) = IsOfLine fault

abbrev pub IsKnownLength : Option ℕ → Type 0
IsKnownLength None = Unit {0}
IsKnownLength (Some n) = n ≤ most_content

number_known : (value : List ℕ) → IsKnownLength (number value)
number_known value =
    let digits = without_leading_plus value in
    at (nat_lt 0 (length digits)) (all_ascii_digits digits) (nat_lt (digits_value 10 digits) (2 ^ 64)) (digits_value 10
    digits) (λ below. ltb-true _ _ below)
  where
    at : (a b c : Bool) (n : ℕ) → (c ≡ true → n < 2 ^ 64) → IsKnownLength (cond (a && (b && c)) (Some n) None)
    at true true true n small = let below = small refl in omega arith
    at true true false n small = tt
    at true false c n small = tt
    at false b c n small = tt

field_known : (name value : List ℕ) → IsKnownLine (field name value)
field_known name value = at (same_name name (codes "Content-Length")) (number value) (number_known value)
  where
    at : (t : Bool) (n : Option ℕ) → IsKnownLength n → IsKnownLine (cond t (ok_or (option_map Length n) BadLength)
        (Ok Other))
    at true None known = tt
    at true (Some n) known = known
    at false n known = tt

text_known : (text : List ℕ) → IsKnownLine (header_text text)
text_known [] = tt
text_known (c ∷ text) = at (name_and_value (c ∷ text))
  where
    at : (f : Option (List ℕ × List ℕ)) → IsKnownLine (parted f)
    at None = tt
    at (Some f) = field_known f.0 f.1

pub line_known : (line : List ℕ) → IsKnownLine (header_line line)
line_known line = at (not (is_utf8 line)) (not (ends_with nat_eq line (13 ∷ 10 ∷ [])))
  where
    at : (s t : Bool) → IsKnownLine (cond s (Err LineNotText) (cond t (Err LineEnd) (header_text (take (length line - 2)
        line))))
    at true t = tt
    at false true = tt
    at false false = text_known (take (length line - 2) line)

-- the test of a line takes no memory
pub line_tested : (line : List ℕ) → header_line line ≢ Err Memory
line_tested line is = subst IsKnownLine is (line_known line)

lengths_known : (ls : List (List ℕ)) → IsKnownLength (content_length ls)
lengths_known [] = tt
lengths_known (line ∷ more) = at (content_length more) (header_line line) (lengths_known more) (line_known line)
  where
    at : (n : Option ℕ) (r : Result HeaderLine ReadFault) → IsKnownLength n → IsKnownLine r
        → IsKnownLength (or_else n (length_in r))
    at (Some n) r later known = later
    at None (Ok Blank) later known = tt
    at None (Ok (Length n)) later known = known
    at None (Ok Other) later known = tt
    at None (Err fault) later known = tt

abbrev pub IsKnownHeader : Result (Option ℕ) ReadFault → Type 0
IsKnownHeader (Ok length) = IsKnownLength length
IsKnownHeader (Err fault) = fault ≢ TooLong

-- a header part gives a length of 64 bits, and compares it with no limit
pub header_known : (text : List ℕ) → IsKnownHeader (header_of text).outcome
header_known text = at (content_length (fields (lines text))) (after_fields (lines text)) (lengths_known
    (fields (lines text)))
  where
    last : (n : Option ℕ) (r : Result HeaderLine ReadFault) → IsKnownLength n → IsKnownLine r
        → IsKnownHeader (at_last_line n r)
    last n (Err fault) given known = λ long. subst IsOfLine long known
    last None (Ok line) given known = λ long. cc
    last (Some n) (Ok line) given known = given

    at : (n : Option ℕ) (ls : List (List ℕ)) → IsKnownLength n → IsKnownHeader (header_end n ls).outcome
    at n [] given = tt
    at n (line ∷ more) given = last n (header_line line) given (line_known line)
