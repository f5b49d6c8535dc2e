-- The header part of a message (LSP 3.17, "Base Protocol", "Header Part").
use Rattle.std.specs.Prelude.{ℕ, ◌-◌, ◌^◌, List, [], ◌∷◌, length, take, map, Bool, true, false, not, ◌&&◌, nat_eq}
use Rattle.std.specs.Prelude.{nat_lt, ◌==◌, if◌then◌else◌, Option, Some, None, option_map, Result, Ok, Err, codes}
use Rattle.std.specs.Char.{to_ascii_lowercase}
use Rattle.std.specs.List.{concat, ends_with}
use Rattle.std.specs.Option.{ok_or}
use Rattle.std.specs.Str.{is_utf8, all_ascii_digits, bytes_eq}
use Rattle.std.specs.Str.Parse.{without_leading_plus, digits_value}
use Rattle.lsp_message.specs.Reading.{Reading}
use Rattle.lsp_message.specs.declared.frame.ReadFault.{ReadFault}
use Rattle.lsp_message.specs.declared.frame.ReadFault.TheVariants.{LineNotText, LineEnd, NoSeparator, BadLength}
use Rattle.lsp_message.specs.declared.frame.ReadFault.TheVariants.{NoLength}
use Rattle.lsp_message.specs.declared.frame.header.HeaderLine.{HeaderLine}
use Rattle.lsp_message.specs.declared.frame.header.HeaderLine.TheVariants.{Blank, Length, Other}

-- ---- lines

-- the byte goes onto the first of the lines
abbrev pub onto_first : ℕ → List (List ℕ) → List (List ℕ)
onto_first byte [] = (byte ∷ []) ∷ []
onto_first byte (line ∷ more) = (byte ∷ line) ∷ more

-- the lines of a text, each up to and with its line feed, which the last one may lack
abbrev pub lines : List ℕ → List (List ℕ)
lines [] = []
lines (byte ∷ bytes) = if byte ==
    10 then (byte ∷ []) ∷ lines bytes else onto_first byte (lines bytes)

-- ---- one line

-- the value of a numeral: an optional '+', and one or more digits, of a number below 2^64
abbrev pub number : List ℕ → Option ℕ
number value =
    let digits = without_leading_plus value in
    if nat_lt 0 (length digits)
    && (all_ascii_digits digits && nat_lt (digits_value 10 digits) (2 ^ 64))
    then Some (digits_value 10 digits) else None

-- the name and the value of a field, parted by the first ": "
abbrev pub name_and_value : List ℕ → Option (List ℕ × List ℕ)
name_and_value [] = None
name_and_value (c ∷ []) = None
name_and_value (c ∷ d ∷ text) =
    if c == 58 && d ==
    32 then Some ([], text) else option_map (λ f. (c ∷ f.0, f.1)) (name_and_value (d ∷ text))

-- the two are one name, ASCII case aside
abbrev pub same_name : List ℕ → List ℕ → Bool
same_name a b = bytes_eq (map to_ascii_lowercase a) (map to_ascii_lowercase b)

-- the length, if the field has that name, or any other field
abbrev pub field : List ℕ → List ℕ → Result HeaderLine ReadFault
field name value = if same_name name (codes "Content-Length")
    then ok_or (option_map Length (number value)) BadLength else Ok Other

-- a field that has a name and a value
abbrev pub parted : Option (List ℕ × List ℕ) → Result HeaderLine ReadFault
parted None = Err NoSeparator
parted (Some f) = field f.0 f.1

-- what stands before a line's end: nothing, or a field
abbrev pub header_text : List ℕ → Result HeaderLine ReadFault
header_text [] = Ok Blank
header_text (c ∷ text) = parted (name_and_value (c ∷ text))

-- a line of the header part, with its end
abbrev pub header_line : List ℕ → Result HeaderLine ReadFault
header_line line =
    if not (is_utf8 line) then Err LineNotText
    else (if not (ends_with nat_eq line (13 ∷ 10 ∷ [])) then Err LineEnd
    else header_text (take (length line - 2) line))

-- ---- all lines

-- a good field, after which the header part goes on
abbrev pub is_field : Result HeaderLine ReadFault → Bool
is_field (Ok Blank) = false
is_field (Ok (Length n)) = true
is_field (Ok Other) = true
is_field (Err fault) = false

-- the fields that the lines begin with
abbrev pub fields : List (List ℕ) → List (List ℕ)
fields [] = []
fields (line ∷ more) = if is_field (header_line line) then line ∷ fields more else []

-- the lines from the first on that is no field
abbrev pub after_fields : List (List ℕ) → List (List ℕ)
after_fields [] = []
after_fields (line ∷ more) = if is_field (header_line line) then after_fields more else line ∷ more

-- the number of a line that is a `Content-Length`
abbrev pub length_in : Result HeaderLine ReadFault → Option ℕ
length_in (Ok Blank) = None
length_in (Ok (Length n)) = Some n
length_in (Ok Other) = None
length_in (Err fault) = None

-- the first of two answers, or else the second
abbrev pub or_else : Option ℕ → Option ℕ → Option ℕ
or_else None b = b
or_else (Some n) b = Some n

-- the last `Content-Length` of the fields
abbrev pub content_length : List (List ℕ) → Option ℕ
content_length [] = None
content_length (line ∷ more) = or_else (content_length more) (length_in (header_line line))

-- the line after the fields is a bad one or the blank one
abbrev pub at_last_line : Option ℕ → Result HeaderLine ReadFault → Result (Option ℕ) ReadFault
at_last_line length (Err fault) = Err fault
at_last_line None (Ok line) = Err NoLength
at_last_line (Some n) (Ok line) = Ok (Some n)

-- the header part, with the length that its fields give, and the lines from the first on that is no field
abbrev pub header_end : Option ℕ → List (List ℕ) → Reading ℕ
header_end length [] = record { outcome = Ok None; rest = [] }
header_end length (line ∷ more) =
    record { outcome = at_last_line length (header_line line); rest = concat more }

-- the header part that a text begins with: the body's length, or nothing where the text ends at a line's start
abbrev pub header_of : List ℕ → Reading ℕ
header_of text = header_end (content_length (fields (lines text))) (after_fields (lines text))
