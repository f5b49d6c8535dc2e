-- A whole front lies within its text, and a faulty one has the number of a fault of the header part.
use Rattle.std.proofs.Common.{◌≡◌, ℕ, ◌-◌, ◌≤◌, List, [], ◌∷◌, length, Bool, true, false, Ok, Err, Option, Some, None}
use Rattle.std.proofs.Common.{Result, arith}
use Rattle.std.specs.Io.BufRead.{ends_with_byte}
use Rattle.std.specs.List.{concat, ends_with}
use Rattle.std.specs.Option.{ok_or}
use Rattle.std.specs.Prelude.{codes, nat_eq, nat_lt, not, option_map, take, if◌then◌else◌}
use Rattle.std.specs.Str.{is_utf8}
use Rattle.lsp_message.specs.Faults.{read_fault_number}
use Rattle.lsp_message.specs.Front.{front_of, front_end, at_header_end}
use Rattle.lsp_message.specs.HeaderPart.{at_last_line, header_line, header_text, parted, field, same_name, number}
use Rattle.lsp_message.specs.HeaderPart.{name_and_value, fields, after_fields, content_length, lines}
use Rattle.lsp_message.specs.declared.frame.ReadFault.{ReadFault}
use Rattle.lsp_message.specs.declared.frame.ReadFault.TheVariants.{LineNotText, LineEnd, BadLength}
use Rattle.lsp_message.specs.declared.frame.Front.TheVariants.{Whole, Fault, More}
use Rattle.lsp_message.specs.declared.frame.header.HeaderLine.{HeaderLine}
use Rattle.lsp_message.specs.declared.frame.header.HeaderLine.TheVariants.{Length, Other}

-- a whole front lies within the bytes
within_end : (all left k : ℕ) (r : Result (Option ℕ) ReadFault) → at_header_end all r left ≡ Whole k → k ≤ all
within_end all left k (Err fault) is = cc
within_end all left k (Ok None) is = cc
within_end all left k (Ok (Some n)) is = at (nat_lt left n) is
  where
    at : (b : Bool) → (if b then More else Whole (all - (left - n))) ≡ Whole k → k ≤ all
    at true e = cc
    at false e = let f : all - (left - n) ≡ k = cc in omega arith

within_lines : (all k : ℕ) (given : Option ℕ) (ls : List (List ℕ)) → front_end all given ls ≡ Whole k → k ≤ all
within_lines all k given [] is = cc
within_lines all k given (line ∷ more) is = at (ends_with_byte 10 line) is
  where
    at : (b : Bool) → (if b then at_header_end all (at_last_line given (header_line line)) (length (concat more)) else
        More) ≡ Whole k → k ≤ all
    at true e = within_end all (length (concat more)) k (at_last_line given (header_line line)) e
    at false e = cc

pub front_within : (text : List ℕ) (k : ℕ) → front_of text ≡ Whole k → k ≤ length text
front_within text k is = within_lines (length text) k (content_length (fields (lines text))) (after_fields (lines text))
    is

-- ---- the number of a fault

-- the fault, if there is one, is of the header part
abbrev FaultsInHeader : {X : Type 0} → Result X ReadFault → Type 0
FaultsInHeader (Ok x) = Unit {0}
FaultsInHeader (Err fault) = (2 ≤ read_fault_number fault) × (read_fault_number fault ≤ 6)

in_field : (name value : List ℕ) → FaultsInHeader (field name value)
in_field name value = at (same_name name (codes "Content-Length")) (number value)
  where
    at : (b : Bool) (n : Option ℕ) → FaultsInHeader (if b then ok_or (option_map Length n) BadLength else Ok Other)
    at true None = (omega arith, omega arith)
    at true (Some n) = tt
    at false n = tt

in_parted : (f : Option (List ℕ × List ℕ)) → FaultsInHeader (parted f)
in_parted None = (omega arith, omega arith)
in_parted (Some f) = in_field f.0 f.1

in_text : (text : List ℕ) → FaultsInHeader (header_text text)
in_text [] = tt
in_text (c ∷ text) = in_parted (name_and_value (c ∷ text))

in_line : (line : List ℕ) → FaultsInHeader (header_line line)
in_line line = at (is_utf8 line) (ends_with nat_eq line (13 ∷ 10 ∷ []))
  where
    at : (is_text is_ended : Bool) → FaultsInHeader (if not is_text then Err LineNotText else (if not is_ended then Err
        LineEnd else header_text (take (length line - 2) line)))
    at false is_ended = (omega arith, omega arith)
    at true false = (omega arith, omega arith)
    at true true = in_text (take (length line - 2) line)

in_last : (given : Option ℕ) (line : Result HeaderLine ReadFault) → FaultsInHeader line
    → FaultsInHeader (at_last_line given line)
in_last given (Err fault) bad = bad
in_last None (Ok line) bad = (omega arith, omega arith)
in_last (Some n) (Ok line) bad = tt

number_end : (all left n : ℕ) (r : Result (Option ℕ) ReadFault) → FaultsInHeader r → at_header_end all r left ≡ Fault n
    → (2 ≤ n) × (n ≤ 6)
number_end all left n (Err fault) bad is = let same : read_fault_number fault ≡ n = cc in (
  omega (arith, bad.0, same),
  omega (arith, bad.1, same),
)
number_end all left n (Ok None) bad is = absurd (let e : More ≡ Fault n = is in cc)
number_end all left n (Ok (Some m)) bad is = at (nat_lt left m) is
  where
    at : (b : Bool) → (if b then More else Whole (all - (left - m))) ≡ Fault n → (2 ≤ n) × (n ≤ 6)
    at true e = absurd (let f : More ≡ Fault n = e in cc)
    at false e = absurd (let f : Whole (all - (left - m)) ≡ Fault n = e in cc)

number_lines : (all n : ℕ) (given : Option ℕ) (ls : List (List ℕ)) → front_end all given ls ≡ Fault n → (2 ≤ n)
    × (n ≤ 6)
number_lines all n given [] is = absurd (let e : More ≡ Fault n = is in cc)
number_lines all n given (line ∷ more) is = at (ends_with_byte 10 line) is
  where
    at : (b : Bool) → (if b then at_header_end all (at_last_line given (header_line line)) (length (concat more)) else
        More) ≡ Fault n → (2 ≤ n) × (n ≤ 6)
    at true e = number_end all (length (concat more)) n (at_last_line given (header_line line)) (in_last given
        (header_line line) (in_line line)) e
    at false e = absurd (let f : More ≡ Fault n = e in cc)

pub front_number : (text : List ℕ) (n : ℕ) → front_of text ≡ Fault n → (2 ≤ n) × (n ≤ 6)
front_number text n is = number_lines (length text) n (content_length (fields (lines text))) (after_fields (lines text))
    is
