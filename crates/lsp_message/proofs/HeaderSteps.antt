-- The header part, line by line.
use Rattle.std.proofs.Common.{◌≡◌, ℕ, Bool, true, false, cond, eqb, List, [], ◌∷◌, length, Option, Some, None}
use Rattle.std.proofs.Common.{Result, Ok, refl, sym, ap, subst, ◌∙◌}
use Rattle.std.specs.Io.BufRead.{take_through, drop_through}
use Rattle.std.specs.List.{concat}
use Rattle.lsp_message.specs.HeaderPart.{header_line, is_field, fields, after_fields, length_in, or_else}
use Rattle.lsp_message.specs.HeaderPart.{content_length, at_last_line, header_end, header_of, lines, onto_first}
use Rattle.lsp_message.specs.Reading.{Reading, found}
use Rattle.lsp_message.specs.declared.frame.ReadFault.{ReadFault}
use Rattle.lsp_message.specs.declared.frame.header.HeaderLine.{HeaderLine}
use Rattle.lsp_message.proofs.Suffixes.{EndsIn, EndsIn-refl, EndsIn-append}

-- the first line is what stands up to the first line feed
pub lines-split : (b : ℕ) (bs : List ℕ) → lines (b ∷ bs) ≡ take_through 10 (b ∷ bs) ∷ lines (drop_through 10 (b ∷ bs))
lines-split b [] = at (eqb b 10)
  where
    at : (t : Bool) → cond t ((b ∷ []) ∷ []) ((b ∷ []) ∷ []) ≡ cond t (b ∷ []) (b ∷ []) ∷ lines (cond t [] [])
    at true = refl
    at false = refl
lines-split b (c ∷ cs) = at (eqb b 10) (lines-split c cs)
  where
    at : (t : Bool) → lines (c ∷ cs) ≡ take_through 10 (c ∷ cs) ∷ lines (drop_through 10 (c ∷ cs))
        → cond t ((b ∷ []) ∷ lines (c ∷ cs)) (onto_first b (lines (c ∷ cs))) ≡ cond t (b ∷ []) (b ∷ take_through 10 (c
        ∷ cs)) ∷ lines (cond t (c ∷ cs) (drop_through 10 (c ∷ cs)))
    at true later = refl
    at false later = ap (onto_first b) later

onto_first-concat : (b : ℕ) (ls : List (List ℕ)) → concat (onto_first b ls) ≡ b ∷ concat ls
onto_first-concat b [] = refl
onto_first-concat b (l ∷ ls) = refl

-- no byte is lost
pub concat-lines : (text : List ℕ) → concat (lines text) ≡ text
concat-lines [] = refl
concat-lines (b ∷ bs) = at (eqb b 10) (concat-lines bs)
  where
    at : (t : Bool) → concat (lines bs) ≡ bs → concat (cond t ((b ∷ []) ∷ lines bs) (onto_first b (lines bs))) ≡ b ∷ bs
    at true h = ap (λ l. b ∷ l) h
    at false h = onto_first-concat b (lines bs) ∙ ap (λ l. b ∷ l) h

-- what the header part comes to after fields with this length
abbrev pub header_after : Option ℕ → List ℕ → Reading ℕ
header_after length text = header_end (or_else (content_length (fields (lines text))) length)
    (after_fields (lines text))

pub or_else-none : (a : Option ℕ) → or_else a None ≡ a
or_else-none None = refl
or_else-none (Some n) = refl

pub or_else-assoc : (a b c : Option ℕ) → or_else (or_else a b) c ≡ or_else a (or_else b c)
or_else-assoc None b c = refl
or_else-assoc (Some n) b c = refl

pub header_after-none : (text : List ℕ) → header_of text ≡ header_after None text
header_after-none text = ap (λ n. header_end n (after_fields (lines text))) (sym (or_else-none _))

pub after_field : (length : Option ℕ) (b : ℕ) (bs : List ℕ) (line : Result HeaderLine ReadFault)
    → header_line (take_through 10 (b ∷ bs)) ≡ line → is_field line ≡ true
    → header_after length (b ∷ bs) ≡ header_after (or_else (length_in line) length) (drop_through 10 (b ∷ bs))
after_field length b bs line is goes =
    let first = take_through 10 (b ∷ bs) in
    let more = lines (drop_through 10 (b ∷ bs)) in
    let holds : is_field (header_line first) ≡ true = ap is_field is ∙ goes in
    ap (λ ls. header_end (or_else (content_length (fields ls)) length) (after_fields ls)) (lines-split b bs)
    ∙ (rw (holds) (ap (λ n. header_end n (after_fields more)) (or_else-assoc (content_length (fields more))
    (length_in (header_line first)) length
    ∙ ap (λ l. or_else (content_length (fields more)) (or_else (length_in l) length)) is)))

pub at_line : (length : Option ℕ) (b : ℕ) (bs : List ℕ) (line : Result HeaderLine ReadFault)
    → header_line (take_through 10 (b ∷ bs)) ≡ line → is_field line ≡ false
    → header_after length (b ∷ bs) ≡ record { outcome = at_last_line length line; rest = drop_through 10 (b ∷ bs) }
at_line length b bs line is stops =
    let first = take_through 10 (b ∷ bs) in
    let rest = drop_through 10 (b ∷ bs) in
    let holds : is_field (header_line first) ≡ false = ap is_field is ∙ stops in
    ap (λ ls. header_end (or_else (content_length (fields ls)) length) (after_fields ls)) (lines-split b bs)
    ∙ (rw (holds, is, concat-lines rest) refl)

-- lines, and what is left of the header part that they begin
header_end-rest : (n : Option ℕ) (ls : List (List ℕ)) → EndsIn (concat ls) (header_end n (after_fields ls)).rest
header_end-rest n [] = EndsIn-refl []
header_end-rest n (line ∷ more) = EndsIn-append line (concat more) _ (at (is_field (header_line line)) (header_end-rest
    n more))
  where
    at : (t : Bool) → EndsIn (concat more) (header_end n (after_fields more)).rest
        → EndsIn (concat more) (header_end n (cond t (after_fields more) (line ∷ more))).rest
    at true later = later
    at false later = EndsIn-refl (concat more)

pub header_after-rest : (length : Option ℕ) (text : List ℕ) → EndsIn text (header_after length text).rest
header_after-rest length text =
    subst (λ l. EndsIn l (header_after length text).rest) (concat-lines text) (header_end-rest
    (or_else (content_length (fields (lines text))) length) (lines text))

-- the line that a text begins with, or nothing if the text is empty
abbrev pub first_line : List ℕ → Reading HeaderLine
first_line [] = record { outcome = Ok None; rest = [] }
first_line (byte ∷ bytes) =
    record {
      outcome = found (header_line (take_through 10 (byte ∷ bytes)));
      rest =
          drop_through 10 (byte ∷ bytes);
    }

-- what the header part leaves follows its first line
pub header_after-line : (length : Option ℕ) (text : List ℕ) → EndsIn (first_line text).rest (header_after length
    text).rest
header_after-line length [] = EndsIn-refl []
header_after-line length (b ∷ bs) = at (is_field (header_line (take_through 10 (b ∷ bs)))) refl
  where
    at : (t : Bool) → is_field (header_line (take_through 10 (b ∷ bs))) ≡ t → EndsIn (drop_through 10 (b ∷ bs))
        (header_after length (b ∷ bs)).rest
    at true is = rw (after_field length b bs _ refl is) (header_after-rest _ (drop_through 10 (b ∷ bs)))
    at false is = rw (at_line length b bs _ refl is) (EndsIn-refl _)
