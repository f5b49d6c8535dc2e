-- The front of a text, line by line.
use Rattle.std.proofs.Common.{◌≡◌, ℕ, ◌+◌, ◌-◌, ◌<◌, ◌&&◌, nat_lt, eqb, append-nil, drop_of_length-le, le_refl, take}
use Rattle.std.proofs.Common.{drop, take_all, length-take-le, get_or, get_or-take, eq-eqb, eqb-true, Bool, true, false}
use Rattle.std.proofs.Common.{cond, List, [], ◌∷◌, ◌++◌, length, Option, Some, None, Result, Ok, refl, sym, ap, ◌∙◌}
use Rattle.std.proofs.Common.{arith}
use Rattle.std.proofs.lemmas.Bool.{lt-ltb}
use Rattle.std.specs.Io.{StartsWith}
use Rattle.std.specs.Io.BufRead.{take_through, drop_through, ends_with_byte}
use Rattle.lsp_message.specs.Front.{at_header_end, front_end, front_of}
use Rattle.lsp_message.specs.HeaderPart.{header_line, is_field, fields, after_fields, length_in, or_else}
use Rattle.lsp_message.specs.HeaderPart.{content_length, at_last_line, lines}
use Rattle.lsp_message.specs.declared.frame.ReadFault.{ReadFault}
use Rattle.lsp_message.specs.declared.frame.Front.{Front}
use Rattle.lsp_message.specs.declared.frame.Front.TheVariants.{More}
use Rattle.lsp_message.specs.declared.frame.header.HeaderLine.{HeaderLine}
use Rattle.memchr.specs.Find.{IsFirstByte, is_byte}
use Rattle.lsp_message.proofs.Shown.{through_feed, past_shown}
use Rattle.lsp_message.proofs.HeaderSteps.{lines-split, concat-lines, or_else-assoc, or_else-none}

-- the front after fields with this length
abbrev pub front_after : ℕ → Option ℕ → List ℕ → Front
front_after all given text = front_end all (or_else (content_length (fields (lines text))) given)
    (after_fields (lines text))

pub front_after-none : (text : List ℕ) → front_of text ≡ front_after (length text) None text
front_after-none text = ap (λ n. front_end (length text) n (after_fields (lines text))) (sym (or_else-none _))

pub front_after-field : (all : ℕ) (given : Option ℕ) (b : ℕ) (bs : List ℕ) (line : Result HeaderLine ReadFault)
    → header_line (take_through 10 (b ∷ bs)) ≡ line → is_field line ≡ true
    → front_after all given (b ∷ bs) ≡ front_after all (or_else (length_in line) given) (drop_through 10 (b ∷ bs))
front_after-field all given b bs line is goes =
    let first = take_through 10 (b ∷ bs) in
    let more = lines (drop_through 10 (b ∷ bs)) in
    let holds : is_field (header_line first) ≡ true = ap is_field is ∙ goes in
    ap (λ ls. front_end all (or_else (content_length (fields ls)) given) (after_fields ls)) (lines-split b bs)
    ∙ (rw (holds) (ap (λ n. front_end all n (after_fields more)) (or_else-assoc (content_length (fields more))
    (length_in (header_line first)) given
    ∙ ap (λ l. or_else (content_length (fields more)) (or_else (length_in l) given)) is)))

pub front_after-line : (all : ℕ) (given : Option ℕ) (b : ℕ) (bs : List ℕ) (line : Result HeaderLine ReadFault)
    → header_line (take_through 10 (b ∷ bs)) ≡ line → is_field line ≡ false
    → ends_with_byte 10 (take_through 10 (b ∷ bs)) ≡ true
    → front_after all given (b ∷ bs) ≡ at_header_end all (at_last_line given line) (length (drop_through 10 (b ∷ bs)))
front_after-line all given b bs line is stops ends =
    let first = take_through 10 (b ∷ bs) in
    let rest = drop_through 10 (b ∷ bs) in
    let holds : is_field (header_line first) ≡ false = ap is_field is ∙ stops in
    ap (λ ls. front_end all (or_else (content_length (fields ls)) given) (after_fields ls)) (lines-split b bs)
    ∙ (rw (holds, ends, is, concat-lines rest) refl)

module _ (all : ℕ) (given : Option ℕ) (xs : List ℕ) where
  whole : StartsWith xs xs
  whole = take_all _ _ (le_refl _)

  feed_last : (k : ℕ) → IsFirstByte (is_byte 10) xs (Some k) → ends_with_byte 10 (take (k + 1) xs) ≡ true
  feed_last k first =
      let below = first.0.high in
      let long : length (take (k + 1) xs) ≡ k + 1 = length-take-le (k + 1) xs (omega arith) in
      let some = lt-ltb 0 (length (take (k + 1) xs)) (omega arith) in
      let last : get_or (take (k + 1) xs) (length (take (k + 1) xs) - 1) 0 ≡ 10 =
      ap (λ n. get_or (take (k + 1) xs) n 0) (omega arith) ∙ get_or-take (k + 1) xs k 0 (omega arith)
      ∙ eqb-true _ _ first.1 in
      rw (some, eq-eqb _ _ last) refl

  pub at_field : (k : ℕ) (line : HeaderLine) → IsFirstByte (is_byte 10) xs (Some k) → header_line (take (k + 1) xs)
      ≡ Ok line → is_field (Ok line) ≡ true
      → front_after all given xs ≡ front_after all (or_else (length_in (Ok line)) given) (drop (k + 1) xs)
  at_field k line first is goes = at xs refl
    where
      at : (l : List ℕ) → xs ≡ l → front_after all given xs ≡ front_after all (or_else (length_in (Ok line)) given)
          (drop (k + 1) xs)
      at [] empty = absurd (let below = first.0.high in omega (arith, ap length empty))
      at (b ∷ bs) same =
          let split = through_feed xs xs whole k first in
          ap (front_after all given) same
          ∙ front_after-field all given b bs (Ok line) (ap (λ l. header_line (take_through 10 l)) (sym same)
          ∙ ap header_line split.0 ∙ is) goes
          ∙ ap (front_after all (or_else (length_in (Ok line)) given)) (ap (drop_through 10) (sym same) ∙ split.1)

  pub at_last : (k : ℕ) (line : Result HeaderLine ReadFault) → IsFirstByte (is_byte 10) xs (Some k)
      → header_line (take (k + 1) xs) ≡ line → is_field line ≡ false
      → front_after all given xs ≡ at_header_end all (at_last_line given line) (length (drop (k + 1) xs))
  at_last k line first is stops = at xs refl
    where
      at : (l : List ℕ) → xs ≡ l → front_after all given xs ≡ at_header_end all (at_last_line given line)
          (length (drop (k + 1) xs))
      at [] empty = absurd (let below = first.0.high in omega (arith, ap length empty))
      at (b ∷ bs) same =
          let split = through_feed xs xs whole k first in
          ap (front_after all given) same
          ∙ front_after-line all given b bs line (ap (λ l. header_line (take_through 10 l)) (sym same)
          ∙ ap header_line split.0 ∙ is) stops
          (ap (λ l. ends_with_byte 10 (take_through 10 l)) (sym same) ∙ ap (ends_with_byte 10) split.0
          ∙ feed_last k first)
          ∙ ap (λ l. at_header_end all (at_last_line given line) (length l)) (ap (drop_through 10) (sym same) ∙ split.1)

  no_last_feed : IsFirstByte (is_byte 10) xs None → (0 < length xs) → ends_with_byte 10 xs ≡ false
  no_last_feed nowhere some = at (nat_lt 0 (length xs)) (eqb (get_or xs (length xs - 1) 0) 10) refl
    where
      at : (a b : Bool) → eqb (get_or xs (length xs - 1) 0) 10 ≡ b → (a && b) ≡ false
      at a true is = absurd (nowhere (length xs - 1) (omega arith) (omega arith) is)
      at true false is = refl
      at false false is = refl

  pub at_no_feed : IsFirstByte (is_byte 10) xs None → front_after all given xs ≡ More
  at_no_feed nowhere = at xs refl
    where
      chosen : (first : List ℕ) (n : Option ℕ) (t : Bool) → ends_with_byte 10 first ≡ false
          → front_end all n (cond t [] (first ∷ [])) ≡ More
      chosen first n true ends = refl
      chosen first n false ends = rw ends refl

      at : (l : List ℕ) → xs ≡ l → front_after all given xs ≡ More
      at [] empty = ap (front_after all given) empty
      at (b ∷ bs) same =
          let past = past_shown xs xs whole nowhere in
          let none : drop (length xs) xs ≡ [] = drop_of_length-le xs (le_refl _) in
          let first : take_through 10 (b ∷ bs) ≡ b ∷ bs = ap (take_through 10) (sym same) ∙ past.0
          ∙ ap (λ l. xs ++ take_through 10 l) none ∙ append-nil xs ∙ same in
          let rest : drop_through 10 (b ∷ bs) ≡ [] = ap (drop_through 10) (sym same) ∙ past.1 ∙ ap (drop_through 10)
          none in
          let split : lines (b ∷ bs) ≡ (b ∷ bs) ∷ [] = lines-split b bs ∙ ap (λ l. l ∷ lines (drop_through 10 (b ∷ bs)))
          first ∙ ap (λ l. (b ∷ bs) ∷ lines l) rest in
          let ends : ends_with_byte 10 (b ∷ bs) ≡ false = ap (ends_with_byte 10) (sym same) ∙ no_last_feed nowhere
          (omega (arith, ap length same)) in
          ap (front_after all given) same ∙ ap (λ ls. front_end all (or_else (content_length (fields ls)) given)
          (after_fields ls)) split
          ∙ chosen (b ∷ bs) (or_else (content_length (fields ((b ∷ bs) ∷ []))) given) (is_field (header_line (b ∷ bs)))
          ends
