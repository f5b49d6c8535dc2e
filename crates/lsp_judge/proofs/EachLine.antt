-- The judgement of a recording, line by line.
use Rattle.std.proofs.Common.{◌≡◌, ◌≢◌, ◌⊎◌, inl, inr, ℕ, ◌+◌, ◌≤◌, eqb, eq-eqb, eqb-true, Bool, true, false}
use Rattle.std.proofs.Common.{true≢false, cond, List, [], ◌∷◌, length}
use Rattle.std.proofs.Common.{refl, sym, ap, subst, ◌∙◌, arith}
use Rattle.std.specs.Io.BufRead.{take_through, drop_through}
use Rattle.std.specs.Prelude.{Some, None, unwrap_or, Option}
use Rattle.lsp_message.specs.HeaderPart.{lines, onto_first}
use Rattle.lsp_judge.specs.Judged.{Judged, Judges, nothing}
use Rattle.lsp_judge.specs.Recording.{is_read, line_tree, first_unread, with_line, after_lines, judged_of}
use Rattle.lsp_judge.specs.declared.choice.Choice.{Choice}
use Rattle.lsp_judge.specs.declared.judgement.Judgement.{Judgement}

-- ---- the first line of a text

pub lines-split : (b : ℕ) (bs : List ℕ) → lines (b ∷ bs) ≡ take_through 10 (b ∷ bs) ∷ lines (drop_through 10 (b ∷ bs))
lines-split b [] = at (eqb b 10)
  where
    at : (t : Bool) → cond t ((b ∷ []) ∷ []) ((b ∷ []) ∷ []) ≡ cond t (b ∷ []) (b ∷ []) ∷ lines (cond t [] [])
    at true = refl
    at false = refl
lines-split b (c ∷ cs) = at (eqb b 10) (lines-split c cs)
  where
    at : (t : Bool) → lines (c ∷ cs) ≡ take_through 10 (c ∷ cs) ∷ lines (drop_through 10 (c ∷ cs))
        → cond t ((b ∷ []) ∷ lines (c ∷ cs)) (onto_first b (lines (c ∷ cs))) ≡ cond t (b ∷ []) (b ∷ take_through 10 (c
        ∷ cs)) ∷ lines (cond t (c ∷ cs) (drop_through 10 (c ∷ cs)))
    at true later = refl
    at false later = ap (onto_first b) later

parts : (xs : List ℕ) → length xs ≢ 0 → lines xs ≡ take_through 10 xs ∷ lines (drop_through 10 xs)
parts [] some = absurd (some refl)
parts (b ∷ bs) some = lines-split b bs

either_le : (t : Bool) (xs ys : List ℕ) (n : ℕ) → length xs ≤ n → length ys ≤ n → length (cond t xs ys) ≤ n
either_le true xs ys n a b = a
either_le false xs ys n a b = b

drop_le : (xs : List ℕ) → length (drop_through 10 xs) ≤ length xs
drop_le [] = omega arith
drop_le (x ∷ xs) = either_le (eqb x 10) xs (drop_through 10 xs) (length (x ∷ xs)) (omega arith)
    (omega (arith, drop_le xs))

pub shorter : (rest : List ℕ) → length rest ≢ 0 → length (drop_through 10 rest) + 1 ≤ length rest
shorter [] some = absurd (some refl)
shorter (b ∷ bs) some =
    let less : length (drop_through 10 (b ∷ bs)) ≤ length bs =
    either_le (eqb b 10) bs (drop_through 10 bs) (length bs) (omega arith) (drop_le bs) in
    omega (arith, less)

pub nonempty : (n : ℕ) (t : Bool) → t ≡ eqb n 0 → t ≡ false → n ≢ 0
nonempty n t is false_is e = true≢false (sym (is ∙ eq-eqb n 0 e) ∙ false_is)

pub some_of : {A : Type 0} (x y : A) → Some x ≡ Some y → x ≡ y
some_of x y e = ap (λ o. unwrap_or o x) e

-- ---- the loop over the lines

-- the line that was not read, if one was found, and otherwise the first of these that is not read
abbrev pub found_or : ℕ → ℕ → ℕ
found_or unread later = cond (eqb unread 0) later unread

-- a judgement of the lines up to this one, from which that of the whole text is reached
pub record IsAt (choice : Choice) (late : Bool) (text : List ℕ) (number : ℕ) (rest : List ℕ) (j : Judgement) : Type 0
  where
    pub judged : Judged
    pub judges : Judges j judged
    pub leads : after_lines choice late (number + 1) judged (lines rest) ≡ judged_of choice late text

pub at_start : (choice : Choice) (late : Bool) (text : List ℕ) (j : Judgement)
    → Judges j (nothing choice.capabilities None) → IsAt choice late text 0 text j
at_start choice late text j judges = record { judged = nothing choice.capabilities None; judges = judges; leads = refl }

-- a line that was found is the first
pub is_found : (n later : ℕ) → found_or (n + 1) later ≡ n + 1
is_found n later = at (eqb (n + 1) 0) refl
  where
    at : (t : Bool) → eqb (n + 1) 0 ≡ t → found_or (n + 1) later ≡ n + 1
    at true e = let none : n + 1 ≡ 0 = eqb-true (n + 1) 0 e in absurd (omega (arith, none))
    at false e = ap (λ t. cond t later (n + 1)) e

module _ (text : List ℕ) (number : ℕ) (rest less line : List ℕ) (some : length rest ≢ 0)
    (line_is : line ≡ take_through 10 rest)
    (less_is : less ≡ drop_through 10 rest) where
  split : lines rest ≡ line ∷ lines less
  split = parts rest some ∙ ap (λ l. l ∷ lines (drop_through 10 rest)) (sym line_is) ∙ ap (λ l. line ∷ lines l)
      (sym less_is)

  pub goes_on : (choice : Choice) (late : Bool) (j k : Judgement) → IsAt choice late text number rest j
      → ((at : Judged) → Judges j at → Judges k (with_line choice late (number + 1) at (line_tree line)))
      → IsAt choice late text (number + 1) less k
  goes_on choice late j k at sees = record {
    judged = with_line choice late (number + 1) at.judged (line_tree line);
    judges = sees at.judged at.judges;
    leads = sym (ap (after_lines choice late (number + 1) at.judged) split) ∙ at.leads;
  }

  -- a line that is read, or one behind the first that is not
  pub still_first : (unread : ℕ) (t : Bool) → t ≡ is_read line → (t ≡ true) ⊎ (unread ≢ 0)
      → found_or unread (first_unread (number + 1) (lines rest)) ≡ first_unread 1 (lines text)
      → found_or unread (first_unread (number + 1 + 1) (lines less)) ≡ first_unread 1 (lines text)
  still_first unread t is (inl read) e =
      ap (λ l. found_or unread l) (sym (ap (first_unread (number + 1)) split
      ∙ ap (λ b. cond b (first_unread (number + 1 + 1) (lines less)) (number + 1)) (sym is ∙ read))) ∙ e
  still_first unread t is (inr found) e = kept (eqb unread 0) refl
    where
      kept : (b : Bool) → eqb unread 0 ≡ b → found_or unread (first_unread (number + 1 + 1) (lines less)) ≡
          first_unread 1 (lines text)
      kept true is_none = absurd (found (eqb-true unread 0 is_none))
      kept false is_some = ap (λ b. cond b (first_unread (number + 1 + 1) (lines less)) unread) is_some
          ∙ sym (ap (λ b. cond b (first_unread (number + 1) (lines rest)) unread) is_some) ∙ e

  -- the first line that is not read
  pub now_first : (unread : ℕ) (t : Bool) → t ≡ is_read line → t ≡ false → unread ≡ 0
      → found_or unread (first_unread (number + 1) (lines rest)) ≡ first_unread 1 (lines text)
      → found_or (number + 1) (first_unread (number + 1 + 1) (lines less)) ≡ first_unread 1 (lines text)
  now_first unread t is unread_now none e =
      is_found number (first_unread (number + 1 + 1) (lines less))
      ∙ (sym (ap (first_unread (number + 1)) split
      ∙ ap (λ b. cond b (first_unread (number + 1 + 1) (lines less)) (number + 1)) (sym is ∙ unread_now))
      ∙ (sym (ap (λ u. found_or u (first_unread (number + 1) (lines rest))) none) ∙ e))

pub bound : (number all : ℕ) (rest less : List ℕ) → length rest ≢ 0 → less ≡ drop_through 10 rest → number + length
    rest ≤ all
    → number + 1 + length less ≤ all
bound number all rest less some less_is within = let shorter_by : length less + 1 ≤ length rest =
    subst (λ l. length l + 1 ≤ length rest) (sym less_is) (shorter rest some) in
    omega (arith, shorter_by, within)

pub is_read_then : (t : Bool) (unread : ℕ) → (t ≡ true) ⊎ (unread ≢ 0) → unread ≡ 0 → t ≡ true
is_read_then t unread (inl read) none = read
is_read_then t unread (inr found) none = absurd (found none)

pub emptied : (rest : List ℕ) (t : Bool) → t ≡ eqb (length rest) 0 → t ≡ true → rest ≡ []
emptied [] t is none = refl
emptied (b ∷ bs) t is none = let empty : length (b ∷ bs) ≡ 0 = eqb-true (length (b ∷ bs)) 0 (sym is ∙ none) in absurd
    (omega (arith, empty))

pub unread_at_end : (text : List ℕ) (number : ℕ) (rest : List ℕ) (unread : ℕ) → rest ≡ []
    → found_or unread (first_unread (number + 1) (lines rest)) ≡ first_unread 1 (lines text) → unread ≡ first_unread
    1 (lines text)
unread_at_end text number rest unread empty e = at (eqb unread 0) refl
  where
    at : (t : Bool) → eqb unread 0 ≡ t → unread ≡ first_unread 1 (lines text)
    at true is = eqb-true unread 0 is ∙ sym (ap (λ b. cond b (first_unread (number + 1) (lines rest)) unread) is
        ∙ ap (λ l. first_unread (number + 1) (lines l)) empty) ∙ e
    at false is = sym (ap (λ b. cond b (first_unread (number + 1) (lines rest)) unread) is) ∙ e
