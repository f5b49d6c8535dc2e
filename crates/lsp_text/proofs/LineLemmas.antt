-- The end of a line, from where the lines of a text begin.
use Rattle.std.proofs.Common.{◌≡◌, ℕ, zero, suc, ◌+◌, ◌-◌, ◌<◌, ◌≤◌, Bool, true, false, cond, List, [], ◌∷◌, length}
use Rattle.std.proofs.Common.{get_or, take, drop, refl, sym, ap, subst, ◌∙◌, arith, inl, inr, length-drop}
use Rattle.std.proofs.lemmas.List.{get_or-drop, take_all}
use Rattle.std.specs.Prelude.{nat_lt, ◌==◌}
use Rattle.std.specs.Str.{IsUtf8, IsCharBoundary}
use Rattle.std.proofs.lemmas.Str.{IsCharBoundary-start, IsCharBoundary-after_ascii}
use Rattle.std.proofs.lemmas.Bool.{cases_Bool}
use Rattle.std.proofs.lemmas.Bool.Decides.{nat_tests}
use Rattle.lsp_text.specs.declared.line_ends.LineEnds.{LineEnds}
use Rattle.lsp_text.specs.declared.line_ends.LineEnds.TheVariants.{LineFeed, Standard}
use Rattle.lsp_text.specs.declared.position.PositionEncoding.TheVariants.{Utf8}
use Rattle.lsp_text.specs.Lines.{is_break, ends_line, starts_in, line_starts, starts_of, LinedText, lined}
use Rattle.lsp_text.specs.Columns.{begins_end, first_line, offset_of, line_text}
use Rattle.lsp_text.proofs.StartLemmas.{starts_in-between, line_starts-rising, line_starts-order, line_starts-within}
use Rattle.lsp_text.proofs.StartLemmas.{line_starts-cut, first_of_drop}
use Rattle.lsp_text.proofs.ColumnLemmas.{ends_false, back}

-- how many bytes stand before the end whose last byte is at j: two are that end if the first of them is '\r'
abbrev before_end : List ℕ → ℕ → ℕ
before_end bs zero = 0
before_end bs (suc k) = cond (get_or bs k 0 == 13) k (suc k)

-- the end of the first line has its last byte at j
record EndsAt (ends : LineEnds) (bs : List ℕ) (j : ℕ) : Type 0 where
  within : j < length bs
  breaks : is_break ends (get_or bs j 0) ≡ true
  line : first_line ends bs ≡ take (before_end bs j) bs

-- a byte that ends its line begins that end
ends_begins : (ends : LineEnds) (b n : ℕ) → ends_line ends b n ≡ true → (is_break ends b ≡ true)
    × (begins_end ends b n ≡ true)
ends_begins LineFeed b n h = (grind (arith, nat_tests), grind (arith, nat_tests))
ends_begins Standard b n h = (grind (arith, nat_tests), grind (arith, nat_tests))

-- a byte that begins an end that it does not end is the first one of '\r\n'
begins_only : (ends : LineEnds) (b n : ℕ) → ends_line ends b n ≡ false → begins_end ends b n ≡ true → (b ≡ 13)
    × (n ≡ 10)
begins_only LineFeed b n h g = (grind (arith, nat_tests), grind (arith, nat_tests))
begins_only Standard b n h g = (grind (arith, nat_tests), grind (arith, nat_tests))

-- a byte that begins no end, before one that ends a line, is no '\r'
no_return : (ends : LineEnds) (b n : ℕ) → begins_end ends b n ≡ false → is_break ends n ≡ true → b == 13 ≡ false
no_return LineFeed b n h g = grind (arith, nat_tests)
no_return Standard b n h g = grind (arith, nat_tests)

break_ascii : (ends : LineEnds) (b : ℕ) → is_break ends b ≡ true → b < 128
break_ascii LineFeed b h = grind (arith, nat_tests)
break_ascii Standard b h = grind (arith, nat_tests)

take_under : (t : Bool) (k b : ℕ) (bs : List ℕ) → take (cond t (suc k) (suc (suc k))) (b ∷ bs)
    ≡ b ∷ take (cond t k (suc k)) bs
take_under true k b bs = refl
take_under false k b bs = refl

-- the line's end is one byte
one_end : (ends : LineEnds) (b : ℕ) (bs : List ℕ) → ends_line ends b (get_or bs 0 0) ≡ true → EndsAt ends (b ∷ bs) 0
one_end ends b bs h =
    let p = ends_begins ends b (get_or bs 0 0) h in
    record { within = omega arith; breaks = p.0; line = (rw p.1 refl) }

-- it is two
two_ends : (ends : LineEnds) (b : ℕ) (bs : List ℕ) → EndsAt ends bs 0 → b ≡ 13 → begins_end ends b (get_or bs 0 0)
    ≡ true → EndsAt ends (b ∷ bs) 1
two_ends ends b bs e r g =
    let w = e.within in
    let q : b == 13 ≡ true = grind (arith, nat_tests) in
    record { within = omega (arith, w); breaks = e.breaks; line = (rw (g, q) refl) }

-- a byte before the line's end
more_line : (ends : LineEnds) (b j : ℕ) (bs : List ℕ) → EndsAt ends bs j → begins_end ends b (get_or bs 0 0)
    ≡ false → EndsAt ends (b ∷ bs) (suc j)
more_line ends b zero bs e g =
    let w = e.within in
    let q : b == 13 ≡ false = no_return ends b (get_or bs 0 0) g e.breaks in
    record { within = omega (arith, w); breaks = e.breaks; line = (rw (g, q) (ap (λ (xs : List ℕ). b ∷ xs) e.line)) }
more_line ends b (suc k) bs e g =
    let w = e.within in
    let s = take_under (get_or bs k 0 == 13) k b bs in
    record {
      within = omega (arith, w);
      breaks = e.breaks;
      line = (rw g (ap (λ (xs : List ℕ). b ∷ xs) e.line ∙ sym s));
    }

-- where a line feed begins bytes that stand at i, a line begins behind it
feed_starts : (ends : LineEnds) (i : ℕ) (bs : List ℕ) → get_or bs 0 0 ≡ 10 → (0 < length (starts_in ends i bs 0))
    × (get_or (starts_in ends i bs 0) 0 0 ≡ i + 1)
feed_starts ends i [] h = absurd (omega (arith, h))
feed_starts ends i (b ∷ bs) h =
    let q : b == 10 ≡ true = grind (arith, nat_tests) in
    (rw q (omega arith), rw q refl)

-- if no line begins in bytes behind their first, that has all of them
pub whole_line : (ends : LineEnds) (i : ℕ) (bs : List ℕ) → length (starts_in ends i bs 0) ≡ 0 → first_line ends bs ≡ bs
whole_line ends i [] h = refl
whole_line ends i (b ∷ bs) h =
    let t = ends_false (ends_line ends b (get_or bs 0 0)) (i + 1) (starts_in ends (i + 1) bs 0) h in
    elim (cases_Bool (begins_end ends b (get_or bs 0 0))) [
      | inl g ↦ (let f = feed_starts ends (i + 1) bs (begins_only ends b (get_or bs 0 0) t.0 g).1 in
          absurd (omega (arith, f.0, t.1)))
      | inr g ↦ rw g (ap (λ (xs : List ℕ). b ∷ xs) (whole_line ends (i + 1) bs t.1))
    ]

at_step : (ends : LineEnds) (i b : ℕ) (bs ss : List ℕ) (t : Bool) → ends_line ends b (get_or bs 0 0) ≡ t →
    (0 < length ss → i + 1 < get_or ss 0 0) → (get_or bs 0 0 ≡ 10 → get_or ss 0 0 ≡ i + 2) →
    (0 < length ss → EndsAt ends bs (get_or ss 0 0 - (i + 2))) → 0 < length (cond t ((i + 1) ∷ ss) ss) →
    EndsAt ends (b ∷ bs) (get_or (cond t ((i + 1) ∷ ss) ss) 0 0 - (i + 1))
at_step ends i b bs ss true h up two at l = let z : i + 1 - (i + 1) ≡ 0 = omega arith in rw z (one_end ends b bs h)
at_step ends i b bs ss false h up two at l =
    let u = up l in
    let z : get_or ss 0 0 - (i + 1) ≡ suc (get_or ss 0 0 - (i + 2)) = omega (arith, u) in
    rw z (elim (cases_Bool (begins_end ends b (get_or bs 0 0))) [
      | inl g ↦ (let r = begins_only ends b (get_or bs 0 0) h g in
          let n = two r.1 in
          let y : get_or ss 0 0 - (i + 2) ≡ 0 = omega (arith, n) in
          rw y (two_ends ends b bs (rw y at (at l)) r.0 g))
      | inr g ↦ more_line ends b (get_or ss 0 0 - (i + 2)) bs (at l) g
    ])

-- where the end of the first line of bytes is that stand at i, if a line begins behind it
ends_at : (ends : LineEnds) (i : ℕ) (bs : List ℕ) → 0 < length (starts_in ends i bs 0) → EndsAt ends bs (get_or
    (starts_in ends i bs 0) 0 0 - (i + 1))
ends_at ends i [] l = absurd (omega (arith, l))
ends_at ends i (b ∷ bs) l =
    let o : i + 1 + 1 ≡ i + 2 = omega arith in
    at_step ends i b bs (starts_in ends (i + 1) bs 0) (ends_line ends b (get_or bs 0 0)) refl
    (λ h. (starts_in-between ends (i + 1) bs 0 0 h).0) (λ h. (feed_starts ends (i + 1) bs h).1 ∙ o)
    (λ h. rw o at (ends_at ends (i + 1) bs h)) l

before_two : (bs : List ℕ) (j k : ℕ) → j ≡ suc k → get_or bs k 0 ≡ 13 → before_end bs j ≡ k
before_two bs j k e h =
    let q : get_or bs k 0 == 13 ≡ true = grind (arith, nat_tests) in
    rw (e, q) refl

before_one : (bs : List ℕ) (j : ℕ) → ((k : ℕ) → j ≡ suc k → get_or bs k 0 == 13 ≡ false) → before_end bs j ≡ j
before_one bs zero f = refl
before_one bs (suc k) f = rw (f k refl) refl

-- the starts behind that of a line
starts_behind : (ends : LineEnds) (bs ss : List ℕ) (line : ℕ) → ss ≡ line_starts ends bs → line < length ss →
    drop (line + 1) ss ≡ starts_in ends (get_or ss line 0) (drop (get_or ss line 0) bs) 0
starts_behind ends bs ss line e l =
    let ls : List ℕ = line_starts ends bs in
    let le : line < length ls = (let h = ap length e in omega (arith, h, l)) in
    rw e (line_starts-cut ends (get_or ls line 0) (line + 1) bs ls refl (line_starts-within ends bs line le)
    (λ j h. line_starts-order ends bs j line (omega (arith, h)) le) (λ j h g. line_starts-rising ends bs line j (omega
    (arith, h)) g) (omega (arith, le))).1

-- a line's end, from the starts of it and of the next one
pub record IsBetween (ends : LineEnds) (bs : List ℕ) (s n : ℕ) : Type 0 where
  pub up : s < n
  pub within : n ≤ length bs
  pub ascii : get_or bs (n - 1) 0 < 128
  pub two : s < n - 1 → get_or bs (n - 1 - 1) 0 ≡ 13 → take (n - 1 - 1 - s) (drop s bs) ≡ first_line ends (drop s bs)
  pub one : (s < n - 1 → get_or bs (n - 1 - 1) 0 == 13 ≡ false) → take (n - 1 - s) (drop s bs)
      ≡ first_line ends (drop s bs)

between : (ends : LineEnds) (bs : List ℕ) (s n : ℕ) → s < n → EndsAt ends (drop s bs) (n - (s + 1)) → IsBetween ends bs
    s n
between ends bs s n u e =
    let rest : List ℕ = drop s bs in
    let j : ℕ = n - (s + 1) in
    let w = e.within in
    let d : length rest ≡ length bs - s = length-drop s bs in
    let z : s + j ≡ n - 1 = omega (arith, u) in
    let last : get_or rest j 0 ≡ get_or bs (n - 1) 0 = rw z at (get_or-drop s bs j 0) in
    record {
      up = u;
      within = omega (arith, w, d);
      ascii = break_ascii ends (get_or bs (n - 1) 0) (ap (is_break ends) (sym last) ∙ e.breaks);
      two = λ l h. (let y : s + (n - 1 - 1 - s) ≡ n - 1 - 1 = omega (arith, l) in
          let q : get_or rest (n - 1 - 1 - s) 0 ≡ get_or bs (n - 1 - 1) 0 = rw y at (get_or-drop s bs (n - 1 - 1 - s)
          0) in
          ap (λ m. take m rest) (sym (before_two rest j (n - 1 - 1 - s) (omega (arith, l)) (q ∙ h))) ∙ sym e.line);
      one = λ f. (let k : n - 1 - s ≡ j = omega arith in
          let o = before_one rest j (λ k h. (let y : s + k ≡ n - 1 - 1 = omega (arith, u, h) in
          let q : get_or rest k 0 ≡ get_or bs (n - 1 - 1) 0 = rw y at (get_or-drop s bs k 0) in
          ap (λ x. x == 13) q ∙ f (omega (arith, h)))) in
          ap (λ m. take m rest) (k ∙ sym o) ∙ sym e.line);
    }

pub line_between : (ends : LineEnds) (bs ss : List ℕ) (line : ℕ) → ss ≡ line_starts ends bs → line < length ss →
    ¬ (line + 1 ≡ length ss) → IsBetween ends bs (get_or ss line 0) (get_or ss (line + 1) 0)
line_between ends bs ss line e l more =
    let s : ℕ = get_or ss line 0 in
    let behind : List ℕ = starts_in ends s (drop s bs) 0 in
    let b : drop (line + 1) ss ≡ behind = starts_behind ends bs ss line e l in
    let n : get_or behind 0 0 ≡ get_or ss (line + 1) 0 = ap (λ (xs : List ℕ). get_or xs 0 0) (sym b) ∙ first_of_drop
    (line + 1) ss in
    let d : length (drop (line + 1) ss) ≡ length ss - (line + 1) = length-drop (line + 1) ss in
    let t : length (drop (line + 1) ss) ≡ length behind = ap length b in
    let some : 0 < length behind = omega (arith, l, more, d, t) in
    let u = (starts_in-between ends s (drop s bs) 0 0 some).0 in
    between ends bs s (get_or ss (line + 1) 0) (rw n at u) (rw n at (ends_at ends s (drop s bs) some))

-- the last line is the rest of the text
pub last_line : (ends : LineEnds) (bs ss : List ℕ) (line : ℕ) → ss ≡ line_starts ends bs → line + 1 ≡ length ss →
    take (length bs - get_or ss line 0) (drop (get_or ss line 0) bs) ≡ first_line ends (drop (get_or ss line 0) bs)
last_line ends bs ss line e l =
    let s : ℕ = get_or ss line 0 in
    let t = ap length (starts_behind ends bs ss line e (omega (arith, l))) in
    let d = length-drop (line + 1) ss in
    let n = length-drop s bs in
    take_all (length bs - s) (drop s bs) (omega (arith, n)) ∙ sym (whole_line ends s (drop s bs) (omega (
      arith,
      l,
      d,
      t,
    )))

-- a line begins where a character does
begins_whole : (ends : LineEnds) (bs : List ℕ) (line : ℕ) → IsUtf8 bs → line < length (line_starts ends bs) →
    IsCharBoundary bs (get_or (line_starts ends bs) line 0)
begins_whole ends bs zero utf l = IsCharBoundary-start bs utf
begins_whole ends bs (suc k) utf l =
    let ss : List ℕ = line_starts ends bs in
    let o : k + 1 ≡ suc k = omega arith in
    let b : IsBetween ends bs (get_or ss k 0) (get_or ss (suc k) 0) = rw o at (line_between ends bs ss k refl
    (omega (arith, l)) (λ h. omega (arith, l, h))) in
    let u = b.up in
    let w = b.within in
    let z : get_or ss (suc k) 0 - 1 + 1 ≡ get_or ss (suc k) 0 = omega (arith, u) in
    rw z at (IsCharBoundary-after_ascii bs (get_or ss (suc k) 0 - 1) utf (omega (arith, u, w)) b.ascii)

pub begins_at : (ends : LineEnds) (bs text ss : List ℕ) (line start : ℕ) → IsUtf8 text → bs ≡ text
    → ss ≡ line_starts ends bs → line < length ss → start ≡ get_or (line_starts ends bs) line 0
    → IsCharBoundary text start
begins_at ends bs text ss line start utf e i l s =
    let g : line < length (line_starts ends bs) = (let h = ap length i in omega (arith, h, l)) in
    rw s (subst (λ (xs : List ℕ). IsCharBoundary xs (get_or (line_starts ends bs) line 0)) e (begins_whole ends bs line
    (subst IsUtf8 (sym e) utf) g))

-- its first position is its start
first_position : (ends : LineEnds) (bs : List ℕ) (line : ℕ) → IsUtf8 bs → line < length (line_starts ends bs) →
    offset_of Utf8 (lined ends bs) line 0 ≡ get_or (line_starts ends bs) line 0
first_position ends bs line utf l =
    let s : ℕ = get_or (line_starts ends bs) line 0 in
    let t : nat_lt line (length (line_starts ends bs)) ≡ true = grind (arith, nat_tests) in
    let f = first_of_drop s bs in
    let d : length (drop s bs) ≡ length bs - s = length-drop s bs in
    let c = back ends Utf8 [] (drop s bs) (λ k h. absurd (omega (arith, h)))
    (λ h g. (let w = (begins_whole ends bs line utf l).1 (omega (arith, h, d)) (omega (arith, g, f)) in
    omega (arith, w, f))) in
    rw (t, c) (omega arith)

-- the bytes from a line's start up to its end are its text
pub line_is : (v : LinedText) (ends : LineEnds) (bs text ss found : List ℕ) (line start end : ℕ) → lined ends bs ≡ v
    → IsUtf8 text → bs ≡ text → ss ≡ line_starts ends bs → line < length ss
    → start ≡ get_or (line_starts ends bs) line 0
    → take (end - get_or ss line 0) (drop (get_or ss line 0) bs) ≡ first_line ends (drop (get_or ss line 0) bs)
    → found ≡ take (end - start) (drop start text) → (line < length (starts_of v)) × (found ≡ line_text v line)
line_is v ends bs text ss found line start end is utf e i l s p f =
    let g : line < length (line_starts ends bs) = (let h = ap length i in omega (arith, h, l)) in
    let o = first_position ends bs line (subst IsUtf8 (sym e) utf) g in
    let z : get_or ss line 0 ≡ start = ap (λ (zs : List ℕ). get_or zs line 0) i ∙ sym s in
    let q : take (end - start) (drop start bs) ≡ first_line ends (drop start bs) = rw z at p in
    subst (λ (v : LinedText). (line < length (starts_of v)) × (found ≡ line_text v line)) is (
      g,
      f ∙ ap (λ (zs : List ℕ). take (end - start) (drop start zs)) (sym e) ∙ q ∙ ap (λ k. first_line ends (drop k
          bs)) (s ∙ sym o),
    )
