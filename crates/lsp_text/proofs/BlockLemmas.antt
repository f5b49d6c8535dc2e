-- An edit of a text whose lines before it and behind it stay whole is an edit of the lines between.
use Rattle.std.proofs.Common.{◌≡◌, ℕ, zero, suc, ◌+◌, ◌-◌, ◌<◌, ◌≤◌, ◌++◌, Bool, true, false, cond, List, [], ◌∷◌}
use Rattle.std.proofs.Common.{length, get_or, take, drop, map, refl, sym, ap, ◌∙◌, arith, append_assoc}
use Rattle.std.proofs.Common.{length-append, length-drop, inl, inr}
use Rattle.std.proofs.lemmas.List.{get_or_append_left, get_or-append-add, length-map, get_or-map}
use Rattle.std.proofs.lemmas.List.{drop-append-le, take-append-le}
use Rattle.std.proofs.Math.Seq.{drop-append-add, take-append-add}
use Rattle.std.proofs.lemmas.Bool.{cases_lt}
use Rattle.std.proofs.lemmas.Bool.Decides.{nat_tests}
use Rattle.std.proofs.Common.{subst, take-add}
use Rattle.std.proofs.lemmas.List.{append-nil, drop_more, take-append-drop}
use Rattle.std.specs.Prelude.{nat_lt, ◌||◌, min, max, Some}
use Rattle.lsp_text.specs.declared.line_ends.LineEnds.{LineEnds}
use Rattle.lsp_text.specs.declared.line_ends.LineEnds.TheVariants.{LineFeed, Standard}
use Rattle.lsp_text.specs.declared.position.PositionEncoding.{PositionEncoding}
use Rattle.lsp_text.specs.declared.position.Position.{Position}
use Rattle.lsp_text.specs.declared.position.Range.{Range}
use Rattle.lsp_text.specs.Lines.{is_break, ends_line, starts_in, line_starts, starts_of, LinedText, lined}
use Rattle.lsp_text.specs.Columns.{units, column_len, width, has_end, offset_of}
use Rattle.lsp_text.specs.Edits.{edited, is_past_end, past_in}
use Rattle.lsp_text.specs.Blocks.{joined, ends_in, last_or, AreLines, AreBlocks}
use Rattle.lsp_text.proofs.StartLemmas.{starts_in-append, starts_in-moved, line_starts-rising}
use Rattle.lsp_text.proofs.ColumnLemmas.{column_within, width_within}

-- ---- whole lines

newline_ends : (ends : LineEnds) (n : ℕ) → ends_line ends 10 n ≡ true
newline_ends ends n = refl

newline_breaks : (ends : LineEnds) → is_break ends 10 ≡ true
newline_breaks LineFeed = refl
newline_breaks Standard = refl

-- where whole lines end does not depend on what follows them
pub starts-alone : (ends : LineEnds) (i n : ℕ) (xs : List ℕ) → AreLines xs
    → starts_in ends i xs n ≡ starts_in ends i xs 0
starts-alone ends i n [] a = refl
starts-alone ends i n (x ∷ []) a = rw a refl
starts-alone ends i n (x ∷ (y ∷ ys)) a =
    ap (λ (ss : List ℕ). cond (ends_line ends x y) ((i + 1) ∷ ss) ss) (starts-alone ends (i + 1) n (y ∷ ys) a)

last_step : (t : Bool) (i n : ℕ) (ss : List ℕ) → get_or ((i + 1) ∷ ss) (length ss) 0 ≡ i + 1 + suc n
    → get_or (i ∷ cond t ((i + 1) ∷ ss) ss) (length (cond t ((i + 1) ∷ ss) ss)) 0 ≡ i + suc (suc n)
last_step true i n ss h = omega (arith, h)
last_step false i n [] h = absurd (omega (arith, h))
last_step false i n (s ∷ ss) h = omega (arith, h)

-- the last line of whole lines begins at their end
pub last_start : (ends : LineEnds) (i n : ℕ) (xs : List ℕ) → AreLines xs
    → get_or (i ∷ starts_in ends i xs n) (length (starts_in ends i xs n)) 0 ≡ i + length xs
last_start ends i n [] a = omega arith
last_start ends i n (x ∷ []) a = rw a refl
last_start ends i n (x ∷ (y ∷ ys)) a =
    last_step (ends_line ends x y) i (length ys) (starts_in ends (i + 1) (y ∷ ys) n) (last_start ends (i + 1) n
    (y ∷ ys) a)

cond_less : (t : Bool) (k n : ℕ) → k < n → cond t 0 (1 + k) < suc n
cond_less true k n h = omega arith
cond_less false k n h = omega arith

or_last : (t u : Bool) → u ≡ true → (t || u) ≡ true
or_last true u h = refl
or_last false u h = h

-- a column of a line that ends in whole lines stops before their end
pub column_stops : (ends : LineEnds) (e : PositionEncoding) (c : ℕ) (xs : List ℕ) → AreLines xs → 0 < length xs
    → (column_len ends e c xs < length xs) × (has_end ends xs ≡ true)
column_stops ends e c [] a l = absurd (omega arith)
column_stops ends e c (x ∷ []) a l = rw (a, newline_breaks ends) (omega arith, refl)
column_stops ends e c (x ∷ (y ∷ ys)) a l =
    let i = column_stops ends e (c - units e x) (y ∷ ys) a (omega arith) in (
      cond_less (is_break ends x || nat_lt c (units e x)) (column_len ends e (c - units e x) (y ∷ ys))
          (length (y ∷ ys)) i.0,
      or_last (is_break ends x) (has_end ends (y ∷ ys)) i.1,
    )

-- ---- lines behind whole lines

starts_two : (ends : LineEnds) (zs xs : List ℕ) → AreLines zs → line_starts ends (zs ++ xs)
    ≡ (0 ∷ starts_in ends 0 zs 0) ++ starts_in ends (length zs) xs 0
starts_two ends zs xs a =
    let z : 0 + length zs ≡ length zs = omega arith in
    ap (λ (ss : List ℕ). 0 ∷ ss) (rw (z, starts-alone ends 0 (get_or xs 0 0) zs a) at (starts_in-append ends 0 zs xs 0))

moved : (ends : LineEnds) (n : ℕ) (xs : List ℕ) → map (λ s. s - 0 + n) (starts_in ends 0 xs 0) ≡ starts_in ends n xs 0
moved ends n xs = starts_in-moved ends 0 n xs 0

-- their lines are counted on
pub count_behind : (ends : LineEnds) (zs xs : List ℕ) → AreLines zs → length (line_starts ends (zs ++ xs))
    ≡ ends_in ends zs + length (line_starts ends xs)
count_behind ends zs xs a =
    let l : length (starts_in ends (length zs) xs 0) ≡ length (starts_in ends 0 xs 0) =
    ap length (sym (moved ends (length zs) xs)) ∙ length-map (starts_in ends 0 xs 0) (λ s. s - 0 + length zs) in
    let m = ap length (starts_two ends zs xs a) ∙ length-append (0 ∷ starts_in ends 0 zs 0) (starts_in ends (length zs)
    xs 0) in
    omega (arith, l, m)

pub start_behind : (ends : LineEnds) (zs xs : List ℕ) (line : ℕ) → AreLines zs → line < length (line_starts ends xs) →
    get_or (line_starts ends (zs ++ xs)) (ends_in ends zs + line) 0 ≡ length zs + get_or (line_starts ends xs) line 0
start_behind ends zs xs zero a l =
    let ss : List ℕ = 0 ∷ starts_in ends 0 zs 0 in
    let z : ends_in ends zs + 0 ≡ ends_in ends zs = omega arith in
    let p = ap (λ (us : List ℕ). get_or us (ends_in ends zs) 0) (starts_two ends zs xs a) in
    let q = get_or_append_left ss (starts_in ends (length zs) xs 0) 0 (ends_in ends zs) (omega arith) in
    let r = last_start ends 0 0 zs a in
    rw z (omega (arith, p, q, r))
start_behind ends zs xs (suc k) a l =
    let ss : List ℕ = 0 ∷ starts_in ends 0 zs 0 in
    let ts : List ℕ = starts_in ends 0 xs 0 in
    let z : ends_in ends zs + suc k ≡ length ss + k = omega arith in
    let p = ap (λ (us : List ℕ). get_or us (length ss + k) 0) (starts_two ends zs xs a) in
    let q = get_or-append-add ss (starts_in ends (length zs) xs 0) k 0 in
    let r : get_or (starts_in ends (length zs) xs 0) k 0 ≡ get_or (map (λ s. s - 0 + length zs) ts) k 0 =
    ap (λ (us : List ℕ). get_or us k 0) (sym (moved ends (length zs) xs)) in
    let g = get_or-map (λ s. s - 0 + length zs) ts k 0 0 (omega arith) in
    rw z (omega (arith, p, q, r, g))

-- so a position is found behind them
pub offset_behind : (ends : LineEnds) (e : PositionEncoding) (zs xs : List ℕ) (line c : ℕ) → AreLines zs →
    offset_of e (lined ends (zs ++ xs)) (ends_in ends zs + line) c ≡ length zs + offset_of e (lined ends xs) line c
offset_behind ends e zs xs line c a =
    let n = count_behind ends zs xs a in
    let t : nat_lt (ends_in ends zs + line) (length (line_starts ends (zs ++ xs)))
    ≡ nat_lt line (length (line_starts ends xs)) = grind (arith, nat_tests, n) in
    elim (cases_lt line (length (line_starts ends xs))) [
      | inl h ↦ (let u : nat_lt line (length (line_starts ends xs)) ≡ true = grind (arith, nat_tests) in
          rw (t, u, start_behind ends zs xs line a h, drop-append-add zs xs (get_or (line_starts ends xs) line 0))
          (omega arith))
      | inr h ↦ (let u : nat_lt line (length (line_starts ends xs)) ≡ false = grind (arith, nat_tests) in
          rw (t, u) (length-append zs xs))
    ]

-- and lies past an end there if it does in them alone
pub past_behind : (ends : LineEnds) (e : PositionEncoding) (zs xs : List ℕ) (line c : ℕ) → AreLines zs →
    is_past_end e (lined ends (zs ++ xs)) (record { line = ends_in ends zs + line; character = c })
    ≡ is_past_end e (lined ends xs) (record { line = line; character = c })
past_behind ends e zs xs line c a =
    let n = count_behind ends zs xs a in
    let t : nat_lt (ends_in ends zs + line) (length (line_starts ends (zs ++ xs)))
    ≡ nat_lt line (length (line_starts ends xs)) = grind (arith, nat_tests, n) in
    let v : nat_lt (length (line_starts ends (zs ++ xs))) (ends_in ends zs + line)
    ≡ nat_lt (length (line_starts ends xs)) line = grind (arith, nat_tests, n) in
    elim (cases_lt line (length (line_starts ends xs))) [
      | inl h ↦ (let u : nat_lt line (length (line_starts ends xs)) ≡ true = grind (arith, nat_tests) in
          rw (t, u, start_behind ends zs xs line a h, drop-append-add zs xs (get_or (line_starts ends xs) line 0)) refl)
      | inr h ↦ (let u : nat_lt line (length (line_starts ends xs)) ≡ false = grind (arith, nat_tests) in
          rw (t, u, v) refl)
    ]

-- ---- lines before other bytes

start_before : (ends : LineEnds) (bs cs : List ℕ) (line : ℕ) → AreLines bs → line < ends_in ends bs →
    (get_or (line_starts ends (bs ++ cs)) line 0 ≡ get_or (line_starts ends bs) line 0)
    × (get_or (line_starts ends bs) line 0 < length bs)
start_before ends bs cs line a l =
    let ss : List ℕ = line_starts ends bs in
    let p = ap (λ (us : List ℕ). get_or us line 0) (starts_two ends bs cs a) in
    let q = get_or_append_left ss (starts_in ends (length bs) cs 0) 0 line (omega arith) in
    let r = last_start ends 0 0 bs a in
    let u = line_starts-rising ends bs line (ends_in ends bs) l (omega arith) in
    (p ∙ q, omega (arith, r, u))

last_drop : (b s : ℕ) (xs : List ℕ) → s < length xs → last_or 10 (drop s xs) ≡ last_or b xs
last_drop b s [] l = absurd (omega arith)
last_drop b zero (x ∷ xs) l = refl
last_drop b (suc s) (x ∷ xs) l = last_drop x s xs (omega arith)

-- the column of such a line, and its width, are the same whatever follows
pub line_before : (ends : LineEnds) (e : PositionEncoding) (bs cs : List ℕ) (s c : ℕ) → AreLines bs → s < length bs →
    (column_len ends e c (drop s (bs ++ cs)) ≡ column_len ends e c (drop s bs))
    × ((s + column_len ends e c (drop s bs) < length bs)
    × (width ends e (drop s (bs ++ cs)) ≡ width ends e (drop s bs)))
line_before ends e bs cs s c a l =
    let d : length (drop s bs) ≡ length bs - s = length-drop s bs in
    let b = column_stops ends e c (drop s bs) (last_drop 10 s bs l ∙ a) (omega (arith, d)) in
    let f : drop s (bs ++ cs) ≡ drop s bs ++ cs = drop-append-le s bs cs (omega arith) in
    let w = b.0 in (
      ap (column_len ends e c) f ∙ (column_within ends e c (drop s bs) cs w).0,
      (omega (arith, d, w), ap (width ends e) f ∙ (width_within ends e (drop s bs) cs b.1).0),
    )

both_before : (ends : LineEnds) (bs cs : List ℕ) (line : ℕ) → AreLines bs → line < ends_in ends bs →
    (nat_lt line (length (line_starts ends (bs ++ cs))) ≡ true) × (nat_lt line (length (line_starts ends bs)) ≡ true)
both_before ends bs cs line a l =
    let n = count_behind ends bs cs a in
    (grind (arith, nat_tests, n, l), grind (arith, nat_tests, l))

pub offset_before : (ends : LineEnds) (e : PositionEncoding) (bs cs : List ℕ) (line c : ℕ) → AreLines bs
    → line < ends_in ends bs → (offset_of e (lined ends (bs ++ cs)) line c ≡ offset_of e (lined ends bs) line c)
    × (offset_of e (lined ends bs) line c < length bs)
offset_before ends e bs cs line c a l =
    let t = both_before ends bs cs line a l in
    let s = start_before ends bs cs line a l in
    let b = line_before ends e bs cs (get_or (line_starts ends bs) line 0) c a s.1 in
    let w = b.1.0 in
    (rw (t.0, t.1, s.0, b.0) refl, rw t.1 w)

pub past_before : (ends : LineEnds) (e : PositionEncoding) (bs cs : List ℕ) (line c : ℕ) → AreLines bs
    → line < ends_in ends bs → is_past_end e (lined ends (bs ++ cs)) (record { line = line; character = c })
    ≡ is_past_end e (lined ends bs) (record { line = line; character = c })
past_before ends e bs cs line c a l =
    let t = both_before ends bs cs line a l in
    let s = start_before ends bs cs line a l in
    let b = line_before ends e bs cs (get_or (line_starts ends bs) line 0) c a s.1 in
    rw (t.0, t.1, s.0, b.1.1) refl

-- ---- an edit of the lines between

-- if bytes follow, these are whole lines, and the line ends in them
abbrev pub Within : LineEnds → List ℕ → List ℕ → ℕ → Type 0
Within ends bs cs line = 0 < length cs → AreLines bs × (line < ends_in ends bs)

-- a position, counted from the lines between on
pub record Counted (ends : LineEnds) (xs bs cs : List ℕ) (p q : Position) : Type 0 where
  pub line : p.line ≡ ends_in ends xs + q.line
  pub character : p.character ≡ q.character
  pub within : Within ends bs cs q.line

offset_in : (ends : LineEnds) (e : PositionEncoding) (bs cs : List ℕ) (line c : ℕ) → Within ends bs cs line →
    (offset_of e (lined ends (bs ++ cs)) line c ≡ offset_of e (lined ends bs) line c)
    × (0 < length cs → offset_of e (lined ends bs) line c < length bs)
offset_in ends e bs [] line c w =
    (ap (λ (us : List ℕ). offset_of e (lined ends us) line c) (append-nil bs), λ l. absurd (omega arith))
offset_in ends e bs (x ∷ cs) line c w =
    let v = w (omega arith) in
    let o = offset_before ends e bs (x ∷ cs) line c v.0 v.1 in
    (o.0, λ l. o.1)

past_of : (ends : LineEnds) (e : PositionEncoding) (bs cs : List ℕ) (line c : ℕ) → Within ends bs cs line →
    is_past_end e (lined ends (bs ++ cs)) (record { line = line; character = c })
    ≡ is_past_end e (lined ends bs) (record { line = line; character = c })
past_of ends e bs [] line c w = ap (λ (us : List ℕ). is_past_end e (lined ends us) (record {
  line = line;
  character = c;
})) (append-nil bs)
past_of ends e bs (x ∷ cs) line c w = (let v = w (omega arith) in past_before ends e bs (x ∷ cs) line c v.0 v.1)

offset_between : (ends : LineEnds) (e : PositionEncoding) (xs bs cs : List ℕ) (p q : Position) → AreLines xs →
    Counted ends xs bs cs p q → offset_of e (lined ends (xs ++ (bs ++ cs))) p.line p.character
    ≡ length xs + offset_of e (lined ends bs) q.line q.character
offset_between ends e xs bs cs p q a n =
    rw (n.line, n.character) (offset_behind ends e xs (bs ++ cs) q.line q.character a
    ∙ ap (λ k. length xs + k) (offset_in ends e bs cs q.line q.character n.within).0)

past_one : (ends : LineEnds) (e : PositionEncoding) (xs bs cs : List ℕ) (p q : Position) → AreLines xs →
    Counted ends xs bs cs p q → is_past_end e (lined ends (xs ++ (bs ++ cs))) p ≡ is_past_end e (lined ends bs) q
past_one ends e xs bs cs p q a n =
    rw (n.line, n.character) (past_behind ends e xs (bs ++ cs) q.line q.character a
    ∙ past_of ends e bs cs q.line q.character n.within)

replaced_in : (bs cs new : List ℕ) (i j : ℕ) → (0 < length cs → (i ≤ length bs) × (j ≤ length bs)) →
    (take i (bs ++ cs) ++ new) ++ drop j (bs ++ cs) ≡ ((take i bs ++ new) ++ drop j bs) ++ cs
replaced_in bs [] new i j w = rw (append-nil bs) (sym (append-nil ((take i bs ++ new) ++ drop j bs)))
replaced_in bs (c ∷ cs) new i j w =
    let v = w (omega arith) in
    rw (take-append-le i bs (c ∷ cs) v.0, drop-append-le j bs (c ∷ cs) v.1) (sym (append_assoc (take i bs ++ new)
    (drop j bs) (c ∷ cs)))

replaced_between : (xs bs cs new : List ℕ) (i j : ℕ) → (0 < length cs → (i ≤ length bs) × (j ≤ length bs)) →
    (take (length xs + i) (xs ++ (bs ++ cs)) ++ new) ++ drop (length xs + j) (xs ++ (bs ++ cs))
    ≡ xs ++ (((take i bs ++ new) ++ drop j bs) ++ cs)
replaced_between xs bs cs new i j w =
    rw (take-append-add xs (bs ++ cs) i, drop-append-add xs (bs ++ cs) j) (
    ap (λ (us : List ℕ). us ++ drop j (bs ++ cs)) (append_assoc xs (take i (bs ++ cs)) new)
    ∙ append_assoc xs (take i (bs ++ cs) ++ new) (drop j (bs ++ cs))
    ∙ ap (λ (us : List ℕ). xs ++ us) (replaced_in bs cs new i j w)
    )

-- an edit of the text is one of the lines between
pub edited_between : (ends : LineEnds) (e : PositionEncoding) (xs bs cs new : List ℕ) (r s : Range) → AreLines xs →
    Counted ends xs bs cs r.start s.start → Counted ends xs bs cs r.end s.end →
    (edited e (lined ends (xs ++ (bs ++ cs))) (Some r) new).bytes
    ≡ xs ++ ((edited e (lined ends bs) (Some s) new).bytes ++ cs)
edited_between ends e xs bs cs new r s a f l =
    let i : ℕ = offset_of e (lined ends bs) s.start.line s.start.character in
    let j : ℕ = offset_of e (lined ends bs) s.end.line s.end.character in
    let m : min (length xs + i) (length xs + j) ≡ length xs + min i j = omega arith in
    let n : max (length xs + i) (length xs + j) ≡ length xs + max i j = omega arith in
    let p = (offset_in ends e bs cs s.start.line s.start.character f.within).1 in
    let q = (offset_in ends e bs cs s.end.line s.end.character l.within).1 in
    rw (offset_between ends e xs bs cs r.start s.start a f, offset_between ends e xs bs cs r.end s.end a l, m, n) (
    replaced_between xs bs cs new (min i j) (max i j)
    (λ h. (let u = p h in let v = q h in (omega (arith, u, v), omega (arith, u, v))))
    )

pub past_between : (ends : LineEnds) (e : PositionEncoding) (xs bs cs : List ℕ) (r s : Range) → AreLines xs →
    Counted ends xs bs cs r.start s.start → Counted ends xs bs cs r.end s.end →
    past_in e (lined ends (xs ++ (bs ++ cs))) (Some r) ≡ past_in e (lined ends bs) (Some s)
past_between ends e xs bs cs r s a f l =
    rw (past_one ends e xs bs cs r.start s.start a f, past_one ends e xs bs cs r.end s.end a l) refl

last_append : (b : ℕ) (xs ys : List ℕ) → last_or b (xs ++ ys) ≡ last_or (last_or b xs) ys
last_append b [] ys = refl
last_append b (x ∷ xs) ys = last_append x xs ys

last_any : (b c : ℕ) (xs : List ℕ) → 0 < length xs → last_or b xs ≡ last_or c xs
last_any b c [] l = absurd (omega arith)
last_any b c (x ∷ xs) l = refl

lines_replaced : (bs new : List ℕ) (i j : ℕ) → AreLines bs → j < length bs
    → AreLines ((take i bs ++ new) ++ drop j bs)
lines_replaced bs new i j a l =
    let d : length (drop j bs) ≡ length bs - j = length-drop j bs in
    last_append 10 (take i bs ++ new) (drop j bs)
    ∙ last_any (last_or 10 (take i bs ++ new)) 10 (drop j bs) (omega (arith, d)) ∙ last_drop 10 j bs l ∙ a

-- and they stay whole lines
pub lines_edited : (ends : LineEnds) (e : PositionEncoding) (bs new : List ℕ) (s : Range) → AreLines bs
    → s.start.line < ends_in ends bs → s.end.line < ends_in ends bs
    → AreLines ((edited e (lined ends bs) (Some s) new).bytes)
lines_edited ends e bs new s a f l =
    let i : ℕ = offset_of e (lined ends bs) s.start.line s.start.character in
    let j : ℕ = offset_of e (lined ends bs) s.end.line s.end.character in
    let p = (offset_before ends e bs [] s.start.line s.start.character a f).1 in
    let q = (offset_before ends e bs [] s.end.line s.end.character a l).1 in
    lines_replaced bs new (min i j) (max i j) a (omega (arith, p, q))

-- ---- blocks

pub joined-append : (xs ys : List LinedText) → joined (xs ++ ys) ≡ joined xs ++ joined ys
joined-append [] ys = refl
joined-append (x ∷ xs) ys = ap (λ (us : List ℕ). x.bytes ++ us) (joined-append xs ys)
    ∙ sym (append_assoc x.bytes (joined xs) (joined ys))

pub lines-append : (xs ys : List ℕ) → AreLines xs → AreLines ys → AreLines (xs ++ ys)
lines-append xs ys a b = last_append 10 xs ys ∙ ap (λ k. last_or k ys) a ∙ b

pub ends_in-append : (ends : LineEnds) (xs ys : List ℕ) → AreLines xs
    → ends_in ends (xs ++ ys) ≡ ends_in ends xs + ends_in ends ys
ends_in-append ends xs ys a = (let n = count_behind ends xs ys a in omega (arith, n))

-- the blocks before another are whole lines
pub lines_before : (ends : LineEnds) (xs ys : List LinedText) → AreBlocks ends (xs ++ ys) → 0 < length ys
    → AreLines (joined xs)
lines_before ends [] ys a l = refl
lines_before ends (x ∷ xs) ys a l =
    let n = length-append xs ys in
    lines-append x.bytes (joined xs) (a.1.0 (omega (arith, n))) (lines_before ends xs ys a.1.1 l)

pub blocks_behind : (ends : LineEnds) (xs ys : List LinedText) → AreBlocks ends (xs ++ ys) → AreBlocks ends ys
blocks_behind ends [] ys a = a
blocks_behind ends (x ∷ xs) ys a = blocks_behind ends xs ys a.1.1

-- other blocks in the place of the last ones
pub blocks_put : (ends : LineEnds) (xs ys us : List LinedText) → AreBlocks ends (xs ++ ys) → 0 < length ys
    → AreBlocks ends us → AreBlocks ends (xs ++ us)
blocks_put ends [] ys us a l b = b
blocks_put ends (x ∷ xs) ys us a l b =
    let n = length-append xs ys in
    (a.0, (λ h. a.1.0 (omega (arith, n)), blocks_put ends xs ys us a.1.1 l b))

-- how many lines end up to behind a block
pub ends_more : (ends : LineEnds) (bs : List LinedText) (i : ℕ) (d : LinedText) → AreBlocks ends bs
    → i + 1 < length bs
    → ends_in ends (joined (take (i + 1) bs)) + 1
    ≡ ends_in ends (joined (take i bs)) + length (starts_of (get_or bs i d))
ends_more ends bs i d a l =
    let b : LinedText = get_or bs i d in
    let t : take i bs ++ drop i bs ≡ bs = take-append-drop i bs in
    let m : drop i bs ≡ b ∷ drop (i + 1) bs = drop_more bs i d (omega arith) in
    let n : length (drop i bs) ≡ length bs - i = length-drop i bs in
    let p : AreBlocks ends (take i bs ++ drop i bs) = subst (AreBlocks ends) (sym t) a in
    let w = lines_before ends (take i bs) (drop i bs) p (omega (arith, n, l)) in
    let q : AreBlocks ends (b ∷ drop (i + 1) bs) = subst (AreBlocks ends) m (blocks_behind ends (take i bs) (drop i bs)
    p) in
    let k : take (i + 1) bs ≡ take i bs ++ (b ∷ []) = take-add i 1 bs ∙ ap (λ (us : List LinedText). take i bs ++ take 1
    us) m in
    let j : joined (take (i + 1) bs) ≡ joined (take i bs) ++ (b.bytes ++ []) = ap joined k
    ∙ joined-append (take i bs) (b ∷ []) in
    let o = ends_in-append ends (joined (take i bs)) b.bytes w in
    let e : ends_in ends (joined (take (i + 1) bs)) ≡ ends_in ends (joined (take i bs) ++ b.bytes) = ap (ends_in ends)
    (j ∙ ap (λ (us : List ℕ). joined (take i bs) ++ us) (append-nil b.bytes)) in
    let s : length (starts_of b) ≡ 1 + ends_in ends b.bytes = ap (λ x. length (line_starts x b.bytes)) q.0 ∙ omega
    arith in
    omega (arith, e, o, s)

-- the block at an index
pub seam_read : (xs : List LinedText) (b : LinedText) (ys bs : List LinedText) (i : ℕ) (d : LinedText)
    → bs ≡ xs ++ (b ∷ ys) → i ≡ length xs → get_or bs i d ≡ b
seam_read xs b ys bs i d e n =
    let z : i ≡ length xs + 0 = omega (arith, n) in
    ap (λ (us : List LinedText). get_or us i d) e ∙ ap (λ k. get_or (xs ++ (b ∷ ys)) k d) z
    ∙ get_or-append-add xs (b ∷ ys) 0 d
