-- The starts of lines of a text that is made of parts, and of a text with a part replaced.
use Rattle.std.proofs.Common.{◌≡◌, ℕ, zero, suc, ◌+◌, ◌-◌, ◌<◌, ◌≤◌, ◌++◌, Bool, true, false, cond, List, [], ◌∷◌}
use Rattle.std.proofs.Common.{length, get_or, set, take, drop, map, refl, sym, ap, ◌∙◌, arith, append_assoc}
use Rattle.std.proofs.Common.{length-append, take-add, ◌^◌, length-drop, inl, inr}
use Rattle.std.proofs.lemmas.List.{get_or-take, set-append_right, length-map, get_or_default, get_or-drop, drop_more}
use Rattle.std.proofs.lemmas.List.{get_or_append_left, get_or-append_right, take-append-drop, length-take-le, take_at}
use Rattle.std.proofs.lemmas.List.{drop_at}
use Rattle.std.proofs.lemmas.List.Edits.{map_over_more}
use Rattle.std.proofs.lemmas.Bool.{cases_lt}
use Rattle.lsp_text.specs.declared.line_ends.LineEnds.{LineEnds}
use Rattle.lsp_text.specs.Lines.{ends_line, starts_in, line_starts}

-- a step of a walk over the bytes
pub starts_more : (ends : LineEnds) (at i : ℕ) (xs : List ℕ) (next : ℕ) → i < length xs → starts_in ends (at + i)
    (drop i xs) next ≡ cond (ends_line ends (get_or xs i 0) (get_or xs (i + 1) next)) ((at + i + 1)
    ∷ starts_in ends (at + (i + 1)) (drop (i + 1) xs) next) (starts_in ends (at + (i + 1)) (drop (i + 1) xs) next)
starts_more ends at i xs next l =
    let e : at + (i + 1) ≡ at + i + 1 = omega arith in
    let f : get_or (drop (i + 1) xs) 0 next ≡ get_or xs (i + 1) next = (let z : i + 1 + 0 ≡ i + 1 = omega arith in rw z
    at (get_or-drop (i + 1) xs 0 next)) in
    rw (e, drop_more xs i 0 l, f) refl

pub push_more : (ends : LineEnds) (was now : List ℕ) (at i : ℕ) (xs : List ℕ) (next after : ℕ) (r : Bool)
    → i < length xs → after ≡ get_or xs (i + 1) next → r ≡ ends_line ends (get_or xs i 0) after → r ≡ true → now ≡ was
    ++ (at + i + 1) ∷ [] → now ++ starts_in ends (at + (i + 1)) (drop (i + 1) xs) next ≡ was ++ starts_in ends (at + i)
    (drop i xs) next
push_more ends was now at i xs next after r l a e t n =
    let f : ends_line ends (get_or xs i 0) (get_or xs (i + 1) next) ≡ true = rw (← a) (sym e ∙ t) in
    rw (starts_more ends at i xs next l, f, n) (append_assoc was ((at + i + 1) ∷ []) _)

pub skip_more : (ends : LineEnds) (was now : List ℕ) (at i : ℕ) (xs : List ℕ) (next after : ℕ) (r : Bool)
    → i < length xs → after ≡ get_or xs (i + 1) next → r ≡ ends_line ends (get_or xs i 0) after → r ≡ false → now ≡ was
    → now ++ starts_in ends (at + (i + 1)) (drop (i + 1) xs) next ≡ was ++ starts_in ends (at + i) (drop i xs) next
skip_more ends was now at i xs next after r l a e t n =
    let f : ends_line ends (get_or xs i 0) (get_or xs (i + 1) next) ≡ false = rw (← a) (sym e ∙ t) in
    rw (starts_more ends at i xs next l, f, n) refl

first_of : (xs ys : List ℕ) (n : ℕ) → get_or (xs ++ ys) 0 n ≡ get_or xs 0 (get_or ys 0 n)
first_of [] ys n = refl
first_of (x ∷ xs) ys n = refl

cond-append : (b : Bool) (x : ℕ) (xs ys : List ℕ) → cond b (x ∷ (xs ++ ys)) (xs ++ ys) ≡ cond b (x ∷ xs) xs ++ ys
cond-append true x xs ys = refl
cond-append false x xs ys = refl

-- the starts of two parts, one behind the other
pub starts_in-append : (ends : LineEnds) (i : ℕ) (xs ys : List ℕ) (n : ℕ) → starts_in ends i (xs ++ ys) n
    ≡ starts_in ends i xs (get_or ys 0 n) ++ starts_in ends (i + length xs) ys n
starts_in-append ends i [] ys n = let e : i + 0 ≡ i = omega arith in rw e refl
starts_in-append ends i (x ∷ xs) ys n =
    let e : i + suc (length xs) ≡ i + 1 + length xs = omega arith in
    rw (e, first_of xs ys n, starts_in-append ends (i + 1) xs ys n) (cond-append (ends_line ends x
    (get_or xs 0 (get_or ys 0 n))) (i + 1) (starts_in ends (i + 1) xs (get_or ys 0 n)) (starts_in ends
    (i + 1 + length xs) ys n))

-- each of the numbers lies above low, and is at most high
abbrev pub Between : ℕ → ℕ → List ℕ → Type 0
Between low high ss = (k : ℕ) → k < length ss → (low < get_or ss k 0) × (get_or ss k 0 ≤ high)

between-cons : (low high s : ℕ) (ss : List ℕ) → low < s → s ≤ high → Between low high ss → Between low high (s ∷ ss)
between-cons low high s ss l h b zero k = (l, h)
between-cons low high s ss l h b (suc n) k = b n (omega arith)

between-cond : (low high s : ℕ) (ss : List ℕ) (t : Bool) → low < s → s ≤ high → Between low high ss → Between low high
    (cond t (s ∷ ss) ss)
between-cond low high s ss true l h b = between-cons low high s ss l h b
between-cond low high s ss false l h b = b

-- starts lie behind the place where the bytes begin, and at most at their end
pub starts_in-between : (ends : LineEnds) (i : ℕ) (xs : List ℕ) (n : ℕ) → Between i (i + length xs)
    (starts_in ends i xs n)
starts_in-between ends i [] n = λ k l. absurd (omega arith)
starts_in-between ends i (x ∷ xs) n =
    between-cond i (i + suc (length xs)) (i + 1) (starts_in ends (i + 1) xs n) (ends_line ends x (get_or xs 0 n))
    (omega arith) (omega arith)
    (λ k l. let b = starts_in-between ends (i + 1) xs n k l in (omega (arith, b.0), omega (arith, b.1)))

-- each of the numbers is above the one before it
abbrev Rising : List ℕ → Type 0
Rising ss = (i j : ℕ) → i < j → j < length ss → get_or ss i 0 < get_or ss j 0

rising-cons : (s high : ℕ) (ss : List ℕ) → Between s high ss → Rising ss → Rising (s ∷ ss)
rising-cons s high ss b o i zero le l = absurd (omega arith)
rising-cons s high ss b o zero (suc j) le l = (b j (omega arith)).0
rising-cons s high ss b o (suc i) (suc j) le l = o i j (omega arith) (omega arith)

rising-cond : (s high : ℕ) (ss : List ℕ) (t : Bool) → Between s high ss → Rising ss → Rising (cond t (s ∷ ss) ss)
rising-cond s high ss true b o = rising-cons s high ss b o
rising-cond s high ss false b o = o

starts_in-rising : (ends : LineEnds) (i : ℕ) (xs : List ℕ) (n : ℕ) → Rising (starts_in ends i xs n)
starts_in-rising ends i [] n = λ a b le l. absurd (omega arith)
starts_in-rising ends i (x ∷ xs) n =
    rising-cond (i + 1) (i + 1 + length xs) (starts_in ends (i + 1) xs n) (ends_line ends x (get_or xs 0 n))
    (starts_in-between ends (i + 1) xs n) (starts_in-rising ends (i + 1) xs n)

pub line_starts-rising : (ends : LineEnds) (xs : List ℕ) → Rising (line_starts ends xs)
line_starts-rising ends xs = rising-cons 0 (0 + length xs) (starts_in ends 0 xs 0) (starts_in-between ends 0 xs 0)
    (starts_in-rising ends 0 xs 0)

-- the numbers are in order
abbrev pub InOrder : List ℕ → Type 0
InOrder ss = (i j : ℕ) → i ≤ j → j < length ss → get_or ss i 0 ≤ get_or ss j 0

pub line_starts-order : (ends : LineEnds) (xs : List ℕ) → InOrder (line_starts ends xs)
line_starts-order ends xs i j le l =
    elim (cases_lt i j) [
      | inl h ↦ (let r = line_starts-rising ends xs i j h l in omega (arith, r))
      | inr h ↦ (let e : i ≡ j = omega arith in
          let g : get_or (line_starts ends xs) i 0 ≡ get_or (line_starts ends xs) j 0 = ap (λ k. get_or (line_starts
          ends xs) k 0) e in omega (arith, g))
    ]

cond-map : (f : ℕ → ℕ) (t : Bool) (a b : ℕ) (xs ys : List ℕ) → f a ≡ b → map f xs ≡ ys → map f (cond t (a ∷ xs) xs)
    ≡ cond t (b ∷ ys) ys
cond-map f true a b xs ys e es = cc
cond-map f false a b xs ys e es = es

moved_by : (ends : LineEnds) (i j d : ℕ) (xs : List ℕ) (n : ℕ) → map (λ s. s - i + j) (starts_in ends (i + d) xs n)
    ≡ starts_in ends (j + d) xs n
moved_by ends i j d [] n = refl
moved_by ends i j d (x ∷ xs) n =
    let e : i + d + 1 ≡ i + (d + 1) = omega arith in
    let f : j + d + 1 ≡ j + (d + 1) = omega arith in
    rw (e, f) (cond-map (λ s. s - i + j) (ends_line ends x (get_or xs 0 n)) (i + (d + 1)) (j + (d + 1)) (starts_in ends
    (i + (d + 1)) xs n) (starts_in ends (j + (d + 1)) xs n) (omega arith) (moved_by ends i j (d + 1) xs n))

-- the same bytes at another place
pub starts_in-moved : (ends : LineEnds) (i j : ℕ) (xs : List ℕ) (n : ℕ) → map (λ s. s - i + j) (starts_in ends i xs n)
    ≡ starts_in ends j xs n
starts_in-moved ends i j xs n =
    let e : i + 0 ≡ i = omega arith in
    let f : j + 0 ≡ j = omega arith in
    rw (e, f) at (moved_by ends i j 0 xs n)

-- where a list of numbers in order is cut at a place
pub cut_at : (place k : ℕ) (ls hs ss : List ℕ) → ss ≡ ls ++ hs → ((i : ℕ) → i < length ls → get_or ls i 0 ≤ place)
    → ((i : ℕ) → i < length hs → place < get_or hs i 0) →
    ((i : ℕ) → i < k → get_or ss i 0 ≤ place) → ((i : ℕ) → k ≤ i → i < length ss → place < get_or ss i 0)
    → k ≤ length ss → k ≡ length ls
cut_at place k ls hs ss p la lb below above within =
    let n : length ss ≡ length ls + length hs = ap length p ∙ length-append ls hs in
    elim (cases_lt k (length ls)) [
      | inl h ↦ (let a = above k (omega arith) (omega arith) in
          let e : get_or ss k 0 ≡ get_or ls k 0 = ap (λ (zs : List ℕ). get_or zs k 0) p ∙ get_or_append_left ls hs
          0 k h in
          let b = la k h in absurd (omega (arith, a, b)))
      | inr h ↦ elim (cases_lt (length ls) k) [
        | inl g ↦ (let a = below (length ls) g in
            let z : length ls - length ls ≡ 0 = omega arith in
            let e : get_or ss (length ls) 0 ≡ get_or hs 0 0 = ap (λ (zs : List ℕ). get_or zs (length ls) 0) p
            ∙ (rw z at (get_or-append_right ls hs (length ls) (length ls) 0 refl (omega arith))) in
            let b = lb 0 (omega arith) in absurd (omega (arith, a, b)))
        | inr g ↦ omega arith
      ]
    ]

pub first_of_drop : (i : ℕ) (xs : List ℕ) → get_or (drop i xs) 0 0 ≡ get_or xs i 0
first_of_drop i xs = let e : i + 0 ≡ i = omega arith in rw e at (get_or-drop i xs 0 0)

up_to : (high : ℕ) (ss : List ℕ) → ((j : ℕ) → j < length ss → get_or ss j 0 ≤ high) → (j : ℕ) → j < length (0 ∷ ss)
    → get_or (0 ∷ ss) j 0 ≤ high
up_to high ss b zero l = omega arith
up_to high ss b (suc j) l = b j (omega arith)

-- the starts up to a place of a text, and those behind it
pub line_starts-cut : (ends : LineEnds) (i k : ℕ) (xs ss : List ℕ) → ss ≡ line_starts ends xs → i ≤ length xs →
    ((j : ℕ) → j < k → get_or ss j 0 ≤ i) → ((j : ℕ) → k ≤ j → j < length ss → i < get_or ss j 0) → k ≤ length ss →
    (take k ss ≡ 0 ∷ starts_in ends 0 (take i xs) (get_or xs i 0)) × (drop k ss ≡ starts_in ends i (drop i xs) 0)
line_starts-cut ends i k xs ss is l below above within =
    let ls : List ℕ = 0 ∷ starts_in ends 0 (take i xs) (get_or xs i 0) in
    let hs : List ℕ = starts_in ends i (drop i xs) 0 in
    let t : take i xs ++ drop i xs ≡ xs = take-append-drop i xs in
    let n : length (take i xs) ≡ i = length-take-le i xs l in
    let n0 : 0 + length (take i xs) ≡ i = omega arith in
    let f : get_or (drop i xs) 0 0 ≡ get_or xs i 0 = first_of_drop i xs in
    let a : starts_in ends 0 (take i xs ++ drop i xs) 0 ≡ starts_in ends 0 (take i xs) (get_or xs i 0) ++ hs =
    rw (n0, f) at (starts_in-append ends 0 (take i xs) (drop i xs) 0) in
    let p : ss ≡ ls ++ hs = is ∙ ap (λ (ys : List ℕ). 0 ∷ ys) (rw t at a) in
    let bl = starts_in-between ends 0 (take i xs) (get_or xs i 0) in
    let bh = starts_in-between ends i (drop i xs) 0 in
    let c : k ≡ length ls = cut_at i k ls hs ss p (up_to i (starts_in ends 0 (take i xs) (get_or xs i 0))
    (λ j h. let b = bl j h in omega (arith, b.1)))
    (λ j h. let b = bh j h in omega (arith, b.0)) below above within in
    (rw p (take_at ls hs k (sym c)), rw p (drop_at ls hs k (sym c)))

-- the byte that follows the first p bytes is the same after the edit
follows_same : (ends : LineEnds) (i p : ℕ) (xs : List ℕ) (f : ℕ) → i ≤ length xs → p ≡ i - 1 → starts_in ends 0
    (take p xs) (get_or (take (i - p) (drop p xs)) 0 f) ≡ starts_in ends 0 (take p xs) (get_or xs p 0)
follows_same ends i zero xs f l e = refl
follows_same ends i (suc p) xs f l e =
    let z : suc p + 0 ≡ suc p = omega arith in
    let h : 0 < i - suc p = omega arith in
    let a : get_or (take (i - suc p) (drop (suc p) xs)) 0 f ≡ get_or (drop (suc p) xs) 0 f = get_or-take (i - suc p)
    (drop (suc p) xs) 0 f h in
    let b : get_or (drop (suc p) xs) 0 f ≡ get_or xs (suc p) f = (rw z at (get_or-drop (suc p) xs 0 f)) in
    let c : get_or xs (suc p) f ≡ get_or xs (suc p) 0 = get_or_default xs (suc p) f 0 (omega arith) in
    ap (λ n. starts_in ends 0 (take (suc p) xs) n) (a ∙ b ∙ c)

-- the starts of a text in which the bytes ys take the place of those from i to j
pub line_starts-replaced : (ends : LineEnds) (i j p : ℕ) (xs ys kept tail : List ℕ) → i ≤ j → j ≤ length xs → p
    ≡ i - 1 →
    kept ≡ 0 ∷ starts_in ends 0 (take p xs) (get_or xs p 0) → tail ≡ starts_in ends j (drop j xs) 0 →
    ((kept ++ starts_in ends p (take (i - p) (drop p xs)) (get_or ys 0 (get_or xs j 0))) ++ starts_in ends i ys
    (get_or xs j 0)) ++ map (λ s. s - j + (i + length ys)) tail ≡ line_starts ends ((take i xs ++ ys) ++ drop j xs)
line_starts-replaced ends i j p xs ys kept tail ij jl pi k t =
    let f2 : ℕ = get_or xs j 0 in
    let f1 : ℕ = get_or ys 0 f2 in
    let q : List ℕ = take (i - p) (drop p xs) in
    let len : length (take i xs) ≡ i = length-take-le i xs (omega arith) in
    let plen : 0 + length (take p xs) ≡ p = (let h = length-take-le p xs (omega arith) in omega (arith, h)) in
    let ilen : 0 + length (take i xs) ≡ i = omega arith in
    let both : 0 + length (take i xs ++ ys) ≡ i + length ys = (let h = length-append (take i xs) ys in omega
    (arith, h)) in
    let first : get_or (drop j xs) 0 0 ≡ f2 = first_of_drop j xs in
    let cut : take i xs ≡ take p xs ++ q = (let e : p + (i - p) ≡ i = omega arith in rw e at (take-add p (i - p) xs)) in
    let a : starts_in ends 0 ((take i xs ++ ys) ++ drop j xs) 0 ≡ starts_in ends 0 (take i xs ++ ys) f2
    ++ starts_in ends (i + length ys) (drop j xs) 0 =
    rw (both, first) at (starts_in-append ends 0 (take i xs ++ ys) (drop j xs) 0) in
    let b : starts_in ends 0 (take i xs ++ ys) f2 ≡ starts_in ends 0 (take i xs) f1 ++ starts_in ends i ys f2 = rw ilen
    at (starts_in-append ends 0 (take i xs) ys f2) in
    let c : starts_in ends 0 (take p xs ++ q) f1 ≡ starts_in ends 0 (take p xs) (get_or q 0 f1) ++ starts_in ends p q
    f1 = rw plen at (starts_in-append ends 0 (take p xs) q f1) in
    let d : starts_in ends 0 (take p xs) (get_or q 0 f1) ≡ starts_in ends 0 (take p xs) (get_or xs p 0) = follows_same
    ends i p xs f1 (omega arith) pi in
    let e : starts_in ends 0 (take i xs) f1 ≡ starts_in ends 0 (take p xs ++ q) f1 = ap (λ (zs : List ℕ). starts_in ends
    0 zs f1) cut in
    let m : map (λ s. s - j + (i + length ys)) tail ≡ starts_in ends (i + length ys) (drop j xs) 0 = ap
    (map (λ s. s - j + (i + length ys))) t ∙ starts_in-moved ends j (i + length ys) (drop j xs) 0 in
    let s : starts_in ends 0 ((take i xs ++ ys) ++ drop j xs) 0 ≡ ((starts_in ends 0 (take p xs) (get_or xs p 0)
    ++ starts_in ends p q f1) ++ starts_in ends i ys f2) ++ starts_in ends (i + length ys) (drop j xs) 0 = cc in
    rw (m, k) (ap (λ (zs : List ℕ). 0 ∷ zs) (sym s))

-- the moved starts fit if the edited text does
pub moved_fit : (ends : LineEnds) (from to m : ℕ) (xs tail : List ℕ) → tail ≡ starts_in ends to (drop to xs) 0
    → from ≤ to → to ≤ length xs → length xs + m < 2 ^ 64 →
    (k : ℕ) → k < length tail → (to ≤ get_or tail k 0) × (get_or tail k 0 - to + (from + m) < 2 ^ 64)
moved_fit ends from to m xs tail t ft tl fits k l =
    let n : length (starts_in ends to (drop to xs) 0) ≡ length tail = ap length (sym t) in
    let b = starts_in-between ends to (drop to xs) 0 k (omega arith) in
    let e : get_or tail k 0 ≡ get_or (starts_in ends to (drop to xs) 0) k 0 = ap (λ (zs : List ℕ). get_or zs k 0) t in
    let d : length (drop to xs) ≡ length xs - to = length-drop to xs in
    (omega (arith, b.0), omega (arith, b.1))

-- a line begins within the text
pub line_starts-within : (ends : LineEnds) (xs : List ℕ) (k : ℕ) → k < length (line_starts ends xs)
    → get_or (line_starts ends xs) k 0 ≤ length xs
line_starts-within ends xs zero l = omega arith
line_starts-within ends xs (suc k) l = let b = starts_in-between ends 0 xs 0 k (omega arith) in omega (arith, b.1)

pub begins_within : (ends : LineEnds) (xs ss : List ℕ) (k : ℕ) → ss ≡ line_starts ends xs → k < length ss
    → get_or ss k 0 ≤ length xs
begins_within ends xs ss k e l = rw e (line_starts-within ends xs k (let h = ap length e in omega (arith, h, l)))

-- one more of the numbers behind the first ones is changed in place
pub move_more : (f : ℕ → ℕ) (old ys : List ℕ) (first i : ℕ) → first ≤ i → i < length old →
    ys ≡ take first old ++ (map f (take (i - first) (drop first old)) ++ drop (i - first) (drop first old)) →
    set ys i (f (get_or ys i 0)) ≡ take first old ++ (map f (take (i + 1 - first) (drop first old))
    ++ drop (i + 1 - first) (drop first old))
move_more f old ys first i fi il e =
    let rs : List ℕ = drop first old in
    let j : ℕ = i - first in
    let zs : List ℕ = map f (take j rs) ++ drop j rs in
    let tl : length (take first old) ≡ first = length-take-le first old (omega arith) in
    let rl : length rs ≡ length old - first = length-drop first old in
    let jl : length (take j rs) ≡ j = length-take-le j rs (omega arith) in
    let ml : length (map f (take j rs)) ≡ length (take j rs) = length-map (take j rs) f in
    let dl : length (drop j rs) ≡ length rs - j = length-drop j rs in
    let zl : length zs ≡ length (map f (take j rs)) + length (drop j rs) = length-append (map f (take j rs))
    (drop j rs) in
    let x : ℕ = get_or ys i 0 in
    let read : x ≡ get_or zs j 0 = ap (λ (us : List ℕ). get_or us i 0) e ∙ get_or-append_right (take first old) zs first
    i 0 tl fi in
    let same : x ≡ get_or zs j x = read ∙ get_or_default zs j 0 x (omega arith) in
    let more : set zs j (f x) ≡ map f (take (j + 1) rs) ++ drop (j + 1) rs = map_over_more f rs zs j x (omega arith)
    refl same in
    let z : j + 1 ≡ i + 1 - first = omega arith in
    ap (λ (us : List ℕ). set us i (f x)) e ∙ set-append_right (take first old) zs first i (f x) tl fi
    ∙ ap (λ (us : List ℕ). take first old ++ us) (rw z at more)

-- where the numbers that were put in end
pub put-cut : (ks bs ts : List ℕ) → (take (length ks + length bs) (ks ++ (bs ++ ts)) ≡ ks ++ bs)
    × (drop (length ks + length bs) (ks ++ (bs ++ ts)) ≡ ts)
put-cut ks bs ts =
    let l : length (ks ++ bs) ≡ length ks + length bs = length-append ks bs in
    let a : (ks ++ bs) ++ ts ≡ ks ++ (bs ++ ts) = append_assoc ks bs ts in (
      rw a at (take_at (ks ++ bs) ts (length ks + length bs) l),
      rw a at (drop_at (ks ++ bs) ts (length ks + length bs) l),
    )

-- the numbers behind those that were put in are the ones that were there
pub put-behind : (ks bs ts ps : List ℕ) (first : ℕ) → ps ≡ ks ++ (bs ++ ts) → first ≡ length ks + length bs
    → (take first ps ≡ ks ++ bs) × (drop first ps ≡ ts)
put-behind ks bs ts ps first e f = rw (e, f) (put-cut ks bs ts)

-- those that are to be moved fit
pub behind_fit : (ends : LineEnds) (first from to m : ℕ) (xs tail ps : List ℕ) → drop first ps ≡ tail → tail
    ≡ starts_in ends to (drop to xs) 0 → from ≤ to → to ≤ length xs → length xs + m < 2 ^ 64 →
    (k : ℕ) → first ≤ k → k < length ps → (to ≤ get_or ps k 0) × (get_or ps k 0 - to + (from + m) < 2 ^ 64)
behind_fit ends first from to m xs tail ps d t ft tl fits k fk l =
    let n : length tail ≡ length ps - first = ap length (sym d) ∙ length-drop first ps in
    let z : first + (k - first) ≡ k = omega arith in
    let e : get_or tail (k - first) 0 ≡ get_or ps k 0 = ap (λ (zs : List ℕ). get_or zs (k - first) 0) (sym d)
    ∙ (rw z at (get_or-drop first ps (k - first) 0)) in
    let f = moved_fit ends from to m xs tail t ft tl fits (k - first) (omega arith) in
    (omega (arith, e, f.0), omega (arith, e, f.1))
