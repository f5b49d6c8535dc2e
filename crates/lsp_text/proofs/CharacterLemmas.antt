-- Columns, counted over bytes, are those that are counted over characters.
use Rattle.std.proofs.Common.{◌≡◌, ℕ, zero, suc, ◌+◌, ◌-◌, ◌/◌, ◌%◌, ◌<◌, ◌≤◌, ◌++◌, Bool, true, false, cond, List, []}
use Rattle.std.proofs.Common.{◌∷◌, length, get_or, refl, sym, ap, ◌∙◌, arith, inl, inr, length-append}
use Rattle.std.specs.Prelude.{nat_lt, ◌||◌}
use Rattle.std.specs.Char.{encode_utf8}
use Rattle.std.specs.Str.{encode_utf8_all}
use Rattle.std.proofs.lemmas.Str.{encode_ascii}
use Rattle.std.proofs.lemmas.Bool.{cases_lt}
use Rattle.std.proofs.lemmas.Bool.Decides.{nat_tests}
use Rattle.lsp_text.specs.declared.line_ends.LineEnds.{LineEnds}
use Rattle.lsp_text.specs.declared.line_ends.LineEnds.TheVariants.{LineFeed, Standard}
use Rattle.lsp_text.specs.declared.position.PositionEncoding.{PositionEncoding}
use Rattle.lsp_text.specs.declared.position.PositionEncoding.TheVariants.{Utf8, Utf16, Utf32}
use Rattle.lsp_text.specs.Lines.{is_break}
use Rattle.lsp_text.specs.Columns.{units, column_len, width}
use Rattle.lsp_text.specs.Characters.{character_units, characters_before, line_units}

-- each byte is a later one of a character
abbrev pub Later : List ℕ → Type 0
Later xs = (k : ℕ) → k < length xs → (128 ≤ get_or xs k 0) × (get_or xs k 0 < 192)

later_units : (e : PositionEncoding) (b : ℕ) → 128 ≤ b → b < 192 → units e b ≡ 0
later_units e b l h = grind (arith, nat_tests)

later_end : (ends : LineEnds) (b : ℕ) → 128 ≤ b → is_break ends b ≡ false
later_end LineFeed b l = grind (arith, nat_tests)
later_end Standard b l = grind (arith, nat_tests)

column-later : (ends : LineEnds) (e : PositionEncoding) (n : ℕ) (xs ys : List ℕ) → Later xs → column_len ends e n (xs
    ++ ys) ≡ length xs + column_len ends e n ys
column-later ends e n [] ys h = omega arith
column-later ends e n (x ∷ xs) ys h =
    let b = h 0 (omega arith) in
    let u : units e x ≡ 0 = later_units e x b.0 b.1 in
    let f : is_break ends x ≡ false = later_end ends x b.0 in
    let t : nat_lt n 0 ≡ false = grind (arith, nat_tests) in
    let z : n - 0 ≡ n = omega arith in
    rw (u, f, t, z, column-later ends e n xs ys (λ k l. h (suc k) (omega arith))) (omega arith)

width-later : (ends : LineEnds) (e : PositionEncoding) (xs ys : List ℕ) → Later xs → width ends e (xs ++ ys)
    ≡ width ends e ys
width-later ends e [] ys h = refl
width-later ends e (x ∷ xs) ys h =
    let b = h 0 (omega arith) in
    let u : units e x ≡ 0 = later_units e x b.0 b.1 in
    let f : is_break ends x ≡ false = later_end ends x b.0 in
    rw (u, f, width-later ends e xs ys (λ k l. h (suc k) (omega arith))) (omega arith)

-- the bytes of a character: the first one tells its units, and the others are later ones
pub record Written (ends : LineEnds) (e : PositionEncoding) (c : ℕ) (bytes : List ℕ) : Type 0 where
  pub first : ℕ
  pub rest : List ℕ
  pub is : bytes ≡ first ∷ rest
  pub units_are : units e first ≡ character_units e c
  pub breaks : is_break ends first ≡ is_break ends c
  pub later : Later rest

column-written : (ends : LineEnds) (e : PositionEncoding) (n c : ℕ) (bytes ys : List ℕ) → Written ends e c bytes
    → column_len ends e n (bytes ++ ys) ≡ cond (is_break ends c || nat_lt n (character_units e c)) 0 (length bytes +
    column_len ends e (n - character_units e c) ys)
column-written ends e n c bytes ys w =
    let z : 1 + (length w.rest + column_len ends e (n - character_units e c) ys) ≡ suc (length w.rest) + column_len ends
    e (n - character_units e c) ys = omega arith in
    rw (w.is, w.units_are, w.breaks, column-later ends e (n - character_units e c) w.rest ys w.later, z) refl

width-written : (ends : LineEnds) (e : PositionEncoding) (c : ℕ) (bytes ys : List ℕ) → Written ends e c bytes
    → width ends e (bytes ++ ys) ≡ cond (is_break ends c) 0 (character_units e c + width ends e ys)
width-written ends e c bytes ys w = rw (w.is, w.units_are, w.breaks, width-later ends e w.rest ys w.later) refl

-- the bytes of a character by its range
encode_two : (c : ℕ) → nat_lt c 128 ≡ false → nat_lt c 2048 ≡ true → encode_utf8 c ≡ (192 + c / 64)
    ∷ (128 + c % 64) ∷ []
unfolding encode_utf8
encode_two c a b = rw (a, b) refl

encode_three : (c : ℕ) → nat_lt c 128 ≡ false → nat_lt c 2048 ≡ false → nat_lt c 65536 ≡ true → encode_utf8 c
    ≡ (224 + c / 4096) ∷ (128 + c / 64 % 64) ∷ (128 + c % 64) ∷ []
unfolding encode_utf8
encode_three c a b d = rw (a, b, d) refl

encode_four : (c : ℕ) → nat_lt c 128 ≡ false → nat_lt c 2048 ≡ false → nat_lt c 65536 ≡ false → encode_utf8 c
    ≡ (240 + c / 262144) ∷ (128 + c / 4096 % 64) ∷ (128 + c / 64 % 64) ∷ (128 + c % 64) ∷ []
unfolding encode_utf8
encode_four c a b d = rw (a, b, d) refl

-- the units of a character are those that its first byte tells
units_one : (e : PositionEncoding) (c : ℕ) → c < 128 → units e c ≡ character_units e c
units_one Utf8 c h = let t : nat_lt c 128 ≡ true = grind (arith, nat_tests) in rw (t, encode_ascii c h) refl
units_one Utf16 c h = let t : nat_lt c 128 ≡ true = grind (arith, nat_tests) in let s : nat_lt c 65536
    ≡ true = grind (arith, nat_tests) in rw (t, s) refl
units_one Utf32 c h = let t : nat_lt c 128 ≡ true = grind (arith, nat_tests) in rw t refl

by_encoding : (e : PositionEncoding) (c b : ℕ) → units Utf8 b ≡ character_units Utf8 c → units Utf16 b
    ≡ character_units Utf16 c → units Utf32 b ≡ character_units Utf32 c → units e b ≡ character_units e c
by_encoding Utf8 c b x y z = x
by_encoding Utf16 c b x y z = y
by_encoding Utf32 c b x y z = z

units_two : (e : PositionEncoding) (c b : ℕ) → 128 ≤ c → c < 2048 → 192 ≤ b → b < 224 → units e b ≡ character_units e c
units_two e c b l h bl bh =
    let t : nat_lt b 128 ≡ false = grind (arith, nat_tests) in
    let u : nat_lt b 192 ≡ false = grind (arith, nat_tests) in
    let v : nat_lt b 224 ≡ true = grind (arith, nat_tests) in
    let w : nat_lt b 240 ≡ true = grind (arith, nat_tests) in
    let p : nat_lt c 128 ≡ false = grind (arith, nat_tests) in
    let q : nat_lt c 2048 ≡ true = grind (arith, nat_tests) in
    let s : nat_lt c 65536 ≡ true = grind (arith, nat_tests) in
    by_encoding e c b (rw (t, u, v, encode_two c p q) refl) (rw (t, u, w, s) refl) (rw (t, u) refl)

units_three : (e : PositionEncoding) (c b : ℕ) → 2048 ≤ c → c < 65536 → 224 ≤ b → b < 240 → units e b
    ≡ character_units e c
units_three e c b l h bl bh =
    let t : nat_lt b 128 ≡ false = grind (arith, nat_tests) in
    let u : nat_lt b 192 ≡ false = grind (arith, nat_tests) in
    let v : nat_lt b 224 ≡ false = grind (arith, nat_tests) in
    let w : nat_lt b 240 ≡ true = grind (arith, nat_tests) in
    let p : nat_lt c 128 ≡ false = grind (arith, nat_tests) in
    let q : nat_lt c 2048 ≡ false = grind (arith, nat_tests) in
    let s : nat_lt c 65536 ≡ true = grind (arith, nat_tests) in
    by_encoding e c b (rw (t, u, v, w, encode_three c p q s) refl) (rw (t, u, w, s) refl) (rw (t, u) refl)

units_four : (e : PositionEncoding) (c b : ℕ) → 65536 ≤ c → 240 ≤ b → units e b ≡ character_units e c
units_four e c b l bl =
    let t : nat_lt b 128 ≡ false = grind (arith, nat_tests) in
    let u : nat_lt b 192 ≡ false = grind (arith, nat_tests) in
    let v : nat_lt b 224 ≡ false = grind (arith, nat_tests) in
    let w : nat_lt b 240 ≡ false = grind (arith, nat_tests) in
    let p : nat_lt c 128 ≡ false = grind (arith, nat_tests) in
    let q : nat_lt c 2048 ≡ false = grind (arith, nat_tests) in
    let s : nat_lt c 65536 ≡ false = grind (arith, nat_tests) in
    by_encoding e c b (rw (t, u, v, w, encode_four c p q s) refl) (rw (t, u, w, s) refl) (rw (t, u) refl)

-- bytes from 128 on do not end a line
wide_end : (ends : LineEnds) (b c : ℕ) → 128 ≤ b → 128 ≤ c → is_break ends b ≡ is_break ends c
wide_end ends b c l h = later_end ends b l ∙ sym (later_end ends c h)

later_one : (a : ℕ) → Later ((128 + a % 64) ∷ [])
later_one a zero l = (omega arith, omega arith)
later_one a (suc k) l = absurd (omega arith)

later-cons : (a : ℕ) (xs : List ℕ) → Later xs → Later ((128 + a % 64) ∷ xs)
later-cons a xs h zero l = (omega arith, omega arith)
later-cons a xs h (suc k) l = h k (omega arith)

written : (ends : LineEnds) (e : PositionEncoding) (c : ℕ) → Written ends e c (encode_utf8 c)
written ends e c = elim (cases_lt c 128) [
  | inl h ↦ record {
    first = c;
    rest = [];
    is = encode_ascii c h;
    units_are = units_one e c h;
    breaks = refl;
    later = λ
        k l. absurd (omega arith);
  }
  | inr h ↦ elim (cases_lt c 2048) [
    | inl g ↦ (let p : nat_lt c 128 ≡ false = grind (arith, nat_tests) in
        let q : nat_lt c 2048 ≡ true = grind (arith, nat_tests) in
        record {
          first = 192 + c / 64;
          rest = (128 + c % 64) ∷ [];
          is = encode_two c p q;
          units_are = units_two e c
              (192 + c / 64) h g (omega arith) (omega arith);
          breaks = wide_end ends (192 + c / 64) c (omega arith) h;
          later = later_one c;
        })
    | inr g ↦ elim (cases_lt c 65536) [
      | inl f ↦ (let p : nat_lt c 128 ≡ false = grind (arith, nat_tests) in
          let q : nat_lt c 2048 ≡ false = grind (arith, nat_tests) in
          let s : nat_lt c 65536 ≡ true = grind (arith, nat_tests) in
          record {
            first = 224 + c / 4096;
            rest = (128 + c / 64 % 64) ∷ (128 + c % 64) ∷ [];
            is = encode_three c p q s;
            units_are = units_three e c (224 + c / 4096) g f (omega arith) (omega arith);
            breaks = wide_end ends
                (224 + c / 4096) c (omega arith) h;
            later = later-cons (c / 64) ((128 + c % 64) ∷ []) (later_one c);
          })
      | inr f ↦ (let p : nat_lt c 128 ≡ false = grind (arith, nat_tests) in
          let q : nat_lt c 2048 ≡ false = grind (arith, nat_tests) in
          let s : nat_lt c 65536 ≡ false = grind (arith, nat_tests) in
          record {
            first = 240 + c / 262144;
            rest = (128 + c / 4096 % 64) ∷ (128 + c / 64 % 64) ∷ (128 + c % 64)
                ∷ [];
            is = encode_four c p q s;
            units_are = units_four e c (240 + c / 262144) f (omega arith);
            breaks = wide_end ends (240 + c / 262144) c (omega arith) h;
            later = later-cons (c / 4096)
                ((128 + c / 64 % 64) ∷ (128 + c % 64) ∷ []) (later-cons (c / 64) ((128 + c % 64) ∷ []) (later_one c));
          })
    ]
  ]
]

cond-length : (t : Bool) (m c : ℕ) (ds : List ℕ) → m ≡ length (encode_utf8_all ds) → cond t 0 (length (encode_utf8 c) +
    m) ≡ length (encode_utf8_all (cond t [] (c ∷ ds)))
cond-length true m c ds e = refl
cond-length false m c ds e = rw e (sym (length-append (encode_utf8 c) (encode_utf8_all ds)))

-- what stands before n units
pub column_len-characters : (ends : LineEnds) (e : PositionEncoding) (n : ℕ) (cs : List ℕ) → column_len ends e n
    (encode_utf8_all cs) ≡ length (encode_utf8_all (characters_before ends e n cs))
column_len-characters ends e n [] = refl
column_len-characters ends e n (c ∷ cs) =
    column-written ends e n c (encode_utf8 c) (encode_utf8_all cs) (written ends e c) ∙
    cond-length (is_break ends c || nat_lt n (character_units e c)) (column_len ends e (n - character_units e c)
    (encode_utf8_all cs)) c (characters_before ends e (n - character_units e c) cs) (column_len-characters ends e
    (n - character_units e c) cs)

-- the units of a line
pub width-characters : (ends : LineEnds) (e : PositionEncoding) (cs : List ℕ) → width ends e (encode_utf8_all cs)
    ≡ line_units ends e cs
width-characters ends e [] = refl
width-characters ends e (c ∷ cs) =
    width-written ends e c (encode_utf8 c) (encode_utf8_all cs) (written ends e c) ∙ ap (λ n. cond (is_break ends c) 0
    (character_units e c + n)) (width-characters ends e cs)
