-- How much of a frame's bytes is its front, as they come.
use Rattle.std.proofs.Common.{◌≡◌, ◌≢◌, ℕ, zero, suc, ◌+◌, ◌-◌, ◌^◌, ◌<◌, ◌≤◌, All, nat_lt, List, [], ◌∷◌, ◌++◌, length}
use Rattle.std.proofs.Common.{take, codes, Bool, true, false, not, ◌&&◌, eqb, eq-eqb, true≢false, None, Some, Ok, refl}
use Rattle.std.proofs.Common.{sym, ap, ◌∙◌, arith, eqb-true, append_assoc, length-append, length-take-le}
use Rattle.std.proofs.lemmas.Bool.{lt-ltb, le-ltb, ltb-true, ltb-false}
use Rattle.std.proofs.lemmas.List.{take-append-le}
use Rattle.std.proofs.lemmas.List.Elements.{All-append, All-take, All-from_recursion}
use Rattle.std.specs.List.{AllByRecursion}
use Rattle.std.proofs.Math.Seq.{take-append-add}
use Rattle.std.proofs.BufReadLemmas.{take_through-append, drop_through-append}
use Rattle.std.specs.Fmt.{decimal}
use Rattle.std.specs.Io.BufRead.{take_through, drop_through}
use Rattle.memchr.specs.Find.{IsFirstByte, is_byte}
use Rattle.lsp_message.specs.Front.{front_of}
use Rattle.lsp_message.specs.HeaderPart.{header_line}
use Rattle.lsp_message.specs.Written.{frame_text}
use Rattle.lsp_message.specs.declared.frame.Front.TheVariants.{Whole, More}
use Rattle.lsp_message.specs.declared.frame.header.HeaderLine.TheVariants.{Length, Blank}
use Rattle.lsp_message.proofs.FrontSteps.{front_after, front_after-none, front_after-field, front_after-line}
use Rattle.lsp_message.proofs.FrontSteps.{at_no_feed}
use Rattle.lsp_message.proofs.ReadBack.{name, crlf, no_feed, length_line, blank_line}

-- no line feed is in the text
no_first : (text : List ℕ) → All (λ x. x ≢ 10) text → IsFirstByte (is_byte 10) text None
no_first text none k low below is = none k 0 below (eqb-true _ _ is)

-- the first line of a frame
front_header : (all n : ℕ) (t : List ℕ) → n < 2 ^ 64 → front_after all None (name ++ (decimal n ++ 13 ∷ 10 ∷ t))
    ≡ front_after all (Some n) t
front_header all n t small =
    let text = name ++ (decimal n ++ 13 ∷ 10 ∷ t) in
    let first : take_through 10 text ≡ (name ++ decimal n) ++ crlf =
    ap (λ l. name ++ l) (take_through-append 10 (decimal n) (13 ∷ 10 ∷ t) (no_feed n small))
    ∙ sym (append_assoc name (decimal n) crlf) in
    let left : drop_through 10 text ≡ t = drop_through-append 10 (decimal n) (13 ∷ 10 ∷ t) (no_feed n small) in
    front_after-field all None 67 (codes "ontent-Length: " ++ (decimal n ++ 13 ∷ 10 ∷ t)) (Ok (Length n))
    (ap header_line first ∙ length_line n small) refl ∙ ap (front_after all (Some n)) left

-- whether no byte is a line feed
abbrev is_plain : List ℕ → Bool
is_plain [] = true
is_plain (x ∷ xs) = not (eqb x 10) && is_plain xs

plain_all : (xs : List ℕ) → is_plain xs ≡ true → AllByRecursion (λ x. x ≢ 10) xs
plain_all [] plain = tt
plain_all (x ∷ xs) plain = at (eqb x 10) refl plain (plain_all xs)
  where
    at : (b : Bool) → eqb x 10 ≡ b → (not b && is_plain xs) ≡ true → (is_plain xs ≡ true → AllByRecursion (λ x. x ≢ 10)
        xs) → (x ≢ 10) × AllByRecursion (λ x. x ≢ 10) xs
    at true e plain more = absurd (cc)
    at false e plain more = (λ is. true≢false (sym (eq-eqb x 10 is) ∙ e), more plain)

-- the first line of a frame without its end
abbrev stem : ℕ → List ℕ
stem n = (name ++ decimal n) ++ 13 ∷ []

stem_plain : (n : ℕ) → n < 2 ^ 64 → All (λ x. x ≢ 10) (stem n)
stem_plain n small =
    let feed : ℕ → Type 0 = λ x. x ≢ 10 in
    All-append feed (name ++ decimal n) (13 ∷ []) (All-append feed name (decimal n) (All-from_recursion feed name
    (plain_all name refl)) (no_feed n small))
    (All-from_recursion feed (13 ∷ []) (plain_all (13 ∷ []) refl))

-- what stands after the first line
abbrev tail : List ℕ → List ℕ
tail body = 13 ∷ 10 ∷ body

frame_stem : (body : List ℕ) → frame_text body ≡ stem (length body) ++ (10 ∷ tail body)
frame_stem body = sym (append_assoc name (decimal (length body)) (13 ∷ 10 ∷ tail body))
    ∙ sym (append_assoc (name ++ decimal (length body)) (13 ∷ []) (10 ∷ tail body))

in_first_line : (body : List ℕ) (k : ℕ) → length body < 2 ^ 64 → k ≤ length (stem (length body))
    → front_of (take k (frame_text body)) ≡ More
in_first_line body k small within =
    let line = stem (length body) in
    let part : take k (frame_text body) ≡ take k line = ap (take k) (frame_stem body) ∙ take-append-le k line (10
    ∷ tail body) within in
    ap front_of part ∙ front_after-none (take k line)
    ∙ at_no_feed (length (take k line)) None (take k line) (no_first (take k line) (All-take (λ x. x ≢ 10) k line
    (stem_plain (length body) small)))

after_first_line : (all n j : ℕ) (body : List ℕ) → n ≡ length body → j < suc (suc n) → front_after all (Some n)
    (take j (tail body)) ≡ More
after_first_line all n zero body is within = refl
after_first_line all n (suc zero) body is within = at_no_feed all (Some n) (13 ∷ []) (no_first (13 ∷ [])
    (All-from_recursion (λ x. x ≢ 10) (13 ∷ []) (plain_all (13 ∷ []) refl)))
after_first_line all n (suc (suc i)) body is within =
    let short : length (take i body) < n = omega (arith, length-take-le i body (omega arith)) in
    front_after-line all (Some n) 13 (10 ∷ take i body) (Ok Blank) blank_line refl refl ∙ rw (lt-ltb _ _ short) refl

frame_line : (body : List ℕ) → frame_text body ≡ ((name ++ decimal (length body)) ++ crlf) ++ tail body
frame_line body = sym (append_assoc name (decimal (length body)) (13 ∷ 10 ∷ tail body))
    ∙ sym (append_assoc (name ++ decimal (length body)) crlf (tail body))

past_first_line : (body : List ℕ) (j : ℕ) → length body < 2 ^ 64 → j < suc (suc (length body))
    → front_of (take (length ((name ++ decimal (length body)) ++ crlf) + j) (frame_text body)) ≡ More
past_first_line body j small within =
    let n = length body in
    let line = (name ++ decimal n) ++ crlf in
    let t = take j (tail body) in
    let part : take (length line + j) (frame_text body) ≡ name ++ (decimal n ++ 13 ∷ 10 ∷ t) =
    ap (take (length line + j)) (frame_line body) ∙ take-append-add line (tail body) j ∙ append_assoc (name
    ++ decimal n) crlf t ∙ append_assoc name (decimal n) (13 ∷ 10 ∷ t) in
    let all = length (name ++ (decimal n ++ 13 ∷ 10 ∷ t)) in
    ap front_of part ∙ front_after-none (name ++ (decimal n ++ 13 ∷ 10 ∷ t)) ∙ front_header all n t small
    ∙ after_first_line all n j body refl within

-- a part of a frame
pub front_of-part : (body : List ℕ) (k : ℕ) → length body < 2 ^ 64 → k < length (frame_text body)
    → front_of (take k (frame_text body)) ≡ More
front_of-part body k small within = at (nat_lt (length (stem (length body))) k) refl
  where
    at : (b : Bool) → nat_lt (length (stem (length body))) k ≡ b → front_of (take k (frame_text body)) ≡ More
    at false early = in_first_line body k small (ltb-false _ _ early)
    at true late =
        let n = length body in
        let line = (name ++ decimal n) ++ crlf in
        let past : length (stem n) < k = ltb-true _ _ late in
        let longer : length line ≡ length (stem n) + 1 = omega (
          arith,
          length-append (name ++ decimal n) crlf,
          length-append (name ++ decimal n) (13 ∷ []),
        ) in
        let whole : length (frame_text body) ≡ length line + (2 + n) = ap length (frame_line body) ∙ length-append line
        (tail body) ∙ ap (λ m. length line + m) (omega arith) in
        let sum : length line + (k - length line) ≡ k = omega arith in
        ap (λ m. front_of (take m (frame_text body))) (sym sum) ∙ past_first_line body (k - length line) small
        (omega arith)

-- a whole frame, and what follows it
pub front_of-whole : (body rest : List ℕ) → length body < 2 ^ 64 → front_of (frame_text body ++ rest)
    ≡ Whole (length (frame_text body))
front_of-whole body rest small =
    let n = length body in
    let all = length (frame_text body ++ rest) in
    let joined : frame_text body ++ rest ≡ name ++ (decimal n ++ 13 ∷ 10 ∷ 13 ∷ 10 ∷ (body ++ rest)) = ap (λ l. name
    ++ l) (append_assoc (decimal n) (13 ∷ 10 ∷ 13 ∷ 10 ∷ body) rest) in
    let long : nat_lt (length (body ++ rest)) n ≡ false = le-ltb _ _ (omega (arith, length-append body rest)) in
    let size : all - (length (body ++ rest) - n) ≡ length (frame_text body) = omega (
      arith,
      length-append (frame_text body) rest,
      length-append body rest,
    ) in
    front_after-none (frame_text body ++ rest) ∙ ap (front_after all None) joined ∙ front_header all n (13 ∷ 10
    ∷ (body ++ rest)) small
    ∙ front_after-line all (Some n) 13 (10 ∷ (body ++ rest)) (Ok Blank) blank_line refl refl ∙ rw long (ap Whole size)
