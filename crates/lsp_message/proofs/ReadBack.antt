-- A frame that was written reads back.
use Rattle.std.proofs.Common.{◌≡◌, ◌≢◌, ℕ, nat_lt, false, ◌-◌, ◌^◌, ◌<◌, ◌≤◌, All, true, nat_eq, List, [], ◌∷◌, ◌++◌}
use Rattle.std.proofs.Common.{length, take, get_or, codes, Some, None, Ok, refl, sym, ap, ◌∙◌, arith, append_assoc}
use Rattle.std.proofs.Common.{length-append}
use lib.Utf8.{encode}
use lib.Seq.{take-append_seam, drop-append_seam}
use Rattle.std.proofs.lemmas.Bool.{lt-ltb, le-ltb}
use Rattle.std.proofs.lemmas.Fmt.{digits_decimal, decimal_is_IsNumeral, decimal_nonempty, IsAscii-decimal}
use Rattle.std.proofs.lemmas.List.{get_or_default}
use Rattle.std.proofs.lemmas.Str.{IsUtf8-append, IsUtf8-from_ascii, IsUtf8-from_is_utf8, is_utf8-from_IsUtf8}
use Rattle.std.proofs.lemmas.Str.Parse.{digit_at, without_leading_plus_none}
use Rattle.std.proofs.BufReadLemmas.{take_through-append, drop_through-append}
use Rattle.std.specs.Fmt.{decimal}
use Rattle.std.specs.Io.BufRead.{take_through, drop_through}
use Rattle.std.specs.List.{ends_with}
use Rattle.std.specs.Str.{IsUtf8, is_utf8, chars}
use Rattle.lsp_message.specs.Frame.{body_means, content_of, of_content}
use Rattle.lsp_message.specs.HeaderPart.{number, header_line, header_of}
use Rattle.lsp_message.specs.Messages.{Begins}
use Rattle.lsp_message.specs.Message.{Message}
use Rattle.lsp_message.specs.Reading.{Reading}
use Rattle.lsp_message.specs.Written.{frame_text}
use Rattle.lsp_message.specs.declared.frame.header.HeaderLine.TheVariants.{Length, Blank}
use Rattle.lsp_message.proofs.HeaderSteps.{header_after, header_after-none, after_field, at_line}
use Rattle.lsp_message.proofs.Numerals.{own}

in_digits : (n : ℕ) → n < 2 ^ 64 → (i : ℕ) → i < length (decimal n) → (48 ≤ get_or (decimal n) i 0)
    × (get_or (decimal n) i 0 ≤ 57)
in_digits n small i below = digit_at (decimal n) i (decimal_is_IsNumeral n small).0.1 below

number-decimal : (n : ℕ) → n < 2 ^ 64 → number (decimal n) ≡ Some n
number-decimal n small =
    let some : 0 < length (decimal n) = decimal_nonempty n small in
    let plain = without_leading_plus_none (decimal n) (λ plus. let low = (in_digits n small 0 some).0 in omega arith) in
    let value = (decimal_is_IsNumeral n small).1 in
    let fits = lt-ltb n (2 ^ 64) small in
    rw (plain, lt-ltb 0 (length (decimal n)) some, digits_decimal own n small, value, fits) refl

pub no_feed : (n : ℕ) → n < 2 ^ 64 → All (λ x. x ≢ 10) (decimal n)
no_feed n small = λ k d below feed. let low = (in_digits n small k below).0 in absurd (omega (
  arith,
  get_or_default (decimal n) k 0 d below,
))

abbrev pub name : List ℕ
name = codes "Content-Length: "

abbrev pub crlf : List ℕ
crlf = 13 ∷ 10 ∷ []

name_is_text : IsUtf8 name
unfolding is_utf8 chars encode
name_is_text = IsUtf8-from_is_utf8 name refl

crlf_is_text : IsUtf8 crlf
unfolding is_utf8 chars encode
crlf_is_text = IsUtf8-from_is_utf8 crlf refl

-- a line of a text and its end
ended : (text : List ℕ) → (ends_with nat_eq (text ++ crlf) crlf ≡ true) × (take (length (text ++ crlf) - 2) (text
    ++ crlf) ≡ text)
ended text =
    let long : length (text ++ crlf) - 2 ≡ length text = omega (arith, length-append text crlf) in
    (rw (long, drop-append_seam text crlf) refl, ap (λ n. take n (text ++ crlf)) long ∙ take-append_seam text crlf)

pub length_line : (n : ℕ) → n < 2 ^ 64 → header_line ((name ++ decimal n) ++ crlf) ≡ Ok (Length n)
length_line n small =
    let digits = IsUtf8-from_ascii (decimal n) (IsAscii-decimal n small) in
    let text = is_utf8-from_IsUtf8 _ (IsUtf8-append (name ++ decimal n) crlf (IsUtf8-append name (decimal n)
    name_is_text digits) crlf_is_text) in
    let end = ended (name ++ decimal n) in
    rw (text, end.0, end.1, number-decimal n small) refl

pub blank_line : header_line crlf ≡ Ok Blank
blank_line = let text = is_utf8-from_IsUtf8 crlf crlf_is_text in rw text refl

-- the header part of a frame is its body's length, and the body is left, whatever follows
pub header_of-frame : (body rest : List ℕ) → length body < 2 ^ 64 → header_of (frame_text body ++ rest)
    ≡ record { outcome = Ok (Some (length body)); rest = body ++ rest }
header_of-frame body rest small =
    let n = length body in
    let tail = 13 ∷ 10 ∷ 13 ∷ 10 ∷ body in
    let text = frame_text body ++ rest in
    let joined : text ≡ name ++ (decimal n ++ (tail ++ rest)) = ap (λ l. name ++ l) (append_assoc (decimal n) tail rest)
    in
    let first : take_through 10 text ≡ (name ++ decimal n) ++ crlf =
    ap (take_through 10) joined ∙ ap (λ l. name ++ l) (take_through-append 10 (decimal n) (tail ++ rest)
    (no_feed n small)) ∙ sym (append_assoc name (decimal n) crlf) in
    let left : drop_through 10 text ≡ 13 ∷ 10 ∷ (body ++ rest) = ap (drop_through 10) joined ∙ drop_through-append 10
    (decimal n) (tail ++ rest) (no_feed n small) in
    header_after-none text ∙ after_field None 67 (codes "ontent-Length: " ++ ((decimal n ++ tail) ++ rest))
    (Ok (Length n)) (ap header_line first ∙ length_line n small) refl
    ∙ ap (header_after (Some n)) left ∙ at_line (Some n) 13 (10 ∷ (body ++ rest)) (Ok Blank) blank_line refl

-- and so is what its body means
pub reading-frame : (limit : ℕ) (body rest : List ℕ) (m : Message) → length body < 2 ^ 64 → length body ≤ limit
    → body_means body ≡ Ok m
    → Begins (of_content limit) (frame_text body ++ rest) m rest
reading-frame limit body rest m small within means =
    let header = header_of-frame body rest small in
    let long : nat_lt (length (body ++ rest)) (length body) ≡ false = le-ltb _ _ (omega (
      arith,
      length-append body
          rest,
    )) in
    ap (λ (r : Reading ℕ). content_of body_means limit r.outcome r.rest) header ∙ rw (
      le-ltb limit (length body) within,
      long,
      take-append_seam body rest,
      drop-append_seam body rest,
      means,
    ) refl
