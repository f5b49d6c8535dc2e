-- Of names that are of no path, and of paths that come back from their URIs.
use Rattle.std.proofs.Common.{◌≡◌, ◌≢◌, ℕ, ◌+◌, ◌/◌, ◌%◌, ◌<◌, ◌≤◌, true, false, ltb, eqb, not, ◌||◌, ◌&&◌, List, []}
use Rattle.std.proofs.Common.{◌∷◌, All, sym, refl, ap, ◌∙◌, subst, inl, ⊎_elim, arith}
use Rattle.std.specs.List.{flat_map}
use Rattle.std.specs.Char.{is_ascii_hexdigit}
use Rattle.std.specs.Fmt.{digit_glyph}
use Rattle.std.proofs.lemmas.Bool.{cond_both, cases_Bool, both_ways, ne_eqb}
use Rattle.std.proofs.lemmas.Bool.Decides.{nat_tests}
use Rattle.std.proofs.lemmas.List.Elements.{All-nil, All-cons, All-head, All-tail, All-append, All-weaker}
use Rattle.percent_encoding.specs.Percent.{percent_encode_byte, percent_decode}
use Rattle.percent_encoding.proofs.PercentLemmas.{IsByte, IsEscapeByte, All-percent_encode_byte, percent_decode-nil}
use Rattle.percent_encoding.proofs.PercentLemmas.{percent_decode_not_percent, percent_decode-percent_encode_byte}
use Rattle.lsp_types.specs.declared.file_uri.FileUriFault.{FileUriFault}
use Rattle.lsp_types.specs.declared.file_uri.FileUriFault.TheVariants.{Memory, NotFile, Host, Query, Escape, Relative}
use Rattle.lsp_types.specs.declared.file_uri.FileUriFault.TheVariants.{Nul, NotUtf8}
use Rattle.lsp_types.specs.FileUris.{stays, written, uri_of, IsPath, Names, begins_digits, is_escaped, Lacks, IsFileUri}
use Rattle.lsp_types.specs.FileUris.{AreNoPath, Refuses}

-- a text whose names are of no path names none
pub refuses_names : (uri names : List ℕ) → IsFileUri uri names → (fault : FileUriFault) → AreNoPath fault names
    → Refuses fault uri
refuses_names uri names file Memory why = tt
refuses_names uri names file NotFile why = absurd why
refuses_names uri names file Host why = absurd why
refuses_names uri names file Query why = (names, file, why)
refuses_names uri names file Escape why = (names, file, why)
refuses_names uri names file Relative why = absurd why
refuses_names uri names file Nul why = (names, file, why)
refuses_names uri names file NotUtf8 why = (names, file, why)

-- what does not stand as it is, is no byte that does
not_kept : (x : ℕ) → stays x ≡ false → (b : ℕ) → stays b ≡ true → b ≢ x
not_kept x off b on is = both_ways (stays x) off (subst (λ y. stays y ≡ true) is on)

-- a path without its escapes is as it was
decoded-written : (path : List ℕ) → All IsByte path → percent_decode (flat_map written path) ≡ path
decoded-written [] small = percent_decode-nil
decoded-written (b ∷ bs) small =
    let rest = ap (λ x. b ∷ x) (decoded-written bs (All-tail IsByte b bs small)) in
    ⊎_elim
    (λ e. rw e (percent_decode_not_percent b (flat_map written bs) (not_kept 37 refl b e) ∙ rest))
    (λ e. rw e (percent_decode-percent_encode_byte b (flat_map written bs) (All-head IsByte b bs small) ∙ rest))
    (cases_Bool (stays b))

-- a byte that neither stands as it is nor in an escape is not in a URI's path
lacks-written : (x : ℕ) → stays x ≡ false → ((y : ℕ) → IsEscapeByte y → y ≢ x) → (path : List ℕ)
    → Lacks x (flat_map written path)
lacks-written x off other [] = All-nil (λ y. y ≢ x)
lacks-written x off other (b ∷ bs) =
    let rest = lacks-written x off other bs in
    ⊎_elim
    (λ e. rw e (All-cons (λ y. y ≢ x) b (flat_map written bs) (not_kept x off b e) rest))
    (λ e. rw e (All-append (λ y. y ≢ x) (percent_encode_byte b) (flat_map written bs) (All-weaker IsEscapeByte
    (λ y. y ≢ x) other (percent_encode_byte b) (All-percent_encode_byte b)) rest))
    (cases_Bool (stays b))

other_than : (x : ℕ) → 58 ≤ x → x < 65 → (y : ℕ) → IsEscapeByte y → y ≢ x
other_than x low high y byte is = ⊎_elim (λ e. omega (arith, e)) (λ r. ⊎_elim (λ d. omega (arith, d.0, d.1))
    (λ d. omega (arith, d.0, d.1)) r) byte

no_hash : (y : ℕ) → IsEscapeByte y → y ≢ 35
no_hash y byte is = ⊎_elim (λ e. omega (arith, e)) (λ r. ⊎_elim (λ d. omega (arith, d.0, d.1)) (λ d. omega (
  arith,
  d.0,
  d.1,
)) r) byte

-- the digits of an escape
glyph_is_digit : (d : ℕ) → d < 16 → (is_ascii_hexdigit (digit_glyph true d) ≡ true) × (eqb (digit_glyph true d) 37
    ≡ false)
glyph_is_digit d small = cond_both (ltb d 10) (48 + d) (55 + d) (λ y. (is_ascii_hexdigit y ≡ true) × (eqb y 37 ≡ false))
    (λ e. (grind (arith, nat_tests), grind (arith, nat_tests))) (λ e. (
      grind (arith, nat_tests),
      grind (arith, nat_tests),
    ))

escaped_kept : (b : ℕ) (rest : List ℕ) → eqb b 37 ≡ false → is_escaped (b ∷ rest) ≡ is_escaped rest
escaped_kept b rest e = ap (λ t. (not t || begins_digits rest) && is_escaped rest) e

escaped_escape : (h l : ℕ) (rest : List ℕ) → is_ascii_hexdigit h ≡ true → is_ascii_hexdigit l ≡ true → eqb h 37 ≡ false
    → eqb l 37 ≡ false → is_escaped (37 ∷ h ∷ l ∷ rest) ≡ is_escaped rest
escaped_escape h l rest high low first second =
    ap (λ t. (t && is_ascii_hexdigit l) && is_escaped (h ∷ l ∷ rest)) high ∙ ap (λ t. t && is_escaped (h ∷ l ∷ rest))
    low ∙ escaped_kept h (l ∷ rest) first ∙ escaped_kept l rest second

escaped-written : (path : List ℕ) → is_escaped (flat_map written path) ≡ true
unfolding percent_encode_byte
escaped-written [] = refl
escaped-written (b ∷ bs) =
    let rest = escaped-written bs in
    let high = glyph_is_digit (b / 16 % 16) (omega arith) in
    let low = glyph_is_digit (b % 16) (omega arith) in
    ⊎_elim
    (λ e. rw e (escaped_kept b (flat_map written bs) (ne_eqb b 37 (not_kept 37 refl b e)) ∙ rest))
    (λ e. rw e (escaped_escape _ _ (flat_map written bs) high.0 low.0 high.1 low.1 ∙ rest))
    (cases_Bool (stays b))

pub names_of_uri : (path : List ℕ) → All IsByte path → IsPath path → Names (uri_of path) path
names_of_uri path small is_path =
    let names = is_path.absolute.0 in
    let is = is_path.absolute.1 in (
      flat_map written names,
      inl (ap uri_of is),
      record {
        plain = (
          lacks-written 63 refl (other_than 63 (omega arith) (omega arith)) names,
          lacks-written 35 refl
              no_hash names,
        );
        escaped = escaped-written names;
        decoded = is ∙ ap (λ x. 47 ∷ x) (sym (decoded-written names (All-tail IsByte 47 names (subst (All IsByte) is
            small))));
        has_no_nul = is_path.has_no_nul;
      },
    )
