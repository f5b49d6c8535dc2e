-- A text that needs no escape.
use Rattle.std.proofs.Common.{◌≡◌, ℕ, List, [], ◌∷◌, ◌++◌, true, not, ◌==◌, Result, Ok, Err, OnOk, is_ok, if◌then◌else◌}
use Rattle.std.proofs.Common.{refl, sym, ap, ap₂, ◌∙◌, subst, append_assoc}
use Rattle.std.proofs.lemmas.Bool.{and_parts, false≢true, leb-true}
use Rattle.std.specs.List.{list_all}
use Rattle.json.specs.Print.{escape, quoted}
use Rattle.json.proofs.Printed.Strings.{escape_byte_plain}
use Rattle.lsp_message.specs.Composing.{is_plain_byte}

escape-plain : (s : List ℕ) → list_all is_plain_byte s ≡ true → escape s ≡ s
escape-plain [] h = refl
escape-plain (x ∷ xs) h =
    let here = and_parts (is_plain_byte x) _ h in
    let space = and_parts _ _ here.0 in
    let apart = and_parts _ _ space.1 in
    let quote = λ (e : x ≡ 34). false≢true (subst (λ y. not (y == 34) ≡ true) e apart.0) in
    let backslash = λ (e : x ≡ 92). false≢true (subst (λ y. not (y == 92) ≡ true) e apart.1) in
    ap₂ (λ (a b : List ℕ). a ++ b) (escape_byte_plain x quote backslash (leb-true 32 x space.0)) (escape-plain xs
    here.1)

quoted-plain : (s : List ℕ) → list_all is_plain_byte s ≡ true → 34 ∷ (s ++ 34 ∷ []) ≡ quoted s
quoted-plain s h = ap (λ t. 34 ∷ (t ++ 34 ∷ [])) (sym (escape-plain s h))

-- the last of several texts that are added, where it was added
pub last-plain : {X E : Type 0} (r : Result X E) (old text two three : List ℕ) → list_all is_plain_byte text ≡ true
    → two ≡ old ++ 34 ∷ text
    → three ≡ if is_ok r then two ++ 34 ∷ [] else two → OnOk r (three ≡ old ++ quoted text)
last-plain (Ok x) old text two three plain p q = q ∙ ap (λ s. s ++ 34 ∷ []) p ∙ append_assoc old (34 ∷ text) (34 ∷ [])
    ∙ ap (λ s. old ++ s) (quoted-plain text plain)
last-plain (Err e) old text two three plain p q = tt
