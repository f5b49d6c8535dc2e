-- How members are written one after another.
use Rattle.std.proofs.Common.{◌≡◌, ℕ, List, [], ◌∷◌, ◌++◌, String, Option, Some, refl, sym, ap, ◌∙◌, map, string_bytes}
use Rattle.std.proofs.Common.{append_assoc, append-nil}
use Rattle.std.specs.declared.alloc.Global.{Global}
use Rattle.serde_json.specs.Data.{Data, Members}
use Rattle.serde_json.specs.View.{view, members_view}
use Rattle.serde_json.specs.declared.value.Value.{Value}
use Rattle.lsp_types.specs.Json.{with_member, with_members, each_of}

-- of all, those before rest are written
abbrev pub WithUpTo : {A : Type 0} → (A → List ℕ × Option Data) → List A → List A → Members → Members → Type 0
WithUpTo {A} f all rest old new =
    (done : List A) × (all ≡ done ++ rest) × (new ≡ with_members old (map f done))

pub with-snoc : {A : Type 0} (f : A → List ℕ × Option Data) (done : List A) (x : A) (old : Members)
    → with_members old (map f (done ++ x ∷ [])) ≡ with_member (with_members old (map f done)) (f x)
with-snoc f [] x old = refl
with-snoc f (y ∷ done) x old = with-snoc f done x (with_member old (f y))

pub WithUpTo-start : {A : Type 0} (f : A → List ℕ × Option Data) (all rest : List A) (old : Members)
    → rest ≡ all → WithUpTo f all rest old old
WithUpTo-start f all rest old same = ([], sym same, refl)

pub WithUpTo-more : {A : Type 0} (f : A → List ℕ × Option Data) (all rest left : List A) (x : A)
    (old mid new : Members) → WithUpTo f all rest old mid → rest ≡ x ∷ left → new ≡ with_member mid (f x)
    → WithUpTo f all left old new
WithUpTo-more f all rest left x old mid new h step one = (
  h.0 ++ x ∷ [],
  h.1 ∙ ap (λ ys. h.0 ++ ys) step ∙ sym (append_assoc h.0 (x ∷ []) left),
  one ∙ ap (λ members. with_member members (f x)) h.2 ∙ sym (with-snoc f h.0 x old),
)

pub WithUpTo-all : {A : Type 0} (f : A → List ℕ × Option Data) (all rest : List A) (old new : Members)
    → WithUpTo f all rest old new → rest ≡ [] → new ≡ with_members old (map f all)
WithUpTo-all f all rest old new h none =
    h.2 ∙ ap (λ ys. with_members old (map f ys)) (sym (h.1 ∙ ap (λ ys. h.0 ++ ys) none ∙ append-nil h.0))

-- the members of an object are those of its tree
pub each_members : (entries : List (String Global × Value))
    → each_of (members_view entries) ≡ map (λ entry. (string_bytes entry.0, Some (view entry.1))) entries
each_members [] = refl
each_members (e ∷ entries) = ap (λ es. (string_bytes e.0, Some (view e.1)) ∷ es) (each_members entries)
