-- The documents that were passed over on the way to the one of a path.
use Rattle.std.proofs.Common.{◌≡◌, ℕ, List, [], ◌∷◌, ◌++◌, sym, ap, subst, ◌∙◌, append_assoc}
use Rattle.std.proofs.lemmas.List.{append-nil}
use Rattle.std.proofs.lemmas.List.Elements.{All-push}
use Rattle.lsp_text.specs.Documents.{Document}
use Rattle.lsp_types.specs.FileUris.{Names}
use Rattle.lsp_documents.specs.Known.{NoneNames}

-- documents were passed over of which none is of the path, and others are left
abbrev pub Passed : List ℕ → List (List ℕ × Document) → List (List ℕ × Document) → Type 0
Passed path known left = (before : List (List ℕ × Document)) × (known ≡ before ++ left) × NoneNames path before

-- one more was passed over
pub passed_more : (path : List ℕ) (known left rest : List (List ℕ × Document)) (k : List ℕ × Document)
    → Passed path known left → left ≡ k ∷ rest → (Names k.0 path → ⊥) → Passed path known rest
passed_more path known left rest k p e other = (
  p.0 ++ (k ∷ []),
  p.1 ∙ ap (λ xs. p.0 ++ xs) e ∙ sym (append_assoc p.0 (k ∷ []) rest),
  All-push (λ x. Names x.0 path → ⊥) p.0 k p.2 other,
)

-- all were
pub all_passed : (path : List ℕ) (known left : List (List ℕ × Document)) → Passed path known left → left ≡ []
    → NoneNames path known
all_passed path known left p e = subst (NoneNames path) (sym (p.1 ∙ ap (λ xs. p.0 ++ xs) e ∙ append-nil p.0)) p.2
