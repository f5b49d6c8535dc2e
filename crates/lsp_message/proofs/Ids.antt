-- Ids against each other.
use Rattle.std.proofs.Common.{◌≡◌, ◌≢◌, ◌⊎◌, pos, negsuc, inl, inr, ⊎_elim, refl, sym, ◌∙◌, true, false, true≢false}
use Rattle.std.proofs.lemmas.Bool.{cases_Bool}
use Rattle.serde_json.specs.Data.{depth}
use Rattle.lsp_message.specs.Id.{Id, number, text, same_id}
use Rattle.lsp_message.specs.IdLaws.{id_decides}
use Rattle.lsp_message.specs.Tree.{id_tree}

pub same_own : (id : Id) → same_id id id ≡ true
same_own id = (id_decides id id).1 refl

pub same_other : (a b : Id) → a ≢ b → same_id a b ≡ false
same_other a b apart = ⊎_elim (λ e. absurd (apart ((id_decides a b).0 e))) (λ e. e) (cases_Bool (same_id a b))

pub same_is : (a b : Id) → same_id a b ≡ true → a ≡ b
same_is a b e = (id_decides a b).0 e

pub cases_id : (a b : Id) → (a ≡ b) ⊎ (a ≢ b)
cases_id a b = ⊎_elim (λ e. inl (same_is a b e)) (λ e. inr (λ same. true≢false (sym ((id_decides a b).1 same) ∙ e)))
    (cases_Bool (same_id a b))

-- the tree of an id has no levels
pub id_flat : (i : Id) → depth (id_tree i) ≡ 0
id_flat (number (pos n)) = refl
id_flat (number (negsuc n)) = refl
id_flat (text s) = refl
