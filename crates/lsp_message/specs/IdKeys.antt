-- Ids as the keys of finite maps.
use Rattle.std.specs.Prelude.{◌≡◌, ℕ, ℤ, pos, List, []}
use Rattle.std.proofs.Common.{refl, ap, zero, suc}
use Rattle.std.specs.Coded.{Coded, code_by, coded×, coded_ℕ, coded_ℤ, coded_list}
use Rattle.std.specs.FinMap.{IsAntisymmetric}
use Rattle.std.specs.Ordering.{is_eq}
use Rattle.lsp_message.specs.Id.{Id, number, text, id_cmp}
use Rattle.lsp_message.specs.IdLaws.{id_decides}

-- an id as its kind, its number and its text
abbrev pub parts : Id → ℕ × (ℤ × List ℕ)
parts (number n) = (0, (n, []))
parts (text bytes) = (1, (pos 0, bytes))

abbrev pub of_parts : ℕ × (ℤ × List ℕ) → Id
of_parts p = elim p.0 [ zero ↦ number p.1.0 | suc n ↦ text p.1.1 ]

pub of_parts-parts : (id : Id) → of_parts (parts id) ≡ id
of_parts-parts (number n) = refl
of_parts-parts (text bytes) = refl

abbrev pub coded_id : Coded Id
coded_id = code_by (ℕ × (ℤ × List ℕ)) (coded× coded_ℕ (coded× coded_ℤ (coded_list coded_ℕ))) parts
    of_parts of_parts-parts

pub id_antisymmetric : IsAntisymmetric id_cmp
id_antisymmetric a b tie = (id_decides a b).0 (ap is_eq tie)
