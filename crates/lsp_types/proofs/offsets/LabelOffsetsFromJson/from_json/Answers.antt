use Rattle.std.proofs.Common.{◌≡◌, ℕ, [], ◌∷◌, Option, None, Some, refl}
use Rattle.serde_json.specs.Data.{Data, Items, item, no_items}
use Rattle.lsp_types.specs.Reads.{EachItem, InSome, IsWhole}
use Rattle.lsp_types.proofs.offsets.LabelOffsetsFromJson.from_json.Goals as goal

-- what two numbers are read from has two items
two : (found : Option Items) (start end : ℕ) → InSome (λ items. EachItem IsWhole items (start ∷ end ∷ [])) found
    → (one : Data) × (other : Data) × (found ≡ Some (item one (item other no_items)))
two None start end each = absurd each
two (Some no_items) start end each = absurd each
two (Some (item one no_items)) start end each = absurd each.1
two (Some (item one (item other no_items))) start end each = (one, other, refl)
two (Some (item one (item other (item third rest)))) start end each = absurd each.1.1

pub returns-in-None : goal.returns-in-None
returns-in-None c fits it each = let found = two _ _ _ each in c.in-None.ensures found.0 found.1 found.2
