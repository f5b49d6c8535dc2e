-- The members of a table: its first method's, and then those of the rest.
use Rattle.std.proofs.Common.{◌≡◌, ◌∷◌, List, ℕ, Some, Result, Ok, Err, OnOk, refl, rules}
use Rattle.serde_json.specs.Data.{Data, Members, put}
use Rattle.lsp_types.specs.Json.{with_members}
use Rattle.lsp_features.specs.Features.{Announced, AnnouncesFirst}

pub first_announced : {A E : Type 0} (key : List ℕ) (offers : Data → Type 0) (rest : Announced → Type 0) (value : Data)
    (old mid new : Members) (r : Result A E) → offers value → mid ≡ put key value old
    → OnOk r ((members : Announced) × rest members × (new ≡ with_members mid members))
    → OnOk r ((members : Announced) × AnnouncesFirst key offers rest members × (new ≡ with_members old members))
unfolding Rattle.lsp_types.specs.Json.with_member
first_announced key offers rest value old mid new (Ok a) offered is (members, rested, same) =
    ((key, Some value) ∷ members, (value, members, offered, rested, refl), search rules)
first_announced key offers rest value old mid new (Err e) offered is told = told
