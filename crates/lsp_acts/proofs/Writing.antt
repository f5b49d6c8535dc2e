-- Lists whose values are written one after another.
use Rattle.std.proofs.Common.{List, [], ◌∷◌, ◌++◌, Ok}
use Rattle.serde_json.specs.Data.{Data}
use Rattle.serde_json.specs.View.{items_of}
use Rattle.lsp_message.specs.Converted.{IsOutcomeOf}
use Rattle.lsp_acts.specs.Answering.{Writing}
use Rattle.lsp_acts.specs.Publishing.{AreWritten}

-- one more of each
pub AreWritten-more : {T : Type 0} (writes : T → Writing) (xs : List T) (ds : List Data) (x : T) (d : Data)
    → AreWritten writes xs (items_of ds) → IsOutcomeOf (writes x) (Ok d)
    → AreWritten writes (xs ++ x ∷ []) (items_of (ds ++ d ∷ []))
AreWritten-more writes [] [] x d each one = (one, tt)
AreWritten-more writes [] (c ∷ ds) x d each one = absurd each
AreWritten-more writes (y ∷ xs) [] x d each one = absurd each
AreWritten-more writes (y ∷ xs) (c ∷ ds) x d each one = (each.0, AreWritten-more writes xs ds x d each.1 one)
