-- What edits make of the numbers of semantic tokens (LSP 3.17, "SemanticTokensEdit").
use Rattle.std.specs.Prelude.{ℕ, ◌+◌, ◌++◌, List, [], ◌∷◌, take, drop}
use Rattle.std.specs.Option.{option_map_or}
use Rattle.lsp_types_features.specs.declared.token_changes.SemanticTokensEdit.{SemanticTokensEdit}

-- the numbers after one edit: some are removed, and its own are put in their place
abbrev pub edited_by : SemanticTokensEdit → List ℕ → List ℕ
edited_by edit numbers = take edit.start numbers
    ++ option_map_or (λ put. put.items) edit.«data» []
    ++ drop (edit.start + edit.delete_count) numbers

-- the numbers after edits, in the order of their places: each is about the numbers before all of them, so the last is
-- made first
abbrev pub edited : List SemanticTokensEdit → List ℕ → List ℕ
edited [] numbers = numbers
edited (edit ∷ edits) numbers = edited_by edit (edited edits numbers)
