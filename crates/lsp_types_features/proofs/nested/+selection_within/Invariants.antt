use Rattle.lsp_types_features.proofs.nested.+selection_within.Given as goal

abbrev pub decreases-selection_within : goal.decreases-selection_within
decreases-selection_within l = l.levels
