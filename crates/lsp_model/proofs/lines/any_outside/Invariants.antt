use Rattle.std.proofs.Common.{◌≡◌, drop}
use Rattle.serde_json.specs.View.{items_view}
use Rattle.lsp_model.specs.Lines.{any_fold_outside}
use Rattle.lsp_model.proofs.lines.any_outside.Given as goal

abbrev pub invariant-loop-fold : goal.invariant-loop-fold
invariant-loop-fold l =
    any_fold_outside l.lines (items_view l.folds)
    ≡ any_fold_outside l.lines (items_view (drop l.fold-index l.folds))
