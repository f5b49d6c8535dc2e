use Rattle.std.proofs.Common.{◌≡◌, drop}
use Rattle.serde_json.specs.View.{view, items_view}
use Rattle.lsp_model.specs.Spans.{overlaps_one}
use Rattle.lsp_model.proofs.texts.overlaps_one.Given as goal

abbrev pub invariant-loop-other : goal.invariant-loop-other
invariant-loop-other l =
    overlaps_one (view l.edit) (items_view l.others)
    ≡ overlaps_one (view l.edit) (items_view (drop l.other-index l.others))
