use Rattle.std.proofs.Common.{◌≡◌, false, take, codes}
use Rattle.serde_json.specs.Data.{Data}
use Rattle.serde_json.specs.View.{items_view}
use Rattle.lsp_model.specs.Spans.{any_overlap, overlap, overlaps_one, span_in}
use Rattle.lsp_model.proofs.texts.any_overlap.Given as goal

-- Of the edits so far none overlap. What does not overlap their range overlaps none of them.
abbrev pub invariant-loop-at : goal.invariant-loop-at
invariant-loop-at l = (any_overlap (items_view (take l.at l.edits)) ≡ false)
    × ((d : Data) → overlap (span_in (codes "range") d) l.before ≡ false
    → overlaps_one d (items_view (take l.at l.edits)) ≡ false)
