use Rattle.std.proofs.Common.{◌≡◌, ◌∙◌, ◌∷◌, ◌++◌, [], ◌+◌, true, false, ◌||◌, take, drop, ap, sym, codes}
use Rattle.std.proofs.lemmas.List.{take_all, take_more, take-append-drop}
use Rattle.serde_json.specs.Data.{Data}
use Rattle.serde_json.specs.View.{view, items_view}
use Rattle.lsp_model.specs.Spans.{any_overlap, overlaps_one, overlap, span_in}
use Rattle.lsp_model.proofs.HullLemmas.{none_of_two, overlaps_one_more, any_overlap_more, any_overlap_longer, or_false}
use Rattle.lsp_model.proofs.texts.any_overlap.Goals.{else-overlap-via-then-overlap+else-overlaps_one}
use Rattle.lsp_model.proofs.texts.any_overlap.Goals.{else-overlap-via-else-overlap}
use Rattle.lsp_model.proofs.texts.any_overlap.Goals as goal

pub returns : goal.returns
returns c =
    let all = take_all c.loop-at.at c.args.edits.now c.loop-at-test.false in
    sym (ap (λ vs. any_overlap (items_view vs)) (sym all) ∙ c.loop-at.invariant.0)

pub returns-then-overlaps_one : goal.returns-then-overlaps_one
returns-then-overlaps_one c =
    let edits = c.args.edits.now in
    let at = c.loop-at.at in
    let next : take (at + 1) edits ≡ take at edits ++ c.index-edits-at.result ∷ []
    = take_more edits at c.index-edits-at.result c.loop-at-test.true
    ∙ ap (λ v. take at edits ++ v ∷ []) (sym c.index-edits-at.is) in
    let found : any_overlap (items_view (take (at + 1) edits)) ≡ true
    = ap (λ vs. any_overlap (items_view vs)) next ∙ any_overlap_more (take at edits) c.index-edits-at.result
    ∙ ap (λ t. t || overlaps_one (view c.index-edits-at.result) (items_view (take at edits))) c.loop-at.invariant.0
    ∙ (sym c.overlaps_one.ensures ∙ c.if-overlaps_one.true) in
    sym (ap (λ vs. any_overlap (items_view vs)) (sym (take-append-drop (at + 1) edits))
    ∙ any_overlap_longer (take (at + 1) edits) (drop (at + 1) edits) found)

-- the edit overlaps none of those before it
abbrev is_apart : goal.After-hull-before → Type 0
is_apart c = overlaps_one (view c.index-edits-at.result) (items_view (take c.loop-at.at c.args.edits.now)) ≡ false

apart : (c : goal.After-hull-before) → is_apart c
apart c = elim c.else-overlap.branch [
  | else-overlap-via-then-overlap+else-overlaps_one w ↦ sym w.overlaps_one.ensures ∙ w.if-overlaps_one.false
  | else-overlap-via-else-overlap w ↦
      c.loop-at.invariant.1 (view c.index-edits-at.result)
      (ap (λ s. overlap s c.loop-at.before) (sym c.of-range.ensures) ∙ sym c.overlap.ensures ∙ w.if-overlap.false)
]

-- the edits so far, with the edit
more : (c : goal.After-hull-before)
    → take (c.loop-at.at + 1) c.args.edits.now ≡ take c.loop-at.at c.args.edits.now ++ c.index-edits-at.result ∷ []
more c = take_more c.args.edits.now c.loop-at.at c.index-edits-at.result c.loop-at-test.true
    ∙ ap (λ v. take c.loop-at.at c.args.edits.now ++ v ∷ []) (sym c.index-edits-at.is)

apart_from_all : (c : goal.After-hull-before) (d : Data)
    → overlap (span_in (codes "range") d) c.hull-before.result ≡ false
    → overlaps_one d (items_view (take (c.loop-at.at + 1) c.args.edits.now)) ≡ false
apart_from_all c d none =
    let range = span_in (codes "range") d in
    let two = none_of_two range c.of-range.result c.loop-at.before
    (ap (λ s. overlap range s) (sym c.hull-before.ensures) ∙ none) in
    ap (λ vs. overlaps_one d (items_view vs)) (more c)
    ∙ overlaps_one_more d (take c.loop-at.at c.args.edits.now) c.index-edits-at.result
    ∙ or_false (c.loop-at.invariant.1 d two.1) (ap (λ s. overlap range s) (sym c.of-range.ensures) ∙ two.0)

pub loop-at-preserved : goal.loop-at-preserved
loop-at-preserved c = (
  ap (λ vs. any_overlap (items_view vs)) (more c)
      ∙ any_overlap_more (take c.loop-at.at c.args.edits.now) c.index-edits-at.result
      ∙ or_false c.loop-at.invariant.0 (apart c),
  apart_from_all c,
)
