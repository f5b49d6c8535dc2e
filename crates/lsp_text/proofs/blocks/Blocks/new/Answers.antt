use Rattle.std.proofs.Common.{◌≡◌, ℕ, ◌-◌, ◌+◌, ◌++◌, List, [], ◌∷◌, length, length-append}
use Rattle.std.proofs.Common.{take, drop, ap, sym, subst, take-add, ◌∙◌, arith}
use Rattle.std.proofs.lemmas.List.{take-append-drop}
use Rattle.std.specs.List.{slice_range}
use Rattle.lsp_text.specs.Lines.{LinedText, lined}
use Rattle.lsp_text.specs.Blocks.{joined, AreLines, AreBlocks}
use Rattle.lsp_text.proofs.MergeLemmas.{lines_cut, whole_more, joined_more}
use Rattle.lsp_text.proofs.blocks.Blocks.new.Goals as goal

pub loop-end-init : goal.loop-end-init
loop-end-init c = record {
  whole = λ t e. subst (λ (us : List LinedText). AreBlocks c.args.ends (us ++ (t ∷ [])))
      (sym c.new-blocks.ensures.items)
      (e, (λ h. absurd (omega (arith, h)), tt));
  joined = ap joined c.new-blocks.ensures.items;
  within = omega arith;
  boundary = (omega arith, λ h. absurd (omega (arith, h)));
}

pub block_end-requires : goal.block_end-requires
block_end-requires c = c.loop-end.invariant.within

pub range-requires-clause-start_boundary : goal.range-requires-clause-start_boundary
range-requires-clause-start_boundary c = λ h. (c.loop-end.invariant.within, c.loop-end.invariant.boundary.1 h)

pub loop-end-smaller : goal.loop-end-smaller
loop-end-smaller c = (let v = c.in-Some.ensures in let l = v.0 in let m = v.1.0 in omega (arith, l, m))

pub loop-end-preserved : goal.loop-end-preserved
loop-end-preserved c =
    let v = c.in-Some.ensures in
    let l = v.0 in
    let m = v.1.0 in
    let bs : List ℕ = c.args.text.now in
    let i : ℕ = c.loop-end.at in
    let j : ℕ = c.in-Some.end in
    let b : LinedText = c.in_ok-with_line_ends.field-0 in
    let e : b ≡ lined c.args.ends (slice_range bs i j) = c.in_ok-with_line_ends.ensures
    ∙ ap (lined c.args.ends) c.range.ensures.value in
    let n : b.bytes ≡ slice_range bs i j = ap (λ (t : LinedText). t.bytes) e in
    let w : AreLines b.bytes = subst AreLines (sym n) (lines_cut bs i j l m v.1.1.0) in
    let z : i + (j - i) ≡ j = omega (arith, l) in
    let q = joined_more c.loop-end.blocks.items c.push.new.self.items b (take i bs) (slice_range bs i j)
    c.loop-end.invariant.joined n c.in_ok-push.ensures.items in
    record {
      whole = whole_more c.args.ends c.loop-end.blocks.items c.push.new.self.items b c.loop-end.invariant.whole
          (ap (λ (t : LinedText). t.ends) e) w c.in_ok-push.ensures.items;
      joined = q ∙ sym (take-add i (j - i) bs) ∙ ap (λ k. take k bs) z;
      within = m;
      boundary = v.1.1.1;
    }

pub range_from-requires : goal.range_from-requires
range_from-requires c = λ h. (c.loop-end.invariant.within, c.loop-end.invariant.boundary.1 h)

pub invariant_of-result : goal.invariant_of-result
invariant_of-result c =
    let bs : List ℕ = c.args.text.now in
    let i : ℕ = c.loop-end.at in
    let b : LinedText = c.in_ok-with_line_ends-2.field-0 in
    let e : b ≡ lined c.args.ends (drop i bs) = c.in_ok-with_line_ends-2.ensures
    ∙ ap (lined c.args.ends) c.range_from.ensures.value in
    let z = c.in_ok-push-2.ensures.items in
    let n = ap length z ∙ length-append c.loop-end.blocks.items (b ∷ []) in (
      omega (arith, n),
      subst (AreBlocks c.args.ends) (sym z) (c.loop-end.invariant.whole b (ap (λ (t : LinedText). t.ends)
          e)),
    )

pub returns : goal.returns
returns c =
    let bs : List ℕ = c.args.text.now in
    let i : ℕ = c.loop-end.at in
    let b : LinedText = c.in_ok-with_line_ends-2.field-0 in
    let e : b ≡ lined c.args.ends (drop i bs) = c.in_ok-with_line_ends-2.ensures
    ∙ ap (lined c.args.ends) c.range_from.ensures.value in
    ap (lined c.args.ends) (joined_more c.loop-end.blocks.items c.push-2.new.self.items b (take i bs) (drop i bs)
    c.loop-end.invariant.joined (ap (λ (t : LinedText). t.bytes) e) c.in_ok-push-2.ensures.items
    ∙ take-append-drop i bs)
