use Rattle.std.proofs.Common.{ℕ, ◌+◌, List, take, drop, ap, sym, subst, ◌∙◌, arith}
use Rattle.std.proofs.lemmas.List.{length-take-le}
use Rattle.std.proofs.lemmas.Result.{on_ok_weaker, on_err_weaker, IfOk-weaker}
use Rattle.std.specs.List.{slice_range}
use Rattle.lsp_text.specs.Lines.{LinedText, lined}
use Rattle.lsp_text.specs.Blocks.{joined, AreBlocks}
use Rattle.lsp_text.proofs.MergeLemmas.{between_in, past_same, edit_same, edit_blocks}
use Rattle.lsp_text.proofs.MergeLemmas.{merged_blocks, merged_same, either_way}
use Rattle.lsp_text.proofs.blocks.apply_in.Goals as goal

pub returns-clause-past : goal.returns-clause-past
returns-clause-past c =
    let bs : List LinedText = c.args.blocks.now.items in
    let i : ℕ = c.span_of-span.result.first in
    let j : ℕ = c.span_of-span.result.last + 1 in
    let v = c.span_of-span.ensures in
    let n = c.counted_from-inner.ensures in
    let t = between_in c.args.ends c.as_slice.result.now bs i c.span_of-span.result.last c.span_of-span.result.before
    c.args.range c.counted_from-inner.result c.as_slice.ensures.value c.requires.blocks v.in_order v.within v.before
    n.start_line n.start_character n.end_line n.end_character v.start_within v.end_within in
    let o = t.in_order in
    let w = t.within in
    let p = c.apply_at.ensures.past (take i bs) (drop j bs) (lined c.args.ends (joined (slice_range bs i j)))
    c.in_ok-merge.ensures.ok (sym (length-take-le i bs (omega (arith, o, w)))) in
    let e = past_same c.args.ends c.args.encoding bs i j c.args.range c.counted_from-inner.result t in
    IfOk-weaker c.apply_at.result _ _ (λ x h. h ∙ sym e) p

pub returns-clause-ok : goal.returns-clause-ok
returns-clause-ok c =
    let bs : List LinedText = c.args.blocks.now.items in
    let i : ℕ = c.span_of-span.result.first in
    let j : ℕ = c.span_of-span.result.last + 1 in
    let v = c.span_of-span.ensures in
    let n = c.counted_from-inner.ensures in
    let t = between_in c.args.ends c.as_slice.result.now bs i c.span_of-span.result.last c.span_of-span.result.before
    c.args.range c.counted_from-inner.result c.as_slice.ensures.value c.requires.blocks v.in_order v.within v.before
    n.start_line n.start_character n.end_line n.end_character v.start_within v.end_within in
    let o = t.in_order in
    let w = t.within in
    let p = c.apply_at.ensures.ok (take i bs) (drop j bs) (lined c.args.ends (joined (slice_range bs i j)))
    c.in_ok-merge.ensures.ok (sym (length-take-le i bs (omega (arith, o, w)))) in
    let e = edit_same c.args.ends c.args.encoding bs i j c.args.range c.counted_from-inner.result c.args.text.now t in
    on_ok_weaker c.apply_at.result (λ h. ap (λ (us : List LinedText). lined c.args.ends (joined us)) h ∙ e) p

pub returns-clause-blocks : goal.returns-clause-blocks
returns-clause-blocks c =
    let bs : List LinedText = c.args.blocks.now.items in
    let i : ℕ = c.span_of-span.result.first in
    let j : ℕ = c.span_of-span.result.last + 1 in
    let v = c.span_of-span.ensures in
    let n = c.counted_from-inner.ensures in
    let t = between_in c.args.ends c.as_slice.result.now bs i c.span_of-span.result.last c.span_of-span.result.before
    c.args.range c.counted_from-inner.result c.as_slice.ensures.value c.requires.blocks v.in_order v.within v.before
    n.start_line n.start_character n.end_line n.end_character v.start_within v.end_within in
    let o = t.in_order in
    let w = t.within in
    let p = c.apply_at.ensures.ok (take i bs) (drop j bs) (lined c.args.ends (joined (slice_range bs i j)))
    c.in_ok-merge.ensures.ok (sym (length-take-le i bs (omega (arith, o, w)))) in
    let e = edit_blocks c.args.ends c.args.encoding bs i j c.args.range c.counted_from-inner.result c.args.text.now t in
    let m = merged_blocks c.args.ends bs i j t.blocks o w in
    either_way c.apply_at.result
    (on_ok_weaker c.apply_at.result (λ h. subst (AreBlocks c.args.ends) (sym h) e) p)
    (on_err_weaker c.apply_at.result
    (λ h. subst (AreBlocks c.args.ends) (sym (h ∙ c.in_ok-merge.ensures.ok)) m) c.apply_at.ensures.err)

pub returns-clause-err : goal.returns-clause-err
returns-clause-err c =
    let bs : List LinedText = c.args.blocks.now.items in
    let i : ℕ = c.span_of-span.result.first in
    let j : ℕ = c.span_of-span.result.last + 1 in
    let o = c.span_of-span.ensures.in_order in
    on_err_weaker c.apply_at.result (λ h. ap joined (h ∙ c.in_ok-merge.ensures.ok)
    ∙ merged_same c.args.ends bs i j (omega (arith, o))) c.apply_at.ensures.err
