use Rattle.std.proofs.Common.{◌+◌, arith}
use Rattle.lsp_text.proofs.MergeLemmas.{ends_grow}
use Rattle.lsp_text.proofs.blocks.span_of.Goals as goal

pub returns-then-start-end-clause-end : goal.returns-then-start-end-clause-end
returns-then-start-end-clause-end c =
    let t = c.if-start-end.true in
    let g = ends_grow c.args.ends c.args.blocks.now c.find-start.result.index c.find-end.result.index c.requires.blocks
    (omega (arith, t)) c.find-start.ensures.within in
    let p = c.find-start.ensures.before in
    let q = c.find-end.ensures.before in
    let b = c.find-end.ensures.begins in
    omega (arith, g, p, q, b)

pub returns-then-start-end-clause-start_within : goal.returns-then-start-end-clause-start_within
returns-then-start-end-clause-start_within c = λ h.
    let t = c.if-start-end.true in
    let b = c.find-start.ensures.ends (omega (arith, t, h)) in
    let g = ends_grow c.args.ends c.args.blocks.now (c.find-start.result.index + 1) (c.find-end.result.index + 1)
    c.requires.blocks (omega (arith, t)) (omega (arith, t, h)) in
    omega (arith, g, b)

pub returns-else-start-end-clause-start : goal.returns-else-start-end-clause-start
returns-else-start-end-clause-start c =
    let t = c.if-start-end.false in
    let g = ends_grow c.args.ends c.args.blocks.now c.find-end.result.index c.find-start.result.index c.requires.blocks
    (omega (arith, t)) c.find-end.ensures.within in
    let p = c.find-start.ensures.before in
    let q = c.find-end.ensures.before in
    let b = c.find-start.ensures.begins in
    omega (arith, g, p, q, b)

pub returns-else-start-end-clause-end_within : goal.returns-else-start-end-clause-end_within
returns-else-start-end-clause-end_within c = λ h.
    let t = c.if-start-end.false in
    let b = c.find-end.ensures.ends (omega (arith, t, h)) in
    let g = ends_grow c.args.ends c.args.blocks.now (c.find-end.result.index + 1) (c.find-start.result.index + 1)
    c.requires.blocks (omega (arith, t)) (omega (arith, t, h)) in
    omega (arith, g, b)
