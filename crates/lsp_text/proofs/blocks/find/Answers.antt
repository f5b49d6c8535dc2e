use Rattle.std.proofs.Common.{◌≡◌, length, get_or, arith, ap, sym}
use Rattle.lsp_text.specs.Lines.{starts_of}
use Rattle.lsp_text.proofs.BlockLemmas.{ends_more}
use Rattle.lsp_text.proofs.blocks.find.Goals as goal

pub returns-then-line-before-clause-ends : goal.returns-then-line-before-clause-ends
returns-then-line-before-clause-ends c = λ l.
    let b = c.index-blocks-index.result in
    let v = c.loop-index.invariant in
    let m = ends_more c.args.ends c.args.blocks.now c.loop-index.index b c.requires.blocks l in
    let s : length (starts_of (get_or c.args.blocks.now c.loop-index.index b)) ≡ length (starts_of b) =
    ap (λ x. length (starts_of x)) (sym c.index-blocks-index.is) in
    let n = c.line_count-lines.ensures in
    let t = c.if-line-before.true in
    let p = v.before in
    let q = v.begins in
    omega (arith, m, s, n, t, p, q)

pub loop-index-preserved : goal.loop-index-preserved
loop-index-preserved c =
    let b = c.index-blocks-index.result in
    let v = c.loop-index.invariant in
    let l = c.loop-index-test.true in
    let m = ends_more c.args.ends c.args.blocks.now c.loop-index.index b c.requires.blocks l in
    let s : length (starts_of (get_or c.args.blocks.now c.loop-index.index b)) ≡ length (starts_of b) =
    ap (λ x. length (starts_of x)) (sym c.index-blocks-index.is) in
    let n = c.line_count-lines.ensures in
    let t = c.if-line-before.false in
    let p = v.before in
    let q = v.begins in
    record { within = l; before = omega (arith, m, s, n, p); begins = omega (arith, n, t, q) }
