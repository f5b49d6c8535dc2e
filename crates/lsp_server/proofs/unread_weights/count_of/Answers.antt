use Rattle.std.proofs.Common.{◌∙◌, ap, arith, length}
use Rattle.memchr.proofs.lemmas.CallerLemmas.{length-places}
use Rattle.memchr.specs.Find.{is_byte}
use Rattle.std.proofs.lemmas.List.Sums.{count_by-le-length}
use Rattle.lsp_server.proofs.unread_weights.count_of.Goals as goal

pub loop-init : goal.loop-init
loop-init c =
    let all =
    ap length (c.into_iter-iterator.ensures.into_iter_gives ∙ c.memchr_iter-items.ensures.value)
    ∙ length-places (is_byte c.args.byte) c.args.content.now in
    omega (arith, all)

pub loop-preserved : goal.loop-preserved
loop-preserved c =
    let fewer = count_by-le-length (is_byte c.args.byte) c.args.content.now in
    let left = ap length c.in-Some.ensures.steps in
    omega (arith, c.saturating_add-count.ensures, c.loop.invariant, left, fewer)

pub returns : goal.returns
returns c =
    let left = ap length c.in-None.ensures.steps.0 in
    omega (arith, c.loop.invariant, left)
