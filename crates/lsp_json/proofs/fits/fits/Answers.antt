use Rattle.std.proofs.Common.{◌≤◌, ◌∙◌, refl, sym, subst, length, IsSome, arith}
use Rattle.lsp_json.proofs.Fitting.{next_node, no_more_nodes}
use Rattle.lsp_json.proofs.fits.fits.Goals as goal

pub loop-node-preserved : goal.loop-node-preserved
loop-node-preserved c =
    c.loop-node.invariant
    ∙ next_node c.args.nodes.now c.loop-node.node-index c.loop-node.left c.in-Some.after _ c.loop-node-test.true
    c.in-Some.ensures

pub returns : goal.returns
returns c =
    let ended : length c.args.nodes.now ≤ c.loop-node.node-index = omega arith in
    let all = c.loop-node.invariant ∙ no_more_nodes c.args.nodes.now c.loop-node.node-index c.loop-node.left ended in
    λ _. subst IsSome (sym all) refl
