use Rattle.std.proofs.Common.{arith}
use Rattle.std.proofs.lemmas.Grind.{common_steps}
use Rattle.lsp_types.proofs.RestLemmas.{others_all, others_more, others_start}
use Rattle.lsp_types.proofs.json.read_rest.members_beside.Goals as goal

pub loop-key-init : goal.loop-key-init
loop-key-init c = others_start _ _ _ _ c.new-rest.ensures.empty c.into_iter-key-iterator.ensures.into_iter_gives.0

pub loop-key-preserved : goal.loop-key-preserved
loop-key-preserved c = others_more _ _ _ _ (c.in-Some.key.now, c.in-Some.member.now) _ _ _
    c.into_iter-key-iterator.ensures.into_iter_gives.5 c.loop-key.invariant c.in-Some.ensures.steps
    c.as_str.ensures.value c.in_ok-put_other.ensures

pub returns : goal.returns
returns c = others_all _ _ _ _ c.loop-key.invariant (grind (arith, common_steps, c.in-None.ensures.steps.0))
