use Rattle.std.proofs.Common.{subst, sym}
use Rattle.lsp_types.proofs.ReadLemmas.{up_to_more, up_to_unfit}
use Rattle.lsp_types.proofs.json.read_lists.each_member.Goals as goal

pub returns-in-Err : goal.returns-in-Err
returns-in-Err g c fits values each = up_to_unfit g.T.FromJson.reads _ _ _ (c.in-Some.key.now, c.in-Some.member.now) _ _
    c.loop-key.invariant c.in-Some.ensures.steps
    (λ it one. c.in-Err.ensures fits it (subst (λ json. g.T.FromJson.reads json it) (sym c.of_tree.ensures) one)) each

pub loop-key-preserved : goal.loop-key-preserved
loop-key-preserved g c = up_to_more g.T.FromJson.reads _ _ _ (c.in-Some.key.now, c.in-Some.member.now) _ _ _
    c.in-Ok.value c.into_iter-key-iterator.ensures.into_iter_gives.5 c.loop-key.invariant c.in-Some.ensures.steps
    c.as_str.ensures.value c.in_ok-put-in-Ok.ensures.ok
    (subst (λ json. g.T.FromJson.reads json c.in-Ok.value) c.of_tree.ensures c.in-Ok.ensures)
