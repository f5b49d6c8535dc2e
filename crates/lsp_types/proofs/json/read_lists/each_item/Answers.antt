use Rattle.std.proofs.lemmas.Result.{err_from_is_err_and}
use Rattle.lsp_types.proofs.ItemLemmas.{next_fits}
use Rattle.lsp_types.proofs.json.read_lists.each_item.Goals as goal

pub returns-in_err-value : goal.returns-in_err-value
returns-in_err-value g c =
    let p = err_from_is_err_and c.from_residual.result c.from_residual.ensures.1 in
    rw (p.1, p.2) (λ fits found each.
    let one = next_fits _ _ _ _ _ _ _ c.loop-item.invariant c.in-Some.ensures each in
    c.in_err-value.ensures fits one.0 one.1)
