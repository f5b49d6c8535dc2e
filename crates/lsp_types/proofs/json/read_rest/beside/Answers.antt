use Rattle.std.proofs.Common.{map, sym, ◌∙◌}
use Rattle.lsp_types.specs.Reads.{Beside}
use Rattle.lsp_types.proofs.ReadLemmas.{of_same}
use Rattle.lsp_types.proofs.RestLemmas.{nothing_beside}
use Rattle.lsp_types.proofs.json.read_rest.beside.Goals as goal

pub returns-then-not-has_others : goal.returns-then-not-has_others
returns-then-not-has_others c = nothing_beside _ _ (sym c.is_object.ensures ∙ c.if-is_object.true)
    (sym c.has_others.ensures ∙ c.if-not-has_others.true)

pub returns-in-Some : goal.returns-in-Some
returns-in-Some c =
    of_same (Beside (map (λ key. key.now) c.args.keys.now)) c.tree_beside.result c.in-Some.ensures c.tree_beside.ensures

pub returns-in-Ok : goal.returns-in-Ok
returns-in-Ok c = of_same (Beside (map (λ key. key.now) c.args.keys.now)) c.tree_beside-rest.result c.in-Ok.ensures
    c.tree_beside-rest.ensures
