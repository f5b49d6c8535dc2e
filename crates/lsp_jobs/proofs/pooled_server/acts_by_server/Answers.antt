use Rattle.std.proofs.Common.{◌≡◌, refl, ◌∙◌, ap, map, rules, List, [], ◌∷◌}
use Rattle.std.proofs.lemmas.Iterator.{YieldsList-from_map_by}
use Rattle.std.proofs.lemmas.Iterator.Adapters.{YieldsList-from_vec}
use Rattle.std.proofs.lemmas.Iterator.Consumers.{map_from_collect, YieldsList-at}
use Rattle.std.proofs.lemmas.Result.{IfOk-weaker}
use Rattle.lsp_acts.specs.View.{act_view}
use Rattle.lsp_jobs.specs.Asking.{by_server, same_origin}
use Rattle.lsp_jobs.proofs.pooled_server.acts_by_server.Goals as goal

-- one map after another
both : {A B C : Type 0} (f : A → B) (g : B → C) (xs : List A) → map (λ x. g (f x)) xs ≡ map g (map f xs)
both f g [] = refl
both {C = C} f g (x ∷ xs) = ap (λ (l : List C). g (f x) ∷ l) (both f g xs)

pub returns : goal.returns
returns g c =
    let seen = act_view g.P.PartialEq.eq in
    IfOk-weaker c.collect.result _ _ (λ all is. is ∙ both seen by_server c.args.acts.items)
    (map_from_collect _ c.collect.ensures.ran (YieldsList-from_map_by _ (act_view (same_origin g.P.PartialEq.eq))
    (λ act. by_server (seen act))
    (YieldsList-at c.map.ensures.source (YieldsList-from_vec c.args.acts.items (search rules) (search rules)))
    c.map.ensures.closure (λ act turned then called. search rules)))
