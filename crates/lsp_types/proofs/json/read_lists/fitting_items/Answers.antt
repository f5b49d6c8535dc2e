use Rattle.std.proofs.Common.{rules, ◌≡◌, [], ◌∷◌, ◌++◌, sym, subst}
use Rattle.lsp_json.specs.JsonRef.{items_data, json_data}
use Rattle.lsp_types.proofs.ItemLemmas.{FitBefore, fits_more}
use Rattle.lsp_types.proofs.json.read_lists.fitting_items.Goals as goal

pub loop-item-preserved-else-is_err : goal.loop-item-preserved-else-is_err
loop-item-preserved-else-is_err g c =
    let pushed : c.push.new.self.items ≡ c.loop-item.values.items ++ c.in-Some-2.value ∷ [] = search rules in
    let reads : g.T.FromJson.reads (json_data c.in-Some.item) c.in-Some-2.value = search rules in
    subst (FitBefore g.T.FromJson.reads (items_data c.args.items) (items_data c.next.new.self)) (sym pushed)
    (fits_more g.T.FromJson.reads _ _ _ _ _ _ c.loop-item.invariant c.in-Some.ensures reads)
