use Rattle.std.proofs.Common.{rules, ◌≡◌, map, take, ◌+◌, [], ◌∷◌, ◌++◌, Ok, sym, subst, ap, ◌∙◌}
use Rattle.std.proofs.lemmas.Grind.{take_at_read}
use Rattle.std.proofs.lemmas.List.{map-append, take_all}
use Rattle.serde_json.proofs.Views.{view-Array}
use Rattle.serde_json.specs.View.{items_of, items_view, view}
use Rattle.lsp_message.specs.Converted.{IsOutcomeOf}
use Rattle.lsp_acts.specs.Publishing.{AreWritten, IsListOf}
use Rattle.lsp_acts.proofs.Writing.{AreWritten-more}
use Rattle.lsp_acts.proofs.act_diagnostics.written.Goals as goal

pub loop-value-preserved : goal.loop-value-preserved
loop-value-preserved g c =
    let i = c.loop-value.value-index in
    let values = c.args.values.now in
    let x = c.value-item.result in
    let trees = c.loop-value.trees.items in
    let ds = map view trees in
    let d = view c.in-Ok.tree in
    let one : IsOutcomeOf (g.T.Described.writes x) (Ok d) = search rules in
    let items : c.push.new.self.items ≡ trees ++ c.in-Ok.tree ∷ [] = search rules in
    let pushed : map view c.push.new.self.items ≡ ds ++ d ∷ [] = ap (map view) items ∙ map-append view trees
    (c.in-Ok.tree ∷ []) in
    let taken : take (i + 1) values ≡ take i values ++ x ∷ [] =
    (take_at_read values i x c.loop-value-test.true).1 ∙ ap (λ y. take i values ++ y ∷ []) (sym c.value-item.is) in
    subst (λ xs. AreWritten g.T.Described.writes xs (items_of (map view c.push.new.self.items))) (sym taken)
    (subst (λ ts. AreWritten g.T.Described.writes (take i values ++ x ∷ []) (items_of ts)) (sym pushed)
    (AreWritten-more g.T.Described.writes (take i values) ds x d c.loop-value.invariant one))

pub returns : goal.returns
returns g c =
    let values = c.args.values.now in
    let trees = c.loop-value.trees in
    let all : take c.loop-value.value-index values ≡ values = take_all c.loop-value.value-index values
    c.loop-value-test.false in
    subst (IsListOf g.T.Described.writes values) (sym (view-Array trees))
    (subst (λ xs. AreWritten g.T.Described.writes xs (items_view trees.items)) all c.loop-value.invariant)
