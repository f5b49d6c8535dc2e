use Rattle.std.proofs.Common.{rules, ◌≡◌, ◌++◌, [], ◌∷◌, Some, codes, sym, subst}
use Rattle.std.proofs.lemmas.Result.{err_from_is_err_and}
use Rattle.serde_json.specs.Find.{get}
use Rattle.lsp_json.specs.JsonRef.{items_data, json_data}
use Rattle.lsp_types.specs.Reads.{EachItem, InSome, but_null}
use Rattle.lsp_types.specs.Symbols.{IsSymbolWithin, items_or_none}
use Rattle.lsp_types.specs.declared.symbols.DocumentSymbol.TheViews.{out-DocumentSymbol}
use Rattle.lsp_types.proofs.ItemLemmas.{ReadBefore, all_before, before_more, next_fits}
use Rattle.lsp_types.proofs.ReadLemmas.{◌ends◌, ◌then◌}
use Rattle.lsp_types.proofs.SymbolLemmas.{around, inside, none_within}
use Rattle.lsp_types.proofs.nested.+symbols_within.Goals as goal

pub symbol_within-returns-then-levels-eq0 : goal.symbol_within-returns-then-levels-eq0
symbol_within-returns-then-levels-eq0 t c fits it one = none_within _ _ _ c.if-levels-eq0.true one

pub symbol_within-returns-in_err-children : goal.symbol_within-returns-in_err-children
symbol_within-returns-in_err-children t c =
    let p = err_from_is_err_and c.from_residual.result c.from_residual.ensures.1 in
    rw (p.1, p.2) (λ fits it one.
    c.in_err-children.ensures fits (out-DocumentSymbol it).children (inside _ _ _ c.if-levels-eq0.false one).1)

pub symbol_within-returns-in-Ok : goal.symbol_within-returns-in-Ok
symbol_within-returns-in-Ok t c =
    let read = c.new.ensures then c.required.ensures then c.optional.ensures then c.required-2.ensures then
    c.optional-2.ensures then c.optional-3.ensures then c.required-3.ensures then c.required-4.ensures
    ends c.in-Ok.ensures in
    around _ _ _ c.if-levels-eq0.false (read, c.in_ok-children.ensures)

pub symbol_within-returns-in-Err : goal.symbol_within-returns-in-Err
symbol_within-returns-in-Err t c fits it one =
    (c.new.ensures then c.required.ensures then c.optional.ensures then c.required-2.ensures then
    c.optional-2.ensures then c.optional-3.ensures then c.required-3.ensures then c.required-4.ensures
    ends c.in-Err.ensures) fits _ (inside _ _ _ c.if-levels-eq0.false one).0

pub children_within-returns-in_err-child : goal.children_within-returns-in_err-child
children_within-returns-in_err-child t c =
    let listed : items_or_none (but_null (get (codes "children") (json_data c.args.value.now)))
    ≡ Some (items_data c.in-Some-items.items) = search rules in
    let p = err_from_is_err_and c.from_residual.result c.from_residual.ensures.1 in
    rw (p.1, p.2) (λ fits found each.
    let one = next_fits (IsSymbolWithin c.args.levels) _ _ _ _ _ _ c.loop-item.invariant c.in-Some-next.ensures
    (subst (λ list. InSome (λ items. EachItem (IsSymbolWithin c.args.levels) items found.items) list) listed each) in
    c.in_err-child.ensures fits one.0 one.1)

pub children_within-loop-item-preserved : goal.children_within-loop-item-preserved
children_within-loop-item-preserved t c =
    let pushed : c.push.new.self.items ≡ c.loop-item.children.items ++ c.in_ok-child.child ∷ [] = search rules in
    subst (ReadBefore (IsSymbolWithin c.args.levels) (items_data c.in-Some-items.items) (items_data c.next.new.self))
    (sym pushed)
    (before_more (IsSymbolWithin c.args.levels) _ _ _ _ _ _ c.loop-item.invariant c.in-Some-next.ensures
    c.in_ok-child.ensures)

pub children_within-returns : goal.children_within-returns
children_within-returns t c =
    let listed : items_or_none (but_null (get (codes "children") (json_data c.args.value.now)))
    ≡ Some (items_data c.in-Some-items.items) = search rules in
    let each : EachItem (IsSymbolWithin c.args.levels) (items_data c.in-Some-items.items) c.loop-item.children.items
    = all_before (IsSymbolWithin c.args.levels) _ _ _ c.loop-item.invariant c.in_default-next.ensures.0 in
    subst (λ list. InSome (λ items. EachItem (IsSymbolWithin c.args.levels) items c.loop-item.children.items) list)
    (sym listed) each
