use Rattle.std.proofs.Common.{OnOk, map, refl, subst, sym}
use Rattle.std.specs.Prelude.{codes}
use Rattle.serde_json.specs.Data.{Data}
use Rattle.lsp_json_write.specs.Taken.{Steps, with_value}
use Rattle.lsp_types.specs.Written.{document_symbol, symbol_step, symbol_with}
use Rattle.lsp_types.specs.declared.symbols.DocumentSymbol.TheFolds.{fold_out-DocumentSymbol}
use Rattle.lsp_types.specs.declared.symbols.DocumentSymbol.TheViews.{out-DocumentSymbol}
use Rattle.lsp_types.proofs.WriteLemmas.{◌then◌, first_more, first_written, one_more, whole}
use Rattle.lsp_types.proofs.nested.+write_symbol.Goals as goal

pub loop-child-init : goal.loop-child-init
loop-child-init g t c = λ outer held. held

pub loop-child-preserved : goal.loop-child-preserved
loop-child-preserved g t c = first_more g.S.JsonSink.holds document_symbol _ _ _ _ _ _ c.loop-child-test.true
    c.child-item.is c.loop-child.invariant c.in_ok-write_symbol.ensures

pub returns : goal.returns
returns g t c =
    let holds = g.S.JsonSink.holds in
    let start = c.args.out.now in
    let inside = first_written holds document_symbol c.deref-child-items.result.now c.loop-child.child-index
    c.key.new.self c.begin_array.new.self c.loop-child.out c.end_array.new.self c.in_ok-begin_array.ensures
    c.in_ok-end_array.ensures c.loop-child.invariant c.loop-child-test.false in
    let children = one_more holds (codes "children") _ c.begin_object.new.self c.key.new.self
    c.end_array.new.self c.in_ok-key.ensures inside in
    let written = whole holds start c.begin_object.new.self _ c.end_object.new.self _ refl
    c.in_ok-begin_object.ensures c.end_object.ensures (λ outer has. has then children then
    c.in_ok-write_some.ensures then c.in_ok-write_some-2.ensures then c.in_ok-write_member.ensures then
    c.in_ok-write_member-2.ensures then c.in_ok-write_member-3.ensures then c.in_ok-write_member-4.ensures then
    c.in_ok-write_some-3.ensures) in
    subst (λ tree. OnOk c.end_object.result (Steps holds (with_value tree) start c.end_object.new.self))
    (sym (fold_out-DocumentSymbol Data symbol_step c.args.symbol.now))
    (subst (λ those. OnOk c.end_object.result (Steps holds (with_value (symbol_with
    (out-DocumentSymbol c.args.symbol.now) (map document_symbol those))) start c.end_object.new.self))
    c.deref-child-items.ensures.value written)
