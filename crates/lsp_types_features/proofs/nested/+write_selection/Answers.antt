use Rattle.std.proofs.Common.{◌≡◌, ◌∙◌, None, OnOk, Some, codes, option_map, refl, sym, subst, rules}
use Rattle.serde_json.specs.Data.{Data}
use Rattle.lsp_json_write.specs.Taken.{Steps, with_value}
use Rattle.lsp_types.proofs.WriteLemmas.{◌then◌, no_more, one_more, whole}
use Rattle.lsp_types_features.specs.Written.{selection_range, selection_step, selection_with}
use Rattle.lsp_types_features.specs.declared.places.SelectionRange.TheFolds.{fold_out-SelectionRange}
use Rattle.lsp_types_features.specs.declared.places.SelectionRange.TheViews.{out-SelectionRange}
use Rattle.lsp_types_features.proofs.Selections.{around_of}
use Rattle.lsp_types_features.proofs.nested.+write_selection.Goals as goal

pub returns-in_ok-write_member-in-Some : goal.returns-in_ok-write_member-in-Some
returns-in_ok-write_member-in-Some g t c =
    let holds = g.S.JsonSink.holds in
    let start = c.args.out.now in
    let it = out-SelectionRange c.args.selection.now in
    let around : Some (selection_range c.deref.result.now) ≡ option_map (λ parent. selection_range parent.value)
    (out-SelectionRange c.args.selection.now).parent
    = search rules
    in
    let parent = one_more holds (codes "parent") (selection_range c.deref.result.now) c.begin_object.new.self
    c.key.new.self c.write_selection.new.out c.in_ok-key-in-Some.ensures c.in_ok-write_selection-in-Some.ensures in
    let written = whole holds start c.begin_object.new.self _ c.end_object.new.self _ refl
    c.in_ok-begin_object.ensures c.end_object.ensures
    (λ outer has. has then parent then c.in_ok-write_member-in-Some.ensures) in
    subst (λ tree. OnOk c.end_object.result (Steps holds (with_value tree) start c.end_object.new.self))
    (sym (fold_out-SelectionRange Data selection_step c.args.selection.now))
    (subst (λ parent. OnOk c.end_object.result (Steps holds (with_value (selection_with it parent)) start
    c.end_object.new.self)) (around ∙ around_of it.range it.parent) written)

pub returns-in_ok-write_member-in-None : goal.returns-in_ok-write_member-in-None
returns-in_ok-write_member-in-None g t c =
    let holds = g.S.JsonSink.holds in
    let start = c.args.out.now in
    let it = out-SelectionRange c.args.selection.now in
    let around : None ≡ option_map (λ parent. selection_range parent.value)
    (out-SelectionRange c.args.selection.now).parent
    = search rules
    in
    let parent = no_more holds (codes "parent") c.begin_object.new.self in
    let written = whole holds start c.begin_object.new.self _ c.end_object-in-None.new.self _ refl
    c.in_ok-begin_object.ensures c.end_object-in-None.ensures
    (λ outer has. has then parent then c.in_ok-write_member-in-None.ensures) in
    subst (λ tree. OnOk c.end_object-in-None.result (Steps holds (with_value tree) start c.end_object-in-None.new.self))
    (sym (fold_out-SelectionRange Data selection_step c.args.selection.now))
    (subst (λ parent. OnOk c.end_object-in-None.result (Steps holds (with_value (selection_with it parent)) start
    c.end_object-in-None.new.self)) (around ∙ around_of it.range it.parent) written)
