use Rattle.std.proofs.Common.{◌≡◌, ◌∙◌, not, ◌&&◌, ap, rules, filter}
use Rattle.std.specs.List.{list_any}
use Rattle.std.proofs.lemmas.Fn.{filter_same}
use Rattle.serde_json.specs.View.{view}
use Rattle.lsp_capabilities.specs.Knows.{is_such, is_ended}
use Rattle.lsp_capabilities.specs.Registrations.{is_place}
use Rattle.lsp_capabilities.proofs.Items.{any_filtered, all_stay}
use Rattle.lsp_capabilities.proofs.registrations.Registrations.settle.Goals as goal

pub returns-then-is_none-clause-registered : goal.returns-then-is_none-clause-registered
returns-then-is_none-clause-registered c = λ such.
    all_stay c.args.self.now.unconfirmed.items c.args.at c.args.succeeds c.if-is_none.ensures such
    c.args.self.now.registered.items

pub returns-clause-registered : goal.returns-clause-registered
returns-clause-registered c = λ such.
    let kept : c.retain.new.self.items ≡ filter (λ it. not (is_ended c.args.self.now.unconfirmed.items c.args.at
    c.args.succeeds it.place (view it.value))) c.args.self.now.registered.items
    = filter_same _ _ _ (λ x b f' k. search rules) _ _ c.retain.ensures.filtered in
    ap (list_any (is_such such)) kept
    ∙ any_filtered (is_such such) (λ it. not (is_ended c.args.self.now.unconfirmed.items c.args.at
    c.args.succeeds it.place (view it.value))) c.args.self.now.registered.items

pub returns-clause-unconfirmed : goal.returns-clause-unconfirmed
returns-clause-unconfirmed c = λ such.
    let kept : c.retain-2.new.self.items ≡ filter (λ it. not (c.args.succeeds && is_place it.place c.args.at))
    c.args.self.now.unconfirmed.items
    = filter_same _ _ _ (λ x b f' k. search rules) _ _ c.retain-2.ensures.filtered in
    ap (list_any (is_such such)) kept
    ∙ any_filtered (is_such such) (λ it. not (c.args.succeeds && is_place it.place c.args.at))
    c.args.self.now.unconfirmed.items
