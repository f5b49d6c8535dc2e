use Rattle.std.proofs.Common.{List, ◌≡◌, ◌∙◌, sym, ap, string_bytes, arith, rules}
use Rattle.serde_json.specs.Data.{item, put}
use Rattle.serde_json.specs.View.{members_view, view}
use Rattle.serde_json.specs.declared.value.Value.{Value}
use Rattle.serde_json.proofs.Views.{members_view-insert_entry}
use Rattle.lsp_json.specs.Text.{text_items, text_members}
use Rattle.lsp_json.proofs.Trees.{with_items, with_items-no_items, with_items-push}
use Rattle.lsp_json.proofs.tree.+tree.Goals as goal

pub array-items-preserved : goal.array-items-preserved
array-items-preserved t c =
    let done = c.items.trees.items in
    let v = c.in_ok-tree.field-0 in
    let rest = text_items c.next.new.self.items in
    let here = c.in-Some.ensures.value ∙ ap (λ d. item d rest) (sym c.in_ok-tree.ensures) in
    let more = sym (with_items-push done v rest)
    ∙ ap (λ vs. with_items vs rest) (sym {A = List Value} c.in_ok-push.ensures.items) in (
      c.items.invariant.0 ∙ ap (with_items done) here
          ∙ more,
      omega (arith, c.in-Some.ensures.deep_later, c.items.invariant.1),
    )

pub array-returns : goal.array-returns
array-returns t c =
    let done = c.items.trees.items in
    sym (c.items.invariant.0 ∙ ap (with_items done) c.in_default.ensures.value.0 ∙ with_items-no_items done)

pub object-members-preserved : goal.object-members-preserved
object-members-preserved t c =
    let done = members_view c.members.trees.entries in
    let key = c.in-Some.key.now in
    let value = c.in_ok-value.value in
    let copied : string_bytes c.in_ok-name.name ≡ key = search rules in
    let inserted : members_view c.insert.new.self.entries ≡ put key (view value) done =
    ap members_view c.in_ok-insert.ensures.entries
    ∙ members_view-insert_entry c.members.trees.entries c.in_ok-name.name value
    ∙ ap (λ k. put k (view value) done) copied in
    let whole = inserted ∙ ap (λ d. put key d done) c.in_ok-value.ensures in (
      c.members.invariant.0 ∙ c.in-Some.ensures.value done ∙ ap (text_members c.next.new.self.members) (sym whole),
      omega (arith, c.in-Some.ensures.deep_later, c.members.invariant.1),
    )
