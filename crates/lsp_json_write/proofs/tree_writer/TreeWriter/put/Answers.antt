use Rattle.std.proofs.Common.{◌∷◌, ◌++◌, [], ◌≡◌, ◌∙◌, List, IfSome, ap, fold, string_bytes, subst}
use Rattle.serde_json.specs.Data.{Members, put}
use Rattle.serde_json.specs.View.{items_view, members_view, view}
use Rattle.serde_json.specs.declared.value.Value.{Value}
use Rattle.serde_json.proofs.Views.{members_view-insert_entry}
use Rattle.lsp_json_write.specs.declared.tree_writer.Level.TheVariants.{Array, Member}
use Rattle.lsp_json_write.specs.Taken.{open_array, open_object, with_value}
use Rattle.lsp_json_write.specs.Tree.{root_taken, within}
use Rattle.lsp_json_write.proofs.Trees.{innermost, innermost_taken}
use Rattle.lsp_json_write.proofs.WrittenTrees.{items_view-add_item}
use Rattle.lsp_json_write.proofs.tree_writer.TreeWriter.put.Goals as goal

pub returns-in_ok-push-in-Some-Array-2 : goal.returns-in_ok-push-in-Some-Array-2
returns-in_ok-push-in-Some-Array-2 c =
    let root = root_taken c.args.self.now.root in
    let rest = c.pop.new.self.items in
    let outer = fold within root rest in
    let items = c.in-Some-Array.items.items in
    let more : items_view c.push.new.self.items ≡ _ = ap items_view {x = c.push.new.self.items}
    c.in_ok-push-in-Some-Array.ensures.items ∙ items_view-add_item items c.args.value in
    let level = Array c.in-Some-Array.items in
    let split = c.in-Some-Array.ensures.items ∙ ap (λ level. rest ++ level ∷ []) c.in-Some-Array.field-0-is in
    λ t h. subst (λ s. IfSome (with_value (view c.args.value) s)
    (λ u. fold within root c.push-in-Some-Array.new.self.items ≡ u)) (innermost_taken root _ rest level t split h)
    (innermost root _ rest _ c.in_ok-push-in-Some-Array-2.ensures.items ∙ ap (λ ds. open_array ds outer) more)

pub returns-in_ok-push-in-Some-Member : goal.returns-in_ok-push-in-Some-Member
returns-in_ok-push-in-Some-Member c =
    let root = root_taken c.args.self.now.root in
    let rest = c.pop.new.self.items in
    let outer = fold within root rest in
    let members = c.in-Some-Member.members.entries in
    let more : members_view c.insert.new.self.entries
    ≡ put (string_bytes c.in-Some-Member.key) (view c.args.value) (members_view members) =
    ap members_view c.in_ok-insert-in-Some-Member.ensures.entries
    ∙ members_view-insert_entry members c.in-Some-Member.key c.args.value in
    let level = Member c.in-Some-Member.members c.in-Some-Member.key in
    let split = c.in-Some-Member.ensures.items ∙ ap (λ level. rest ++ level ∷ []) c.in-Some-Member.field-0-is in
    λ t h. subst (λ s. IfSome (with_value (view c.args.value) s)
    (λ u. fold within root c.push-in-Some-Member.new.self.items ≡ u)) (innermost_taken root _ rest level t split h)
    (innermost root _ rest _ c.in_ok-push-in-Some-Member.ensures.items ∙ ap (λ ms. open_object ms outer) more)
