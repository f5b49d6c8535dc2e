use Rattle.std.proofs.Common.{◌≡◌, ◌+◌, [], ◌∷◌, ◌++◌, take, string_bytes, string_cmp, sym, ap, ◌∙◌, subst, arith}
use Rattle.std.proofs.Common.{rules, append_assoc, append-nil, take_all}
use Rattle.std.proofs.lemmas.List.{take_more}
use Rattle.std.proofs.lemmas.Result.{on_ok_weaker}
use Rattle.std.specs.List.Sorted.{IsStrictlySortedBy}
use Rattle.std.specs.Map.{keys_of}
use Rattle.serde_json.specs.View.{items_view, members_view, view}
use Rattle.serde_json.proofs.Views.{Entry, put_last, view-Array, view-Object}
use Rattle.lsp_json_write.specs.Taken.{open_array, open_object, with_key, with_value, Steps}
use Rattle.lsp_json_write.specs.Text.{HasWritten}
use Rattle.lsp_json_write.proofs.Steps.{member_taken}
use Rattle.lsp_json_write.proofs.WrittenTrees.{are_before_entry, items_view-add_item}
use Rattle.lsp_json_write.proofs.json_writer.JsonWriter.+tree.Goals as goal

pub tree-returns-in_ok-items-in-Array : goal.tree-returns-in_ok-items-in-Array
tree-returns-in_ok-items-in-Array t c =
    let seen = ap view c.in-Array.is ∙ view-Array c.in-Array.items in
    let start = c.args.self.now in
    on_ok_weaker c.end_array.result
    (λ ended. subst (λ d. Steps HasWritten (with_value d) start c.end_array.new.self) (sym seen)
    (λ taken h. ended (open_array (items_view c.in-Array.items.items) taken)
    (c.in_ok-items-in-Array.ensures taken (c.in_ok-begin_array-in-Array.ensures taken h)))) c.end_array.ensures

pub tree-returns-in_ok-members-in-Object : goal.tree-returns-in_ok-members-in-Object
tree-returns-in_ok-members-in-Object t c =
    let seen = ap view c.in-Object.is ∙ view-Object c.in-Object.members in
    let start = c.args.self.now in
    on_ok_weaker c.end_object.result
    (λ ended. subst (λ d. Steps HasWritten (with_value d) start c.end_object.new.self) (sym seen)
    (λ taken h. ended (open_object (members_view c.in-Object.members.entries) taken)
    (c.in_ok-members-in-Object.ensures taken (c.in_ok-begin_object-in-Object.ensures taken h)))) c.end_object.ensures

pub items-loop-item-preserved : goal.items-loop-item-preserved
items-loop-item-preserved t c =
    let l = c.loop-item in
    let xs = c.deref-item-items.result.now in
    let x = c.item-item.result in
    let done = take l.item-index xs in
    let more : take (l.item-index + 1) xs ≡ done ++ x ∷ [] =
    take_more xs l.item-index x (omega arith) ∙ ap (λ y. done ++ y ∷ []) (sym c.item-item.is) in
    λ outer h. subst (λ ds. HasWritten c.tree.new.self (open_array ds outer))
    (sym (ap items_view more ∙ items_view-add_item done x))
    (c.in_ok-tree.ensures (open_array (items_view done) outer) (l.invariant outer h))

pub items-returns : goal.items-returns
items-returns t c =
    let l = c.loop-item in
    let xs = c.deref-item-items.result.now in
    let whole : take l.item-index xs ≡ c.args.items.now.items =
    take_all l.item-index xs (omega arith) ∙ c.deref-item-items.ensures.value in
    λ outer h. subst (λ ys. HasWritten l.self (open_array (items_view ys) outer)) whole (l.invariant outer h)

pub members-loop-key-preserved : goal.members-loop-key-preserved
members-loop-key-preserved t c =
    let l = c.loop-key in
    let done = l.invariant.0 in
    let e : Entry = (c.in-Some.key.now, c.in-Some.member.now) in
    let k = string_bytes c.in-Some.key.now in
    let left = c.next.new.self in
    let step : l.key-iterator ≡ e ∷ left = c.in-Some.ensures.steps in
    let all : c.args.members.now.entries ≡ done ++ e ∷ left = l.invariant.1 ∙ ap (λ es. done ++ es) step in
    let sorted = subst (λ es. IsStrictlySortedBy string_cmp (keys_of es)) all c.iter-key-items.ensures.ordered in
    let named : c.as_str.result.now ≡ k = search rules in
    let took = subst (λ n. Steps HasWritten (with_key n) l.self c.key.new.self) named c.in_ok-key.ensures in (
      done ++ e ∷ [],
      all ∙ sym (append_assoc done (e ∷ []) left),
      λ outer h. subst (λ ms. HasWritten c.tree.new.self (open_object ms outer)) (put_last done e left sorted)
          (member_taken HasWritten k (view e.1) (members_view done) outer l.self c.key.new.self c.tree.new.self
          (are_before_entry done e left sorted) took c.in_ok-tree.ensures (l.invariant.2 outer h)),
    )

pub members-returns : goal.members-returns
members-returns t c =
    let l = c.loop-key in
    let done = l.invariant.0 in
    let all : c.args.members.now.entries ≡ done =
    l.invariant.1 ∙ ap (λ es. done ++ es) c.in-None.ensures.steps.0 ∙ append-nil done in
    λ outer h. subst (λ es. HasWritten l.self (open_object (members_view es) outer)) (sym all) (l.invariant.2 outer h)
