use Rattle.std.proofs.Common.{Some, sym, ap, ◌∙◌}
use Rattle.lsp_message.specs.Id.{same_id}
use Rattle.lsp_watch.proofs.UsedBy.{changed_by}
use Rattle.lsp_watch.specs.Indexed.{with_number, numbers_at, added}
use Rattle.lsp_watch.proofs.uses.Uses.add_new.Goals as goal

pub returns-clause-ok : goal.returns-clause-ok
returns-clause-ok c = λ q.
    changed_by c.args.self.now.numbers c.insert-2.new.self c.in_ok-id.id (with_number c.args.number)
    (Some c.insert.new.self) c.in_ok-insert-2.ensures.updates
    (c.in_ok-insert.ensures.keys
    ∙ ap (with_number c.args.number) (c.new-numbers.ensures.empty
    ∙ sym (ap (λ k. numbers_at c.args.self.now k) c.in_ok-id.ensures ∙ c.requires))) q
    ∙ ap (λ k. added (same_id q k) c.args.number (numbers_at c.args.self.now q)) c.in_ok-id.ensures
