use Rattle.std.proofs.Common.{◌∙◌}
use Rattle.lsp_watch.proofs.UsedBy.{written, unless, on_err}
use Rattle.lsp_watch.specs.Indexed.{with_number}
use Rattle.lsp_watch.proofs.uses.Uses.add_to_old.Goals as goal

pub returns-in_err-insert-clause-err : goal.returns-in_err-insert-clause-err
returns-in_err-insert-clause-err c = on_err c.from_residual.result (λ q.
    written c.args.self.now.numbers (c.get_mut.follows.lender c.insert.new.self) c.args.id.now (λ ks. ks)
    c.in-Some.numbers.now c.insert.new.self (c.get_mut.follows.holds c.insert.new.self) c.in-Some.ensures.value
    c.in_err-insert.ensures.err q ∙ unless _ _)

pub returns-clause-had : goal.returns-clause-had
returns-clause-had c = λ yes q.
    written c.args.self.now.numbers (c.get_mut.follows.lender c.insert.new.self) c.args.id.now
    (with_number c.args.number)
    c.in-Some.numbers.now c.insert.new.self (c.get_mut.follows.holds c.insert.new.self) c.in-Some.ensures.value
    c.in_ok-insert.ensures.keys q
