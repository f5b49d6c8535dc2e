use Rattle.std.proofs.Common.{sym, ap, ◌∙◌}
use Rattle.std.specs.BTreeMap.{get}
use Rattle.lsp_message.specs.Id.{id_cmp}
use Rattle.lsp_watch.proofs.UsedBy.{written, absent, kept}
use Rattle.lsp_watch.specs.Indexed.{without_number}
use Rattle.lsp_watch.proofs.uses.Uses.take_out.Goals as goal

pub returns-in_default-clause-is : goal.returns-in_default-clause-is
returns-in_default-clause-is c = λ q.
    ap (λ m. kept (get id_cmp m q)) c.get_mut.follows.holds-at-none
    ∙ absent c.args.self.now.numbers c.args.id.now c.args.number (sym (ap kept c.in_default.ensures.value)) q

pub returns-clause-is : goal.returns-clause-is
returns-clause-is c =
    written c.args.self.now.numbers (c.get_mut.follows.lender c.remove.new.self) c.args.id.now
    (without_number c.args.number) c.in-Some.numbers.now c.remove.new.self
    (c.get_mut.follows.holds c.remove.new.self) c.in-Some.ensures.value c.remove.ensures.keys
