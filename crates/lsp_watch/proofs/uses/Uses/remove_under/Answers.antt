use Rattle.std.proofs.Common.{None, sym, ◌∙◌}
use Rattle.lsp_watch.proofs.UsedBy.{changed_by, unless}
use Rattle.lsp_watch.proofs.uses.Uses.remove_under.Goals as goal

pub returns-then-take_out : goal.returns-then-take_out
returns-then-take_out c = λ q.
    changed_by c.take_out.new.self.numbers c.remove.new.self c.args.id.now (λ ks. ks) None c.remove.ensures.updates
    (sym (c.take_out.ensures.none c.if-take_out.true)) q ∙ unless _ _ ∙ c.take_out.ensures.is q
