use Rattle.std.proofs.Common.{◌∙◌, sym, ap}
use Rattle.std.specs.FinMap as map
use Rattle.lsp_message.specs.IdLaws.{id_total}
use Rattle.lsp_message.specs.IdKeys.{id_antisymmetric}
use Rattle.lsp_queue.specs.Queue.{Asked, Pending}
use Rattle.lsp_queue.proofs.Keys.{get_at_key, one_key_removed}
use Rattle.lsp_queue.proofs.req_queue.Outgoing.complete.Goals as goal

pub returns-clause-value : goal.returns-clause-value
returns-clause-value g c =
    c.remove.ensures.value ∙ sym (get_at_key id_total id_antisymmetric c.self.inside.pending.entries c.args.id)
    ∙ ap (λ (p : Asked g.row.O.Denot). map.get p.0 c.args.id) c.self.view_is

pub returns-clause-removed : goal.returns-clause-removed
returns-clause-removed g c =
    ap (λ (m : Pending g.row.O.Denot). (m, c.self.inside.next)) (one_key_removed id_total id_antisymmetric
    c.self.inside.pending.entries c.remove.new.self.entries c.args.id c.remove.ensures.updates.0)
    ∙ ap (λ (p : Asked g.row.O.Denot). (map.remove p.0 c.args.id, p.1)) c.self.view_is
