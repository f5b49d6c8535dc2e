use Rattle.std.proofs.Common.{◌∙◌, ap, ◌+◌, pos}
use Rattle.std.specs.FinMap as map
use Rattle.lsp_message.specs.Id.{number}
use Rattle.lsp_queue.specs.Queue.{Asked, Pending}
use Rattle.lsp_queue.proofs.req_queue.Outgoing.register_value.Goals as goal

pub returns-in-Ok-clause-ok : goal.returns-in-Ok-clause-ok
returns-in-Ok-clause-ok g c =
    let next = c.self.inside.next in
    ap (λ (m : Pending g.row.O.Denot). (m, next + 1)) (c.in-Ok.ensures.ok
    ∙ ap (λ id. map.insert (map.from_entries c.self.inside.pending.entries) id c.args.«data») c.id_of.ensures)
    ∙ ap (λ (p : Asked g.row.O.Denot). (map.insert p.0 (number (pos p.1)) c.args.«data», p.1 + 1)) c.self.view_is
