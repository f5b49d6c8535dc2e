use Rattle.std.proofs.Common.{◌∙◌, sym, ap}
use Rattle.std.specs.FinMap as map
use Rattle.lsp_message.specs.IdLaws.{id_total}
use Rattle.lsp_message.specs.IdKeys.{id_antisymmetric}
use Rattle.lsp_queue.specs.Queue.{pending_of}
use Rattle.lsp_queue.proofs.Keys.{get_at_key}
use Rattle.lsp_queue.proofs.req_queue.Outgoing.«data».Goals as goal

pub returns : goal.returns
returns g c = c.get.ensures.value ∙ sym (get_at_key id_total id_antisymmetric c.self.inside.pending.entries
    c.args.id.now) ∙ ap (λ m. map.get (pending_of m) c.args.id.now) c.self.view_is
