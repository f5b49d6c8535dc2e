use Rattle.std.proofs.Common.{◌∙◌, sym, ap}
use Rattle.std.specs.FinMap as map
use Rattle.lsp_message.specs.IdLaws.{id_total}
use Rattle.lsp_message.specs.IdKeys.{id_antisymmetric}
use Rattle.lsp_queue.proofs.Keys.{get_at_key, one_key_removed}
use Rattle.lsp_queue.proofs.req_queue.Incoming.complete.Goals as goal

pub returns-clause-value : goal.returns-clause-value
returns-clause-value g c = c.remove.ensures.value ∙ sym (get_at_key id_total id_antisymmetric
    c.self.inside.pending.entries c.args.id.now) ∙ ap (λ m. map.get m c.args.id.now) c.self.view_is

pub returns-clause-removed : goal.returns-clause-removed
returns-clause-removed g c = one_key_removed id_total id_antisymmetric c.self.inside.pending.entries
    c.remove.new.self.entries c.args.id.now c.remove.ensures.updates.0 ∙ ap (λ m. map.remove m c.args.id.now)
    c.self.view_is
