use Rattle.std.proofs.Common.{◌∙◌, sym, ap, is_some, not}
use Rattle.std.specs.FinMap as map
use Rattle.lsp_message.specs.IdLaws.{id_total}
use Rattle.lsp_message.specs.IdKeys.{id_antisymmetric}
use Rattle.lsp_queue.proofs.Keys.{get_at_key}
use Rattle.lsp_queue.proofs.req_queue.Incoming.is_completed.Goals as goal

pub returns : goal.returns
returns g c = ap not (c.contains_key.ensures ∙ sym (ap is_some (get_at_key id_total id_antisymmetric
    c.self.inside.pending.entries c.args.id.now)) ∙ ap (λ m. is_some (map.get m c.args.id.now)) c.self.view_is)
