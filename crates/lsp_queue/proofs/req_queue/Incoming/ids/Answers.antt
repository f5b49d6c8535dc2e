use Rattle.std.proofs.Common.{◌≡◌, ◌∙◌, sym, ap, List, [], ◌++◌, is_some, append-nil}
use Rattle.std.specs.FinMap as map
use Rattle.std.specs.List.{list_any}
use Rattle.lsp_message.specs.Id.{same_id}
use Rattle.lsp_message.specs.IdKeys.{id_antisymmetric}
use Rattle.lsp_message.specs.IdLaws.{id_total}
use Rattle.lsp_queue.proofs.Keys.{get_at_key}
use Rattle.lsp_queue.proofs.req_queue.Incoming.ids.Goals as goal

pub returns : goal.returns
returns g c = λ id.
    ap (list_any (same_id id)) (sym (append-nil c.loop-id.ids.items) ∙ ap (λ l. c.loop-id.ids.items ++ l)
    (sym c.in-None.ensures.steps.0) ∙ c.loop-id.invariant ∙ c.into_iter-id-iterator.ensures.into_iter_gives)
    ∙ sym (c.keys-id-items.ensures.has id)
    ∙ sym (ap is_some (get_at_key id_total id_antisymmetric c.self.inside.pending.entries id))
    ∙ ap (λ m. is_some (map.get m id)) c.self.view_is
