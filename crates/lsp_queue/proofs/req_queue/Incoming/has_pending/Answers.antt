use Rattle.std.proofs.Common.{◌∙◌, ap, not, ◌==◌, ℕ}
use Rattle.std.specs.FinMap as map
use Rattle.lsp_message.specs.IdLaws.{id_total}
use Rattle.lsp_message.specs.IdKeys.{id_antisymmetric}
use Rattle.lsp_queue.proofs.Keys.{none_pending}
use Rattle.lsp_queue.proofs.req_queue.Incoming.has_pending.Goals as goal

pub returns : goal.returns
returns g c = ap not (ap (λ (n : ℕ). n == 0) c.len.ensures.len ∙ none_pending id_total id_antisymmetric
    c.self.inside.pending.entries ∙ ap (λ m. map.len m == 0) c.self.view_is)
