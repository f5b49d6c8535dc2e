use Rattle.std.proofs.Common.{◌≡◌, ◌∙◌, sym, ap, Bool, List, [], ◌++◌, append-nil}
use Rattle.std.specs.FinMap as map
use Rattle.std.specs.List.{filter}
use Rattle.std.specs.Map.{keys_of}
use Rattle.lsp_message.specs.Id.{Id}
use Rattle.lsp_message.specs.IdKeys.{id_antisymmetric}
use Rattle.lsp_message.specs.IdLaws.{id_total}
use Rattle.lsp_queue.specs.Queue.{Asked, pending_of}
use Rattle.lsp_queue.proofs.Keys.{entries_ascending}
use Rattle.lsp_queue.proofs.req_queue.Outgoing.ids_of.Goals as goal

pub returns : goal.returns
returns g c =
    let such : g.row.O.Denot → Bool = λ kept. g.O.PartialEq.eq kept c.args.wanted.now in
    let named : List (Id × g.row.O.Denot) → List Id = λ es. keys_of (filter (λ e. such e.1) es) in
    sym (append-nil c.loop-id.ids.items) ∙ ap (λ l. c.loop-id.ids.items ++ named l) (sym c.in-None.ensures.steps.0)
    ∙ c.loop-id.invariant ∙ ap named (c.into_iter-id-iterator.ensures.into_iter_gives ∙ c.iter-id-items.ensures.rest)
    ∙ ap named (sym (entries_ascending id_total id_antisymmetric c.self.inside.pending.entries
    c.iter-id-items.ensures.ordered))
    ∙ ap (λ (q : Asked g.row.O.Denot). named (map.entries (pending_of q))) c.self.view_is
