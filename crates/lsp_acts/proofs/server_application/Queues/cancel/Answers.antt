use Rattle.std.proofs.Common.{◌≡◌, sym, ◌∙◌, ap, List, [], ◌∷◌, ◌++◌, append_assoc}
use Rattle.std.specs.Vec.Iter.{into_iter_items}
use Rattle.lsp_message.specs.Id.{Id}
use Rattle.lsp_message.specs.Message.{Message}
use Rattle.lsp_acts.specs.Acts.{Queues, with_message}
use Rattle.lsp_acts.specs.View.{queues_of}
use Rattle.lsp_acts.proofs.Acting.{all_done, cancelling, cancelling_push}
use Rattle.lsp_acts.proofs.server_application.Queues.cancel.Goals as goal

pub loop-id-preserved : goal.loop-id-preserved
loop-id-preserved g c =
    let before = c.loop-id.invariant in
    let rest : List Id = into_iter_items c.next.new.self in
    let turn : into_iter_items c.loop-id.id-iterator ≡ c.in-Some.id ∷ rest = c.in-Some.ensures.steps.0 in
    let start : Queues _ = queues_of c.args.self.now in (
      tt,
      tt,
      append_assoc c.loop-id.yielded (c.in-Some.id ∷ []) rest ∙ (ap (λ (l : List Id). c.loop-id.yielded ++ l) (sym turn)
          ∙ before.2),
      c.in_ok-send.ensures ∙ ap (λ (m : Message). with_message (queues_of c.loop-id.self) m)
          c.in_ok-notification.ensures
          ∙ cancelling_push start c.loop-id.yielded c.in-Some.id (queues_of c.loop-id.self) before.3,
    )

pub returns : goal.returns
returns g c =
    let before = c.loop-id.invariant in
    let none = sym c.loop-id.id-iterator.rest.ok.0 ∙ c.in-None.ensures.steps.0 in
    let same = all_done c.loop-id.yielded (into_iter_items c.loop-id.id-iterator) _ (before.2
    ∙ c.into_iter-id-iterator.ensures.into_iter_gives.0) none in
    before.3 ∙ ap (cancelling (queues_of c.args.self.now)) (same ∙ c.in_ok-ids.ensures)
