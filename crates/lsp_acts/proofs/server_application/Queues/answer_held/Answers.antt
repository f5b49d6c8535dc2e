use Rattle.std.proofs.Common.{◌≡◌, sym, ◌∙◌, ap, List, [], ◌∷◌, ◌++◌, append_assoc}
use Rattle.std.specs.List.{list_any}
use Rattle.std.specs.Prelude.{Err}
use Rattle.std.specs.Vec.Iter.{into_iter_items}
use Rattle.lsp_message.specs.Id.{Id, same_id}
use Rattle.lsp_acts.specs.Acts.{Queues, Act, replies, ended_by_shutdown, does, does_all, ends_all}
use Rattle.lsp_acts.specs.View.{queues_of}
use Rattle.lsp_acts.proofs.Acting.{does_push, all_done, ends_push, none_left}
use Rattle.lsp_acts.proofs.server_application.Queues.answer_held.Goals as goal

pub loop-id-preserved : goal.loop-id-preserved
loop-id-preserved g c =
    let before = c.loop-id.invariant in
    let rest : List Id = into_iter_items c.next.new.self in
    let turn : into_iter_items c.loop-id.id-iterator ≡ c.in-Some.id ∷ rest = c.in-Some.ensures.steps.0 in
    let start : Queues _ = queues_of c.args.self.now in
    let act : Act _ = replies c.in-Some.id (Err ended_by_shutdown) in (
      tt,
      tt,
      append_assoc c.loop-id.yielded (c.in-Some.id ∷ []) rest ∙ (ap (λ (l : List Id). c.loop-id.yielded ++ l) (sym turn)
          ∙ before.2),
      c.in_ok-reply.ensures ∙ (ap (λ outcome. does (queues_of c.loop-id.self) (replies c.in-Some.id outcome))
          c.in_ok-outcome.ensures
          ∙ (ap (λ (d : Queues _). does d act) before.3
          ∙ (sym (does_push start (ends_all c.loop-id.yielded) act) ∙ ap (does_all start)
          (sym (ends_push c.loop-id.yielded c.in-Some.id))))),
    )

pub returns : goal.returns
returns g c =
    let before = c.loop-id.invariant in
    let none = sym c.loop-id.id-iterator.rest.ok.0 ∙ c.in-None.ensures.steps.0 in
    let same = all_done c.loop-id.yielded (into_iter_items c.loop-id.id-iterator) _ (before.2
    ∙ c.into_iter-id-iterator.ensures.into_iter_gives.0) none in
    record {
      ids = c.loop-id.yielded;
      answered = before.3;
      none = ap (λ (d : Queues _). d.held) before.3
          ∙ none_left (queues_of c.args.self.now) c.loop-id.yielded (λ id. ap (list_any (same_id id)) same
          ∙ c.in_ok-ids.ensures id);
    }
