use Rattle.std.proofs.Common.{refl, ◌∙◌, ap, map}
use Rattle.std.proofs.lemmas.Result.{IfOk-weaker}
use Rattle.lsp_queue.specs.Queue.{Pending}
use Rattle.lsp_acts.specs.Acts.{Queues, does_all}
use Rattle.lsp_acts.specs.View.{act_view, queues_of}
use Rattle.lsp_acts.proofs.server_application.«ServerApplication+S+S+PendingData».on_shutdown.Goals as goal

pub returns : goal.returns
returns g c =
    let after = c.perform_all.new.self in
    let done = c.in_ok-perform_all.ensures in
    let start : Queues _ = queues_of c.args.self.now.queues in
    let acts = map (act_view g.S.PendingData.PartialEq.eq) c.in_ok-acts.acts.items in
    let queues = done.queues ∙ ap (λ (held : Pending (Unit {0})). does_all (record {
      held = held;
      asked = start.asked;
      sent = start.sent;
    }) acts) c.complete.ensures.removed in
    IfOk-weaker c.answer_held.result _ _ (λ x held. (
      (after.server, queues_of after.queues),
      (_, _, c.in_ok-acts.ensures, done.back, queues),
      held,
      refl,
    )) c.answer_held.ensures
