use Rattle.std.proofs.Common.{◌∙◌, ap}
use Rattle.std.proofs.lemmas.Result.{IfOk-weaker}
use Rattle.lsp_acts.specs.Acts.{Queues, answers_cancelled}
use Rattle.lsp_acts.specs.View.{queues_of, seen}
use Rattle.lsp_acts.proofs.server_application.«ServerApplication+S+S+PendingData».on_notification.Goals as goal

pub returns : goal.returns
returns g c =
    let after = c.perform_all.new.self in
    let done = c.in_ok-perform_all.ensures in
    IfOk-weaker c.answer_cancelled.result _ _ (λ x same. (
      seen after,
      (_, _, c.in_ok-acts.ensures, done.back, done.queues),
      ap (λ (d : Queues _). (after.server, d)) (same ∙ ap (answers_cancelled (queues_of after.queues))
          c.in_ok-cancelled.ensures),
    )) c.answer_cancelled.ensures
