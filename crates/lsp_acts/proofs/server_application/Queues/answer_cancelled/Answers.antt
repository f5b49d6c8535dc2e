use Rattle.std.proofs.Common.{◌∙◌, ap}
use Rattle.std.proofs.lemmas.Result.{IfOk-weaker}
use Rattle.lsp_acts.specs.Acts.{does, replies}
use Rattle.lsp_acts.specs.View.{queues_of}
use Rattle.lsp_acts.proofs.server_application.Queues.answer_cancelled.Goals as goal

pub returns : goal.returns
returns g c =
    rw c.in-Some.is
    (IfOk-weaker c.reply.result _ _ (λ x done. done ∙ ap (λ outcome. does (queues_of c.args.self.now)
    (replies c.in-Some.id outcome)) c.in_ok-outcome.ensures) c.reply.ensures)
