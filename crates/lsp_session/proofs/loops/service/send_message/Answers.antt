use Rattle.std.proofs.Common.{refl, []}
use Rattle.std.proofs.lemmas.Result.{err_from_is_err_and}
use Rattle.lsp_message.specs.View.{message_view}
use Rattle.lsp_session.proofs.loops.service.send_message.Goals as goal

pub returns-in_err-send : goal.returns-in_err-send
returns-in_err-send g c =
    let p = err_from_is_err_and c.from_residual.result c.from_residual.ensures.1 in
    rw p.1 (record {
      part = [];
      unsent = message_view c.args.message;
      more = [];
      cut = refl;
      mid = c.args.outbox.now;
      taken = refl;
      refusal = c.in_err-send.field-0.0;
      refuses = c.in_err-send.ensures.sends;
      is = p.2;
    })
