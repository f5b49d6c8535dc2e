use Rattle.std.proofs.Common.{Err, Ok, refl}
use Rattle.lsp_jobs.proofs.job_server.AnsweredBy.with_params.Goals as goal

pub returns-in_ok-make-in-Ok : goal.returns-in_ok-make-in-Ok
returns-in_ok-make-in-Ok g c =
    (Ok c.in-Ok.params, tt, (c.in_ok-make-in-Ok.field-0, c.in_ok-make-in-Ok.ensures, refl))

pub returns-in-Err : goal.returns-in-Err
returns-in-Err g c = (Err c.in-Err.error, (rw c.in-Err.is at c.in_ok-id.ensures.fault), refl)
