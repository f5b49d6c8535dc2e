use Rattle.std.proofs.Common.{rules, refl, Err, Ok}
use Rattle.lsp_features.proofs.table.outcome.Goals as goal

pub returns-in_ok-result_text-in-Ok : goal.returns-in_ok-result_text-in-Ok
returns-in_ok-result_text-in-Ok g c =
    (Ok c.in-Ok.params, search rules, (c.in_ok-found-in-Ok.found, search rules, search rules))

pub returns-in-Err : goal.returns-in-Err
returns-in-Err g c = (Err c.in-Err.error, search rules, (refl, refl))
