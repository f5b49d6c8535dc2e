use Rattle.std.proofs.Common.{rules, Err, Ok}
use Rattle.lsp_acts.proofs.Reading.{made_of}
use Rattle.lsp_acts.proofs.server.Act.from_request.Goals as goal

pub returns-in-Ok : goal.returns-in-Ok
returns-in-Ok g c = made_of _ _ _ (Ok c.in-Ok.params) (search rules) (search rules)

pub returns-in-Err : goal.returns-in-Err
returns-in-Err g c = made_of _ _ _ (Err c.in-Err.error) (search rules) (search rules)
