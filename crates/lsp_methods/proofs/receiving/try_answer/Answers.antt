use Rattle.std.proofs.Common.{rules, Err, Ok}
use Rattle.lsp_methods.proofs.Reading.{made_of}
use Rattle.lsp_methods.proofs.receiving.try_answer.Goals as goal

pub returns-in_ok-answer-in-Ok : goal.returns-in_ok-answer-in-Ok
returns-in_ok-answer-in-Ok g c =
    made_of _ _ _ (Ok c.in-Ok.params) (search rules) (made_of _ _ _ c.in_ok-answer-in-Ok.field-0 (search rules)
    (search rules))

pub returns-in-Err : goal.returns-in-Err
returns-in-Err g c = made_of _ _ _ (Err c.in-Err.error) (search rules) (search rules)
