use Rattle.std.proofs.Common.{ap, ◌∙◌}
use Rattle.lsp_message.specs.HeaderPart.{number}
use Rattle.lsp_message.proofs.Numerals.{number-parse, number-no_text}
use Rattle.lsp_message.proofs.frame.header.number.Goals as goal

pub returns-in-Ok : goal.returns-in-Ok
returns-in-Ok c = c.ok.ensures.value ∙ number-parse c.in-Ok.text.now _ c.parse.ensures.value.0
    ∙ ap number c.in-Ok.ensures.cases.0

pub returns-in-Err : goal.returns-in-Err
returns-in-Err c = number-no_text _ c.in-Err.ensures.cases.0
