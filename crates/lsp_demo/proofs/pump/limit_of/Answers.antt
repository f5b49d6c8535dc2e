use Rattle.std.proofs.Common.{◌∙◌}
use Rattle.lsp_message.proofs.Numerals.{number-parse}
use Rattle.lsp_demo.proofs.pump.limit_of.Goals as goal

pub returns : goal.returns
returns c = c.ok.ensures.value ∙ number-parse c.args.word.now _ c.parse.ensures.value.0
