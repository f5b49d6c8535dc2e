use Rattle.std.proofs.Common.{arith}
use Rattle.std.proofs.lemmas.Map.Text.{text_keys}
use Rattle.lsp_model.proofs.line_counts.LineCounts.close.Goals as goal

pub returns-clause-others : goal.returns-clause-others
returns-clause-others c = λ q h. grind (arith, text_keys)
