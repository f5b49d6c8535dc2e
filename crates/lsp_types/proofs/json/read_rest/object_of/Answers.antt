use Rattle.std.proofs.Common.{Some, ap, ◌∙◌}
use Rattle.lsp_types.proofs.RestLemmas.{some_if}
use Rattle.lsp_types.proofs.json.read_rest.object_of.Goals as goal

pub returns : goal.returns
returns c = ap Some c.object.ensures ∙ some_if _ _ c.is_empty.ensures.1 c.if-is_empty.false
