use Rattle.std.proofs.Common.{◌∙◌, ap, not}
use Rattle.lsp_json.proofs.OtherKeys.{among}
use Rattle.lsp_json.proofs.others.is_other.Goals as goal

pub returns : goal.returns
returns c = ap not (c.contains.ensures.value ∙ among (λ key. key.now) c.args.keys.now c.args.key.now)
