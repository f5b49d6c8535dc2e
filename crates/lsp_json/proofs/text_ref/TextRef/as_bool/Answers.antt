use Rattle.std.proofs.Common.{◌∙◌}
use Rattle.lsp_json.specs.Text.{text_json}
use Rattle.lsp_json.proofs.Text.{known}
use Rattle.lsp_json.proofs.Views.{as_bool-of_json}
use Rattle.lsp_json.proofs.text_ref.TextRef.as_bool.Goals as goal

pub returns : goal.returns
returns c =
    let ts = c.args.self.now.element in
    let k = known ts c.args.self.now.stands in
    c.as_bool.ensures (text_json ts) k.begins ∙ as_bool-of_json _ _ k.means
