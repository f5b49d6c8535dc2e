use Rattle.std.proofs.Common.{◌∙◌, ap}
use Rattle.lsp_json.specs.Text.{text_json}
use Rattle.lsp_json.proofs.Text.{known}
use Rattle.std.specs.Prelude.{option_and_then}
use Rattle.serde_json.specs.Read.{number_of}
use Rattle.lsp_json.proofs.Views.{as_number-of_json}
use Rattle.lsp_json.proofs.text_ref.TextRef.as_number.Goals as goal

pub returns-in_err-as_number : goal.returns-in_err-as_number
returns-in_err-as_number c =
    let ts = c.args.self.now.element in
    let k = known ts c.args.self.now.stands in
    rw c.from_residual.ensures
    (ap (option_and_then number_of) (c.in_err-as_number.ensures (text_json ts) k.begins)
    ∙ as_number-of_json _ _ k.means)

pub returns : goal.returns
returns c =
    let ts = c.args.self.now.element in
    let k = known ts c.args.self.now.stands in
    c.number.ensures ∙ ap (option_and_then number_of) (c.in_ok-as_number.ensures (text_json ts) k.begins)
    ∙ as_number-of_json _ _ k.means
