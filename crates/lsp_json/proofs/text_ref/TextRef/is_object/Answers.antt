use Rattle.std.proofs.Common.{◌∙◌}
use Rattle.lsp_json.specs.Text.{text_json}
use Rattle.lsp_json.proofs.Text.{known}
use Rattle.lsp_json.proofs.Looks.{is_object_of}
use Rattle.lsp_json.proofs.text_ref.TextRef.is_object.Goals as goal

pub returns : goal.returns
returns c =
    let ts = c.args.self.now.element in
    let k = known ts c.args.self.now.stands in
    c.is_some.ensures ∙ is_object_of ts c.members.result c.args.self.now.stands
    (c.members.ensures (text_json ts) k.begins)
