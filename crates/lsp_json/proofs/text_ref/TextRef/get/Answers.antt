use Rattle.lsp_json.specs.Text.{text_json}
use Rattle.lsp_json.proofs.Text.{known}
use Rattle.lsp_json.proofs.Looks.{got, got_none}
use Rattle.lsp_json.proofs.text_ref.TextRef.get.Goals as goal

pub returns-in_err-element : goal.returns-in_err-element
returns-in_err-element c =
    let ts = c.args.self.now.element in
    let k = known ts c.args.self.now.stands in
    rw c.from_residual.ensures
    (got_none ts c.args.key.now c.args.self.now.stands (c.in_err-element.ensures (text_json ts) k.begins))

pub invariant_of-result : goal.invariant_of-result
invariant_of-result c =
    let ts = c.args.self.now.element in
    let k = known ts c.args.self.now.stands in
    record {
      stands = (got ts c.in_ok-element.element c.args.key.now c.args.self.now.stands
          (c.in_ok-element.ensures (text_json ts) k.begins)).0;
    }

pub returns : goal.returns
returns c =
    let ts = c.args.self.now.element in
    let k = known ts c.args.self.now.stands in
    (got ts c.in_ok-element.element c.args.key.now c.args.self.now.stands
    (c.in_ok-element.ensures (text_json ts) k.begins)).1
