use Rattle.lsp_json.specs.Text.{text_json}
use Rattle.lsp_json.proofs.Text.{known}
use Rattle.lsp_json.proofs.Looks.{items_of}
use Rattle.lsp_json.proofs.Views.{no_array-of_json}
use Rattle.lsp_json.proofs.text_ref.TextRef.items.Goals as goal

pub returns-in_err-items-clause-value : goal.returns-in_err-items-clause-value
returns-in_err-items-clause-value c =
    let ts = c.args.self.now.element in
    let k = known ts c.args.self.now.stands in
    rw c.from_residual.ensures (no_array-of_json _ _ k.means (c.in_err-items.ensures (text_json ts) k.begins))

pub invariant_of-result : goal.invariant_of-result
invariant_of-result c =
    let ts = c.args.self.now.element in
    let k = known ts c.args.self.now.stands in
    record {
      stands = (items_of ts c.in_ok-items.items c.args.self.now.stands
          (c.in_ok-items.ensures (text_json ts) k.begins)).0;
    }

pub returns-clause-value : goal.returns-clause-value
returns-clause-value c =
    let ts = c.args.self.now.element in
    let k = known ts c.args.self.now.stands in
    (items_of ts c.in_ok-items.items c.args.self.now.stands (c.in_ok-items.ensures (text_json ts) k.begins)).1

pub returns-clause-deep : goal.returns-clause-deep
returns-clause-deep c =
    let ts = c.args.self.now.element in
    let k = known ts c.args.self.now.stands in
    (items_of ts c.in_ok-items.items c.args.self.now.stands (c.in_ok-items.ensures (text_json ts) k.begins)).2
