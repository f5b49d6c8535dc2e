use Rattle.lsp_json.specs.Text.{text_json}
use Rattle.lsp_json.proofs.Text.{known}
use Rattle.lsp_json.proofs.Looks.{members_of}
use Rattle.lsp_json.proofs.Views.{no_object-of_json}
use Rattle.lsp_json.proofs.text_ref.TextRef.members.Goals as goal

pub returns-in_err-members-clause-value : goal.returns-in_err-members-clause-value
returns-in_err-members-clause-value c =
    let ts = c.args.self.now.element in
    let k = known ts c.args.self.now.stands in
    rw c.from_residual.ensures (no_object-of_json _ _ k.means (c.in_err-members.ensures (text_json ts) k.begins))

pub invariant_of-result : goal.invariant_of-result
invariant_of-result c =
    let ts = c.args.self.now.element in
    let k = known ts c.args.self.now.stands in
    record {
      stands = (members_of ts c.in_ok-members.members c.args.self.now.stands
          (c.in_ok-members.ensures (text_json ts) k.begins)).later;
    }

pub returns-clause-value : goal.returns-clause-value
returns-clause-value c =
    let ts = c.args.self.now.element in
    let k = known ts c.args.self.now.stands in
    let m = members_of ts c.in_ok-members.members c.args.self.now.stands
    (c.in_ok-members.ensures (text_json ts) k.begins) in
    (m.all, m.value, m.whole)

pub returns-clause-deep : goal.returns-clause-deep
returns-clause-deep c =
    let ts = c.args.self.now.element in
    let k = known ts c.args.self.now.stands in
    (members_of ts c.in_ok-members.members c.args.self.now.stands
    (c.in_ok-members.ensures (text_json ts) k.begins)).deep
