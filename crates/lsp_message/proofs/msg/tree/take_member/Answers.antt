use Rattle.std.proofs.Common.{ap, ◌∙◌, option_map}
use Rattle.serde_json.specs.Find.{get_member}
use Rattle.serde_json.specs.View.{view, members_view}
use Rattle.serde_json.proofs.Views.{view-lookup}
use Rattle.lsp_message.proofs.Members.{get_member-rest_of}
use Rattle.lsp_message.proofs.msg.tree.take_member.Goals as goal

pub returns-clause-value : goal.returns-clause-value
returns-clause-value c = ap (option_map view) c.remove.ensures.value ∙ view-lookup c.args.name.now
    c.args.members.now.entries

pub returns-clause-others : goal.returns-clause-others
returns-clause-others c = λ q apart.
    ap (λ es. get_member q (members_view es)) c.remove.ensures.entries ∙ get_member-rest_of q c.args.name.now
    c.args.members.now.entries apart
