use Rattle.std.proofs.Common.{length, map}
use Rattle.lsp_json.proofs.OtherKeys.{NoneBefore}
use Rattle.lsp_json.proofs.others.text_members_have_others.Given as goal

abbrev pub invariant-members : goal.invariant-members
invariant-members l = NoneBefore (map (λ key. key.now) l.keys) l.initial.members.members l.members.members

abbrev pub decreases-members : goal.decreases-members
decreases-members l = length l.members.members
