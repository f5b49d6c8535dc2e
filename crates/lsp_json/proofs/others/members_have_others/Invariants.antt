use Rattle.std.proofs.Common.{◌≡◌, map}
use Rattle.serde_json.specs.View.{members_view}
use Rattle.lsp_json.specs.JsonRef.{others_within}
use Rattle.lsp_json.proofs.others.members_have_others.Given as goal

abbrev pub invariant-loop-key : goal.invariant-loop-key
invariant-loop-key l =
    others_within (map (λ key. key.now) l.keys) (members_view l.members.entries)
    ≡ others_within (map (λ key. key.now) l.keys) (members_view l.key-iterator)
