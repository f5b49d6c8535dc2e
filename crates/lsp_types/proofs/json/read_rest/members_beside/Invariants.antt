use Rattle.std.proofs.Common.{map}
use Rattle.lsp_types.proofs.RestLemmas.{OthersUpTo}
use Rattle.lsp_types.proofs.json.read_rest.members_beside.Given as goal

abbrev pub invariant-loop-key : goal.invariant-loop-key
invariant-loop-key l = OthersUpTo (map (λ key. key.now) l.keys) l.members.entries l.key-iterator l.rest.entries
