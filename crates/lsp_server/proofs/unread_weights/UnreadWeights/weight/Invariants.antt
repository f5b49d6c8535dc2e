use Rattle.std.proofs.Common.{◌≡◌, map, sum}
use Rattle.lsp_server.specs.Unread.{capped}
use Rattle.lsp_server.proofs.unread_weights.UnreadWeights.weight.Given as goal

-- what was added so far
abbrev pub invariant-loop-weight : goal.invariant-loop-weight
invariant-loop-weight l = l.all ≡ capped (sum (map (λ weight. weight.now) l.yielded))
