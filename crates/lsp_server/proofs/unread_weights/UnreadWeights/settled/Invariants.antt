use Rattle.std.proofs.Common.{◌≡◌, drop}
use Rattle.lsp_server.proofs.unread_weights.UnreadWeights.settled.Given as goal

-- the oldest are gone
abbrev pub invariant-loop : goal.invariant-loop
invariant-loop l = l.self ≡ drop l.counter l.fn.self
