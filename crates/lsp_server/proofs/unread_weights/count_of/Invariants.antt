use Rattle.std.proofs.Common.{◌≡◌, ◌==◌, count_by, ◌+◌, length}
use Rattle.lsp_server.proofs.unread_weights.count_of.Given as goal

-- the places that are still to come are the others
abbrev pub invariant-loop : goal.invariant-loop
invariant-loop l = l.count + length l.iterator' ≡ count_by (λ it. it == l.byte) l.content
