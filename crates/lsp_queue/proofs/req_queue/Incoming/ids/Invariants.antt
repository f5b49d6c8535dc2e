use Rattle.std.proofs.Common.{◌≡◌, ◌++◌}
use Rattle.lsp_queue.proofs.req_queue.Incoming.ids.Given as goal

-- the ids that were gone over, and those that are left
abbrev pub invariant-loop-id : goal.invariant-loop-id
invariant-loop-id g l = l.ids.items ++ l.id-iterator ≡ l.initial.id-iterator
