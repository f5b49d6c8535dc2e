use Rattle.std.proofs.Common.{◌≡◌, ◌++◌}
use Rattle.std.specs.List.{filter}
use Rattle.std.specs.Map.{keys_of}
use Rattle.lsp_queue.proofs.req_queue.Outgoing.ids_of.Given as goal

-- the ids of those that were gone over, and of those that are left
abbrev pub invariant-loop-id : goal.invariant-loop-id
invariant-loop-id g l =
    l.ids.items ++ keys_of (filter (λ e. g.O.PartialEq.eq e.1 l.wanted) l.id-iterator)
    ≡ keys_of (filter (λ e. g.O.PartialEq.eq e.1 l.wanted) l.initial.id-iterator)
