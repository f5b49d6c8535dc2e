use Rattle.std.specs.Prelude.{◌≡◌, ◌≤◌}
use Rattle.lsp_threads.proofs.parcels.collect.Given as goal

abbrev pub invariant-loop : goal.invariant-loop
invariant-loop g l = (l.rx.relay ≡ l.fn.rx.relay) × (l.rx.taken ≡ l.fn.rx.taken) × (l.fn.rx.wakes ≤ l.rx.wakes)
