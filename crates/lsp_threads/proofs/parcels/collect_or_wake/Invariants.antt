use Rattle.std.specs.Prelude.{◌≡◌}
use Rattle.lsp_threads.proofs.parcels.collect_or_wake.Given as goal

abbrev pub invariant-loop : goal.invariant-loop
invariant-loop g l = (l.rx.relay ≡ l.fn.rx.relay) × ((l.rx.source ≡ l.fn.rx.source) × (l.rx.wakeable
    ≡ l.fn.rx.wakeable)) × (l.rx.taken ≡ l.fn.rx.taken) × (l.rx.wakes ≡ l.fn.rx.wakes)
