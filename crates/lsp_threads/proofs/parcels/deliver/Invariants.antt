use Rattle.std.specs.Prelude.{◌≡◌}
use Rattle.lsp_threads.proofs.parcels.deliver.Given as goal

abbrev pub invariant-loop : goal.invariant-loop
invariant-loop g l = (l.tx.relay ≡ l.fn.tx.relay) × (l.tx.sent ≡ l.fn.tx.sent) × (l.parcel ≡ l.fn.parcel)
    × (l.tx.wakeable ≡ l.fn.tx.wakeable)
