use Rattle.std.specs.Prelude.{◌≡◌, ◌≤◌}
use Rattle.lsp_relay.proofs.ends.RelayRx.take.Given as goal

abbrev pub invariant-loop : goal.invariant-loop
invariant-loop g l = (l.self.relay ≡ l.fn.self.relay) × ((l.self.source ≡ l.fn.self.source) × (l.self.wakeable
    ≡ l.fn.self.wakeable)) × (l.self.taken ≡ l.fn.self.taken) × (l.fn.self.wakes ≤ l.self.wakes)
