use Rattle.toml_outline.specs.Scanned.{KeepsRest}
use Rattle.toml_outline.proofs.scanner.Scanner.extend_parents.Given as goal

-- the keys stay
abbrev pub invariant-loop : goal.invariant-loop
invariant-loop l = KeepsRest l.fn.self l.self
