use Rattle.std.proofs.Common.{◌≡◌, ◌-◌, []}
use Rattle.toml_outline.specs.Keys.{parts_from}
use Rattle.toml_outline.specs.Scanned.{KeepsKeys}
use Rattle.toml_outline.proofs.scanner.Scanner.dotted_key.Given as goal

-- the parts so far are those of the key
abbrev pub invariant-loop : goal.invariant-loop
invariant-loop l = record {
  kept : KeepsKeys l.fn.self l.self;
  read : parts_from l.fn.self.outline.text.now 80 [] l.fn.self.rest.now
      ≡ parts_from l.fn.self.outline.text.now (80 - l.counter) l.parts.items l.self.rest.now;
}
