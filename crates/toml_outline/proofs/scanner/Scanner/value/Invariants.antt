use Rattle.std.proofs.Common.{◌≡◌, ◌-◌, ◌*◌, suc, length, Some, [], option_map}
use Rattle.toml_outline.specs.declared.scanner.Awaited.TheVariants.{Value}
use Rattle.toml_outline.specs.Scanned.{KeepsText, keys_of}
use Rattle.toml_outline.specs.Values.{turns}
use Rattle.toml_outline.proofs.scanner.Scanner.value.Given as goal

-- the turns so far are those of the value
abbrev pub invariant-loop : goal.invariant-loop
invariant-loop l =
    let text = l.fn.self.outline.text.now in
    let count = suc (2 * length l.fn.self.rest.now) in
    record {
      kept : KeepsText l.fn.self l.self;
      read : turns text count (Some ([], Value (Some l.fn.entry))) l.fn.self.rest.now (keys_of l.fn.self.outline)
          ≡ turns text (count - l.counter) (option_map (λ a. (l.frames.items, a)) l.awaited) l.self.rest.now
          (keys_of l.self.outline);
    }
