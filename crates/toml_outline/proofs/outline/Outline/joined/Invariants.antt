use Rattle.std.proofs.Common.{◌≡◌, [], drop, string_bytes}
use Rattle.toml_outline.specs.Names.{name_with}
use Rattle.toml_outline.proofs.outline.Outline.joined.Given as goal

-- the parts so far are in the name
abbrev pub invariant-loop-span : goal.invariant-loop-span
invariant-loop-span l = name_with l.self.text.now [] l.spans
    ≡ name_with l.self.text.now (string_bytes l.key) (drop l.span-index l.spans)
