use Rattle.std.proofs.Common.{◌≡◌, ◌-◌, ◌++◌, length, reverse, slice_get}
use Rattle.toml_outline.specs.Names.{parts_above, parts_to}
use Rattle.toml_outline.specs.Scanned.{keys_of}
use Rattle.toml_outline.proofs.outline.Outline.spans_to.Given as goal

-- the parts so far are the last ones
abbrev pub invariant-loop : goal.invariant-loop
invariant-loop l =
    let keys = keys_of l.self in
    parts_to keys l.fn.count (slice_get keys l.fn.index)
    ≡ parts_above keys (length keys - l.counter) l.next ++ reverse l.spans.items
