use Rattle.std.proofs.Common.{◌≡◌, ◌≤◌, ◌++◌, drop, length, reverse, take}
use Rattle.toml_outline.proofs.outline.add_backward.Given as goal

-- the last parts are added
abbrev pub invariant-loop-left : goal.invariant-loop-left
invariant-loop-left l = record {
  within : l.left ≤ length (take l.fn.count l.parts);
  spans : l.spans.items ≡ l.fn.spans.items ++ reverse (drop l.left (take l.fn.count l.parts));
}

abbrev pub decreases-loop-left : goal.decreases-loop-left
decreases-loop-left l = l.left
