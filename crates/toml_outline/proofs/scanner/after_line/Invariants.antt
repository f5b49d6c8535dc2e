use Rattle.std.proofs.Common.{◌≡◌, drop}
use Rattle.toml_outline.specs.Lines.{after_newline}
use Rattle.toml_outline.proofs.scanner.after_line.Given as goal

-- no newline stands before this place
abbrev pub invariant-loop-at : goal.invariant-loop-at
invariant-loop-at l = after_newline (drop l.at l.text) ≡ after_newline (drop l.fn.offset l.text)
