use Rattle.std.proofs.Common.{◌≡◌, length}
use denote.Text.{Utf8}
use denote.Shadow.{shadow}
use Rattle.toml_outline.specs.Keys.{skip_bare}
use Rattle.toml_outline.proofs.scanner.skip_bare.Given as goal

-- what is left has the same end
abbrev pub invariant-bytes : goal.invariant-bytes
invariant-bytes l = shadow (Utf8 l.rest) × (skip_bare l.rest ≡ skip_bare l.fn.text)

abbrev pub decreases-bytes : goal.decreases-bytes
decreases-bytes l = length l.rest
