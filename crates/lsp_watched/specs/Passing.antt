-- Messages that pass, one after another.
use Rattle.std.specs.Prelude.{◌≡◌, ℕ, List, [], ◌∷◌}
use Rattle.lsp_message.specs.Message.{Message}
use Rattle.lsp_watch.specs.Log.{Log, passed}
use Rattle.lsp_watch.specs.declared.direction.Direction.{Direction}

-- these messages pass in this direction, in order and at whatever places: the log is old before them, and new behind
-- them
abbrev pub Pass : Direction → List Message → Log → Log → Type 0
Pass direction [] old new = new ≡ old
Pass direction (m ∷ ms) old new = (place : ℕ) × Pass direction ms (passed direction place m ∷ old) new
