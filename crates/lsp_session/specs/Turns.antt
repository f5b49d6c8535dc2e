-- The turns of a handshake (LSP 3.17, "Server lifecycle"): a gate is asked, and where it says yes an event is received.
use Rattle.std.specs.Prelude.{◌≡◌, Bool, true, false}
use Rattle.lsp_session.specs.Event.{Event}

pub data Turn : Type 0 where
  -- the gate said no
  stopped : Turn
  -- the gate said yes, and this event came
  got : Event → Turn

-- One turn changes the contents of the gate and of the inbox.
abbrev pub TakesTurn : {G I : Type 0} → (G → Bool → G → Type 0) → (I → Event → I → Type 0) → G × I
    → Turn → G × I → Type 0
TakesTurn asks receives old stopped new = asks old.0 false new.0 × (new.1 ≡ old.1)
TakesTurn asks receives old (got event) new = asks old.0 true new.0 × receives old.1 event new.1
