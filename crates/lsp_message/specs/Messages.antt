-- The messages of a stream of bytes, up to and with the first `exit` (LSP 3.17, "Base Protocol" and "Exit
-- Notification").
use Rattle.std.specs.List.{FoldsTo}
use Rattle.std.specs.Prelude.{◌≡◌, ℕ, List, [], ◌∷◌, ◌++◌, true, false, None, Ok, Err}
use Rattle.lsp_message.specs.Frame.{reading_within}
pub use Rattle.lsp_message.specs.Frame.{Begins}
use Rattle.lsp_message.specs.Message.{Message}
pub use Rattle.lsp_message.specs.Methods.{is_exit}
use Rattle.lsp_message.specs.declared.frame.ReadFault.{ReadFault}
use Rattle.lsp_message.specs.declared.frame.limits.Limits.{Limits}

-- what ends the messages of a text
pub data Ending : Type 0 where
  -- the notification `exit`
  exited : Ending
  -- the end of the text, at the start of a header line
  ended : Ending
  -- a frame that can't be read
  failed : ReadFault → Ending

-- the parts of a frame have at most so many bytes
module _ (limit : Limits) where
  -- the text begins with this message, which isn't the last one, and the rest follows it
  abbrev pub Passes : List ℕ → Message → List ℕ → Type 0
  Passes text m rest = Begins limit text m rest × (is_exit m ≡ false)

  -- these are the first messages of the text, none of them `exit`, and the rest follows them
  abbrev pub PassesAll : List ℕ → List Message → List ℕ → Type 0
  PassesAll = FoldsTo Passes

  -- The messages of a text, what ends them, and the bytes that are left then. The last message is the first `exit`, if
  -- one comes.
  abbrev pub Messages : List ℕ → List Message → Ending → List ℕ → Type 0
  Messages text ms exited rest = (before : List Message) × (last : Message) × (at : List ℕ)
      × (ms ≡ before ++ last ∷ []) × PassesAll text before at × Begins limit at last rest
      × (is_exit last ≡ true)
  Messages text ms ended rest = (at : List ℕ) × PassesAll text ms at
      × (reading_within limit at ≡ record { outcome = Ok None; rest = rest })
  Messages text ms (failed fault) rest = (at : List ℕ) × PassesAll text ms at
      × (reading_within limit at ≡ record { outcome = Err fault; rest = rest })
