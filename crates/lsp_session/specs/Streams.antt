-- What an inbox over a reader gives (LSP 3.17, "Base Protocol").
use Rattle.std.specs.Io.KnownBytes.{Keeps}
use Rattle.std.specs.Prelude.{◌≡◌, ℕ, List, Option, Some, None, IfSome, Result, Ok, Err, MatchOption, if◌then◌else◌}
use Rattle.lsp_message.specs.Frame.{reading_within}
use Rattle.lsp_message.specs.Gathering.{TakesFront}
use Rattle.lsp_message.specs.Message.{Message}
use Rattle.lsp_message.specs.Methods.{is_exit}
use Rattle.lsp_message.specs.Reading.{Answers}
use Rattle.lsp_message.specs.declared.frame.ReadFault.{ReadFault}
use Rattle.lsp_message.specs.declared.frame.limits.Limits.{Limits}
use Rattle.lsp_session.specs.Event.{Event, message, closed}
use Rattle.lsp_session.specs.declared.loops.ReadEnd.{ReadEnd}
use Rattle.lsp_session.specs.declared.loops.ReadEnd.TheVariants.{Exit, End, Fault}

-- what is seen of an inbox over a reader: the bytes that it has left, if they are known, and what ended its messages
pub record Stream : Type 0 where
  pub remaining : Option (List ℕ)
  pub end : Option ReadEnd

-- the parts of a frame have at most so many bytes
module _ (limit : Limits) where
  -- One read of a message: what the bytes begin with, and what follows it is left. A reader that fails and an
  -- allocation that fails stop within the message.
  abbrev pub Reads : Option (List ℕ) → Result (Option Message) ReadFault → Option (List ℕ) → Type 0
  Reads known outcome rest =
      IfSome known (λ text. Answers (λ m. m) outcome rest (reading_within limit text))
      × TakesFront known rest

  -- what one receive reads
  abbrev pub StreamReads : Option (List ℕ) → Event → Option ReadEnd → Option (List ℕ) → Type 0
  StreamReads known (message m) end rest = (end ≡ (if is_exit m then Some Exit else None))
      × Reads known (Ok (Some m)) rest
  StreamReads known closed (Some End) rest = Reads known (Ok None) rest
  StreamReads known closed (Some (Fault fault)) rest = Reads known (Err fault) rest
  StreamReads known event end rest = ⊥

  -- Once the messages have ended, `closed` is given and nothing is read.
  abbrev pub StreamGives : Stream → Event → Stream → Type 0
  StreamGives old event new =
      MatchOption old.end
      (StreamReads old.remaining event new.end new.remaining)
      (λ end. (event ≡ closed) × (new.end ≡ Some end) × Keeps old.remaining new.remaining)
