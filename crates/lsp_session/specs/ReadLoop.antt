-- What a loop over a reader's messages hands on.
use Rattle.std.specs.List.{FoldsTo}
use Rattle.std.specs.Prelude.{◌≡◌, ℕ, List, Option, Some, Err}
use Rattle.lsp_message.specs.Frame.{reading_within}
use Rattle.lsp_message.specs.Messages.{Begins, PassesAll, Ending, exited, ended, failed, Messages}
use Rattle.lsp_message.specs.Message.{Message}
use Rattle.lsp_message.specs.Reading.{StopsWithin}
use Rattle.lsp_message.specs.declared.frame.ReadFault.TheVariants.{Input, Memory as NoMemory}
use Rattle.lsp_message.specs.declared.msg.Message as msg
use Rattle.lsp_message.specs.declared.frame.limits.Limits.{Limits}
use Rattle.lsp_session.specs.Boxes.{Sends, Takes}
use Rattle.lsp_session.specs.declared.lifecycle.SendFault.{SendFault}
use Rattle.lsp_session.specs.declared.lifecycle.SendFault.TheVariants.{Closed as IsClosed, Memory as IsFull}
use Rattle.lsp_session.specs.declared.loops.ReadEnd.{ReadEnd}
use Rattle.lsp_session.specs.declared.loops.ReadEnd.TheVariants.{Exit, End, Fault, Closed, Memory}

-- how reading ends if a message is refused
abbrev pub refused_end : SendFault → ReadEnd
refused_end (IsClosed back) = Closed
refused_end (IsFull back) = Memory

-- how far into a text its messages are meant
pub data Extent : Type 0 where
  -- all of them, and the text ends them so
  to_end : Ending → Extent
  -- the first of them, none of which is `exit`
  in_part : Extent
  -- the first of them, none of which is `exit`, and this one comes next
  up_to : Message → Extent

-- the parts of a frame have at most so many bytes
module _ (limit : Limits) where
  -- These are the messages of the text so far. The rest follows them, and the one that comes next,
  -- if one is named.
  abbrev pub HasRead : Extent → List ℕ → List Message → List ℕ → Type 0
  HasRead (to_end ending) text ms rest = Messages limit text ms ending rest
  HasRead in_part text ms rest = PassesAll limit text ms rest
  HasRead (up_to next) text ms rest =
      (at : List ℕ) × PassesAll limit text ms at × Begins limit at next rest

  -- The record of what was read of a text so far, and of its result. `Got` is about its messages, `Left` about the
  -- bytes after them.
  pub record ReadsOver (extent : Extent) (text : List ℕ) (Got : List Message → Type 0)
      (Left : List ℕ → Type 0) : Type 0 where
    pub messages : List Message
    pub rest : List ℕ
    pub read : HasRead extent text messages rest
    pub got : Got messages
    pub left : Left rest

-- of an outbox, and of what is left of the text
module _ {O : Type 0} (limit : Limits) (sends : Sends O) (text : List ℕ) (old new : O)
    (left : Option (List ℕ)) where
  -- the outbox took these messages
  abbrev pub Took : List Message → Type 0
  Took ms = FoldsTo (Takes sends) old ms new

  -- it took these messages, and then refused one more
  abbrev pub TookBefore : Message → (msg.Message → SendFault) → List Message → Type 0
  TookBefore m refusal ms =
      (mid : O) × FoldsTo (Takes sends) old ms mid
      × (back : msg.Message) × sends mid m (Err (refusal back)) new

  -- what follows is left
  abbrev pub Unread : List ℕ → Type 0
  Unread rest = left ≡ Some rest

  -- a part of the message that follows may be taken, and nothing after it
  abbrev pub UnreadWithin : List ℕ → Type 0
  UnreadWithin rest = StopsWithin left (reading_within limit rest)

  -- What was handed on where reading ended so. A reader that fails and an allocation that fails end
  -- it within a message.
  abbrev pub Hands : ReadEnd → Type 0
  Hands Exit = ReadsOver limit (to_end exited) text Took Unread
  Hands End = ReadsOver limit (to_end ended) text Took Unread
  Hands (Fault (Input kind)) = ReadsOver limit in_part text Took UnreadWithin
  Hands (Fault NoMemory) = ReadsOver limit in_part text Took UnreadWithin
  Hands (Fault fault) = ReadsOver limit (to_end (failed fault)) text Took Unread
  Hands Closed = (m : Message) × ReadsOver limit (up_to m) text (TookBefore m IsClosed) Unread
  Hands Memory = (m : Message) × ReadsOver limit (up_to m) text (TookBefore m IsFull) Unread
