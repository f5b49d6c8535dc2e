-- What one call of a box may do to its contents, and what several do one after another.
use Rattle.std.specs.List.{FoldsTo, list_all}
use Rattle.std.specs.Prelude.{◌≡◌, Bool, true, false, List, [], ◌∷◌, ◌++◌, Result, Ok}
use Rattle.lsp_message.specs.Message.{Message}
use Rattle.lsp_message.specs.declared.msg.Message as msg
use Rattle.lsp_session.specs.Event.{Event, timeout}
use Rattle.lsp_session.specs.declared.lifecycle.SendFault.{SendFault}
use Rattle.lsp_session.specs.declared.lifecycle.SendFault.TheVariants.{Closed, Memory}

-- what one send of a message may come to, and make of the contents
abbrev pub Sends : Type 0 → Type 1
Sends O = O → Message → Result (Unit {0}) SendFault → O → Type 0

-- what one receive may give, and make of the contents
abbrev pub Receives : Type 0 → Type 1
Receives I = I → Event → I → Type 0

-- the message that a send did not take
abbrev pub handed_back : SendFault → msg.Message
handed_back (Closed m) = m
handed_back (Memory m) = m

-- the outbox took the message
abbrev pub Takes : {O : Type 0} → Sends O → O → Message → O → Type 0
Takes sends old m new = sends old m (Ok tt) new

-- the message is offered, whatever the outbox answers
pub record Offers {O : Type 0} (sends : Sends O) (m : Message) (old new : O) : Type 0 where
  pub outcome : Result (Unit {0}) SendFault
  pub sent : sends old m outcome new

abbrev pub is_timeout : Event → Bool
is_timeout timeout = true
is_timeout event = false

-- Some receives gave nothing but timeouts. For private clauses.
pub record PassesTimeouts {I : Type 0} (receives : Receives I) (old new : I) : Type 0 where
  pub passed : List Event
  pub only_timeouts : list_all is_timeout passed ≡ true
  pub received : FoldsTo receives old passed new

-- Some receives gave nothing but timeouts, and the next one gave this event.
pub record WaitsFor {I : Type 0} (receives : Receives I) (old : I) (event : Event)
    (new : I) : Type 0 where
  pub passed : List Event
  pub only_timeouts : list_all is_timeout passed ≡ true
  pub received : FoldsTo receives old (passed ++ event ∷ []) new
