-- The end of a session (LSP 3.17, "Server lifecycle"): `shutdown` is answered with null, and followed by `exit`.
use Rattle.std.specs.Bool.{MatchBool}
use Rattle.std.specs.Prelude.{◌≡◌, ◌⊎◌, ℕ, List, Bool, true, false, Result, Ok, Err, IsErrAnd, codes}
use Rattle.std.specs.Str.{bytes_eq}
use Rattle.lsp_message.specs.Id.{Id}
use Rattle.lsp_message.specs.Message.{Message, request}
use Rattle.lsp_message.specs.Methods.{is_exit}
use Rattle.lsp_session.specs.Boxes.{Sends, Receives, Offers}
use Rattle.lsp_session.specs.Event.{Event, message, timeout, closed, woken}
use Rattle.lsp_session.specs.ProtocolError.{ProtocolFault, unexpected_in_shutdown, shutdown_timeout}
use Rattle.lsp_session.specs.ProtocolError.{shutdown_disconnected, out_of_memory, Shows}
use Rattle.lsp_session.specs.Replies.{null_reply}

abbrev pub ShutdownAnswer : Type 0
ShutdownAnswer = Result Bool ProtocolFault

-- the fault shows another message, or an allocation failed in its place
abbrev pub IsNoExit : ProtocolFault → Type 0
IsNoExit fault = Shows unexpected_in_shutdown fault ⊎ (fault ≡ out_of_memory)

-- the answer of the event that comes after the reply to `shutdown` was offered
abbrev pub EventShutsDown : Event → ShutdownAnswer → Type 0
EventShutsDown (message m) answer =
    MatchBool (is_exit m) (answer ≡ Ok true) (IsErrAnd answer IsNoExit)
EventShutsDown timeout answer = answer ≡ Err shutdown_timeout
EventShutsDown closed answer = answer ≡ Err shutdown_disconnected
EventShutsDown woken answer = ⊥

module _ {I O : Type 0} (receives : Receives I) (sends : Sends O) where
  -- The reply is offered, whatever the outbox answers, and one event gives the answer.
  pub record OffersShutdownReply (id : Id) (old : I × O) (answer : ShutdownAnswer) (new : I
      × O) : Type 0 where
    pub offered : Offers sends (null_reply id) old.1 new.1
    pub event : Event
    pub received : receives old.0 event new.0
    pub decides : EventShutsDown event answer

  -- Another request than `shutdown` touches nothing. Nor does one whose id finds no memory to be copied.
  abbrev pub ShutsDown : Id → List ℕ → I × O → ShutdownAnswer → I × O → Type 0
  ShutsDown id method old answer new =
      MatchBool (bytes_eq method (codes "shutdown"))
      (OffersShutdownReply id old answer new ⊎ ((answer ≡ Err out_of_memory) × (new ≡ old)))
      ((answer ≡ Ok false) × (new ≡ old))

  -- the same of any message, of which only a request can be `shutdown`
  abbrev pub ShutsDownAt : Message → I × O → ShutdownAnswer → I × O → Type 0
  ShutsDownAt (request i method params) old answer new = ShutsDown i method old answer new
  ShutsDownAt m old answer new = (answer ≡ Ok false) × (new ≡ old)
