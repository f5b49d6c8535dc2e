-- The end of the handshake (LSP 3.17, "Server lifecycle"): the result of `initialize` is sent, and the client answers
-- with the notification `initialized`.
use Rattle.std.specs.Bool.{MatchBool}
use Rattle.std.specs.List.{FoldsTo, list_all}
use Rattle.std.specs.Prelude.{◌≡◌, ◌≤◌, ◌⊎◌, ℕ, Bool, true, false, List, [], ◌∷◌, ◌++◌, length, Option, Some, IsNone}
use Rattle.std.specs.Prelude.{MatchOption, Result, Ok, Err, IsErrAnd}
use Rattle.lsp_message.specs.Message.{Message}
pub use Rattle.lsp_message.specs.Methods.{is_initialized}
use Rattle.lsp_session.specs.Boxes.{Sends, Receives, Takes, WaitsFor}
use Rattle.lsp_session.specs.Event.{Event, message, timeout, closed}
use Rattle.lsp_session.specs.ProtocolError.{ProtocolFault, disconnected, expected_initialized, aborted, out_of_memory}
use Rattle.lsp_session.specs.ProtocolError.{Shows}
use Rattle.lsp_session.specs.Start.{fault_of_refusal}
use Rattle.lsp_session.specs.Turns.{Turn, stopped, got, TakesTurn}
use Rattle.lsp_session.specs.declared.lifecycle.SendFault.{SendFault}

abbrev pub FinishAnswer : Type 0
FinishAnswer = Result (Unit {0}) ProtocolFault

-- a turn in which nothing came
abbrev pub is_idle : Turn → Bool
is_idle (got timeout) = true
is_idle turn = false

-- the fault shows another message, or an allocation failed in its place
abbrev pub IsUninvited : ProtocolFault → Type 0
IsUninvited fault = Shows expected_initialized fault ⊎ (fault ≡ out_of_memory)

-- the answer of an event that decides
abbrev pub EventFinishes : Event → FinishAnswer → Type 0
EventFinishes (message m) answer =
    MatchBool (is_initialized m) (answer ≡ Ok tt) (IsErrAnd answer IsUninvited)
EventFinishes closed answer = answer ≡ Err disconnected
EventFinishes event answer = ⊥

-- the answer of a turn that decides
abbrev pub Finishes : Turn → FinishAnswer → Type 0
Finishes stopped answer = answer ≡ Err aborted
Finishes (got event) answer = EventFinishes event answer

-- The first turn in which something came gives the answer. With none, there is no answer.
pub record Awaits (turns : List Turn) (answer : Option FinishAnswer) : Type 0 where
  pub before : List Turn
  pub idle : list_all is_idle before ≡ true
  pub end : MatchOption answer (turns ≡ before) (λ a. (last : Turn) × (turns ≡ before ++ last ∷ [])
      × Finishes last a)

module _ {G I : Type 0} (asks : G → Bool → G → Type 0) (receives : Receives I) where
  -- At most so many turns took the gate and the inbox from old to new, and gave this answer. None comes only after all.
  pub record AwaitsWithin (limit : ℕ) (old : G × I) (answer : Option FinishAnswer) (new : G
      × I) : Type 0 where
    pub turns : List Turn
    pub taken : FoldsTo (TakesTurn asks receives) old turns new
    pub few : length turns ≤ limit
    pub none_after_all : IsNone answer → length turns ≡ limit
    pub awaits : Awaits turns answer

  module _ {O : Type 0} (sends : Sends O) where
    -- The result is offered first. If the outbox refuses it, no gate is asked and nothing is received.
    abbrev pub FinishesWithin : ℕ → Message → G × I × O → Option FinishAnswer → G × I × O → Type 0
    FinishesWithin limit reply old answer new =
        (Takes sends old.2 reply new.2 × AwaitsWithin limit (old.0, old.1) answer (new.0, new.1))
        ⊎ ((fault : SendFault) × sends old.2 reply (Err fault) new.2
        × (answer ≡ Some (Err (fault_of_refusal fault))) × (new.0 ≡ old.0) × (new.1 ≡ old.1))

module _ {I O : Type 0} (receives : Receives I) (sends : Sends O) where
  -- The result is offered, and where it is taken one event is awaited without limit.
  abbrev pub FinishesAt : Message → I × O → FinishAnswer → I × O → Type 0
  FinishesAt reply old answer new =
      (Takes sends old.1 reply new.1 × (event : Event) × WaitsFor receives old.0 event new.0
      × EventFinishes event answer)
      ⊎ ((fault : SendFault) × sends old.1 reply (Err fault) new.1
      × (answer ≡ Err (fault_of_refusal fault)) × (new.0 ≡ old.0))
