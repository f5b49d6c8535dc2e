-- Messages that are sent in order. For private clauses.
use Rattle.std.specs.List.{FoldsTo}
use Rattle.std.specs.Prelude.{◌≡◌, List, ◌∷◌, ◌++◌, Result, Ok, Err}
use Rattle.lsp_message.specs.Message.{Message}
use Rattle.lsp_session.specs.Boxes.{Sends, Takes}
use Rattle.lsp_session.specs.ProtocolError.{ProtocolFault, fault_of_refusal}
use Rattle.lsp_session.specs.declared.lifecycle.SendFault.{SendFault}

module _ {O : Type 0} (sends : Sends O) where
  -- the outbox took some of these messages, and refused the next one
  pub record RefusesOne (old : O) (ms : List Message) (fault : ProtocolFault)
      (new : O) : Type 0 where
    pub part : List Message
    pub unsent : Message
    pub more : List Message
    pub cut : ms ≡ part ++ unsent ∷ more
    pub mid : O
    pub taken : FoldsTo (Takes sends) old part mid
    pub refusal : SendFault
    pub refuses : sends mid unsent (Err refusal) new
    pub is : fault ≡ fault_of_refusal refusal

  -- messages are sent in order, up to the first that is refused
  abbrev pub SendsAll : O → List Message → Result (Unit {0}) ProtocolFault → O → Type 0
  SendsAll old ms (Ok done) new = FoldsTo (Takes sends) old ms new
  SendsAll old ms (Err fault) new = RefusesOne old ms fault new
