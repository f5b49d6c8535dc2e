-- A transport that keeps an account of what it does.
use Rattle.std.specs.Prelude.{◌≡◌, List, [], ◌∷◌, ◌++◌, Result}
use Rattle.lsp_message.specs.Message.{Message}
use Rattle.lsp_session.specs.Account.{Act, gave, sending}
use Rattle.lsp_session.specs.Boxes.{Sends, Receives}
use Rattle.lsp_session.specs.Event.{Event}
use Rattle.lsp_session.specs.declared.lifecycle.SendFault.{SendFault}

-- The transport keeps an account: each act is added when it is done, and no other.
pub record KeepsAccount {L : Type 0} (receives : Receives L) (sends : Sends L) (account : L
    → List Act) : Type 0 where
  pub receiving : (old : L) (event : Event) (new : L) → receives old event new
      → account new ≡ account old ++ gave event ∷ []
  pub offering : (old : L) (m : Message) (outcome : Result (Unit {0}) SendFault) (new : L)
      → sends old m outcome new → account new ≡ account old ++ sending m outcome ∷ []
