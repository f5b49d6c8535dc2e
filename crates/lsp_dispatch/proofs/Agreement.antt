-- When what is pending agrees with the calls that were made.
use Rattle.std.specs.FinMap as map
use Rattle.std.specs.Prelude.{◌≡◌, ℕ, List, length, Some}
use Rattle.lsp_message.specs.Id.{Id}
use Rattle.lsp_queue.specs.Queue.{pending_of, count_of}
use Rattle.lsp_dispatch.specs.DispatchCalls.{Call}
use Rattle.lsp_dispatch.specs.Dispatch.{asked, IsLive}
use Rattle.lsp_dispatch.specs.DispatchPending.{Held}

-- exactly the live tickets are pending, each under its id
pub record Agrees (before : List Call) (held : Held) : Type 0 where
  pub count : count_of held ≡ length (asked before)
  pub sound : (id : Id) (ticket : ℕ) → map.get (pending_of held) id ≡ Some ticket → IsLive before id ticket
  pub complete : (id : Id) (ticket : ℕ) → IsLive before id ticket → map.get (pending_of held) id ≡ Some ticket
