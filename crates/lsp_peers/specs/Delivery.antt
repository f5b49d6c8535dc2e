-- Words for private contracts: what a message that was taken does to the queues, and what a step does to both sides.
use Rattle.std.specs.FinMap as map
use Rattle.std.specs.Prelude.{◌≡◌, ℕ, List, [], ◌∷◌, ◌++◌, IfOk, Result}
use Rattle.lsp_message.specs.Message.{Message, request, notification, response}
use Rattle.lsp_queue.specs.Queue.{pending_of, count_of}
use Rattle.lsp_queue.specs.declared.req_queue.ReqQueue.{ReqQueue}
use Rattle.lsp_peers.specs.Exchange.{SideAfter, seen}
use Rattle.lsp_peers.specs.History.{Entry, entries_of, IsHistory}
use Rattle.lsp_peers.specs.SentFrame.{SentFrame}
use Rattle.lsp_peers.specs.Shallow.{IsShallow}
use Rattle.lsp_peers.specs.Sides.{side_of, other}
use Rattle.lsp_peers.specs.declared.fault.WorldFault.{WorldFault}
use Rattle.lsp_peers.specs.declared.peer.Peer.{Peer}
use Rattle.lsp_peers.specs.declared.step.Outcome.{Outcome}
use Rattle.lsp_peers.specs.declared.step.Outcome.TheVariants.{Arrived, Returned, Notified}
use Rattle.lsp_peers.specs.declared.step.Side.{Side}
use Rattle.lsp_peers.specs.declared.step.Step.{Step}

-- a request becomes pending under the label, a reply completes its id, and a notification does nothing
abbrev pub Delivers : Message → ℕ → ReqQueue ℕ ℕ → Outcome → ReqQueue ℕ ℕ → Type 0
Delivers (request id method params) label old outcome new =
    (outcome ≡ Arrived id) × (new.incoming ≡ map.insert old.incoming id label)
    × (new.outgoing ≡ old.outgoing)
Delivers (response id answer) label old outcome new =
    (outcome ≡ Returned id (map.get (pending_of old.outgoing) id))
    × (new.outgoing ≡ (map.remove (pending_of old.outgoing) id, count_of old.outgoing))
    × (new.incoming ≡ old.incoming)
Delivers (notification method params) label old outcome new =
    (outcome ≡ Notified) × (new.incoming ≡ old.incoming) × (new.outgoing ≡ old.outgoing)

-- this side and the far one after a history, where each handed out these messages
pub record PeersAfter (near far : Peer) (side : Side) (handed : Side → List Message)
    (history : List Entry) : Type 0 where
  pub lawful : IsHistory history
  pub near_side : SideAfter (seen near) (handed side) (entries_of side history)
      (entries_of (other side) history)
  pub far_side : SideAfter (seen far) (handed (other side)) (entries_of (other side) history)
      (entries_of side history)

-- Both sides are what they are after a history, from before a shallow step of the near side to after it: there is one
-- more entry, of this step and its outcome.
abbrev pub Continues : Peer → Peer → Peer → Peer → Step → Result Outcome WorldFault → Type 0
Continues near far new_near new_far step result =
    (handed : Side → List Message) (history : List Entry)
    → PeersAfter near far (side_of step) handed history → IsShallow step
    → IfOk result (λ outcome. (wrote : List SentFrame)
    × PeersAfter new_near new_far (side_of step) handed
    (history ++ record { step = step; outcome = outcome; wrote = wrote } ∷ []))
