-- What a run of two peers comes to.
use Rattle.std.specs.Prelude.{◌≡◌, ℕ, List, ◌++◌, [], Bool, true, map as each}
use Rattle.lsp_message.specs.View.{message_view}
use Rattle.lsp_peers.specs.Exchange.{WorldAfter, seen_at}
use Rattle.lsp_peers.specs.History.{Entry, entries_of, frames_written}
use Rattle.lsp_peers.specs.InOnePlace.{InOnePlace}
use Rattle.lsp_peers.specs.SentFrame.{messages}
use Rattle.lsp_peers.specs.Sides.{other}
use Rattle.lsp_peers.specs.declared.step.Outcome.{Outcome}
use Rattle.lsp_peers.specs.declared.step.Side.{Side}
use Rattle.lsp_peers.specs.declared.step.Step.{Step}
use Rattle.lsp_peers.specs.declared.world.World.{World}
use Rattle.lsp_watch.specs.Log.{Log}
use Rattle.lsp_watched.specs.Peers.{IsLogOf, KeepsIds}

-- the bytes in the link to a side
abbrev pub link_of : Side → World → List ℕ
link_of side world = (seen_at side world).arrived ++ (seen_at side world).on_way

-- after these entries each side took exactly the messages that the other one wrote, in order
abbrev pub TookAll : World → List Entry → Type 0
TookAll world history = (side : Side)
    → each message_view (seen_at side world).taken
    ≡ messages (frames_written (entries_of (other side) history))

-- The steps with their outcomes lead to the world, and this says whether each side took all.
pub record Exchanged (steps : List Step) (outcomes : List Outcome) (world : World) (all : Bool) :
    Type 0 where
  pub history : List Entry
  pub steps_are : each (λ entry. entry.step) history ≡ steps
  pub outcomes_are : each (λ entry. entry.outcome) history ≡ outcomes
  pub after : WorldAfter world (λ side. []) history
  pub took : all ≡ true → TookAll world history
  pub left : TookAll world history → all ≡ true
  -- each request is on the way, with the other side, on the way back, done or given up
  pub placed : (side : Side) → InOnePlace (entries_of side history) (entries_of (other side) history)
  -- whichever of them is the client, a watch finds no broken rule of ids in what they write
  pub watched : (client : Side) (log : Log) → IsLogOf client history log → KeepsIds log
