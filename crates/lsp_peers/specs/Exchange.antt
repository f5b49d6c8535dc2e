-- What a user sees of two peers, what it is after the entries of a run, and what a run promises.
use Rattle.std.specs.FinMap as map
use Rattle.std.specs.Prelude.{◌≡◌, ◌+◌, ℕ, List, [], ◌++◌, length, map as each}
use Rattle.lsp_message.specs.Id.{Id}
use Rattle.lsp_message.specs.Message as plain
use Rattle.lsp_message.specs.View.{message_view}
use Rattle.lsp_message.specs.declared.msg.Message.{Message}
use Rattle.lsp_queue.specs.Queue.{pending_of, count_of}
use Rattle.lsp_queue.specs.declared.req_queue.ReqQueue.{ReqQueue}
use Rattle.lsp_peers.specs.declared.peer.Peer.{Peer}
use Rattle.lsp_peers.specs.declared.step.Outcome.{Outcome}
use Rattle.lsp_peers.specs.declared.step.Side.{Side}
use Rattle.lsp_peers.specs.declared.step.Side.TheVariants.{A, B}
use Rattle.lsp_peers.specs.declared.step.Step.{Step}
use Rattle.lsp_peers.specs.declared.world.World.{World}
use Rattle.lsp_peers.specs.History.{Entry, held, pending, payloads, passed_count, frames_taken, frames_left, entries_of}
use Rattle.lsp_peers.specs.History.{IsHistory}
use Rattle.lsp_peers.specs.SentFrame.{messages, frames}
use Rattle.lsp_peers.specs.Sides.{other}

-- one side: its queues, the bytes that have arrived there, those on the way to it, and the messages that it took and
-- still has
pub record Seen : Type 0 where
  pub queue : ReqQueue ℕ ℕ
  pub arrived : List ℕ
  pub on_way : List ℕ
  pub taken : List Message

abbrev pub peer_at : Side → World → Peer
peer_at A world = world.a
peer_at B world = world.b

abbrev pub seen : Peer → Seen
seen peer =
    record {
      queue = peer.queue;
      arrived = peer.link.arrived;
      on_way = peer.link.on_way;
      taken =
          peer.taken.items;
    }

abbrev pub seen_at : Side → World → Seen
seen_at side world = seen (peer_at side world)

-- a side after its own entries and those of the other side, where it handed these messages out
pub record SideAfter (side : Seen) (handed : List plain.Message) (own others : List Entry) :
    Type 0 where
  -- it took the first messages that the other side wrote, in order
  pub took : handed ++ each message_view side.taken ≡ messages (frames_taken own others)
  -- the frames of the others are in the link, and nothing else
  pub in_link : side.arrived ++ side.on_way ≡ frames (frames_left own others)
  -- as many bytes have arrived in all as were passed
  pub here : length (frames (frames_taken own others)) + length side.arrived ≡ passed_count own
  -- a payload is pending until the reply is taken
  pub asks : (id : Id) → map.get (pending_of side.queue.outgoing) id ≡ pending own id
  -- a request is held until it is closed
  pub holds : (id : Id) → map.get side.queue.incoming id ≡ held own id
  -- as many ids were given out as requests were registered
  pub count : count_of side.queue.outgoing ≡ length (payloads own)

-- A world after these entries of both sides, if each side handed out the first of the messages that it took. Each entry
-- follows those before it.
pub record WorldAfter (world : World) (handed : Side
    → List plain.Message) (history : List Entry) : Type 0 where
  pub lawful : IsHistory history
  pub sides : (side : Side)
      → SideAfter (seen_at side world) (handed side) (entries_of side history)
      (entries_of (other side) history)

-- The steps and outcomes are a history, and the world is what it is after it, with nothing handed out.
abbrev pub IsWholeRun : List Step → List Outcome → World → Type 0
IsWholeRun steps outcomes world =
    (history : List Entry) × (each (λ entry. entry.step) history ≡ steps)
    × (each (λ entry. entry.outcome) history ≡ outcomes)
    × WorldAfter world (λ side. []) history

-- a side that has handed out all that it took
abbrev pub handed_out : Seen → Seen
handed_out side = record {
  queue = side.queue;
  arrived = side.arrived;
  on_way = side.on_way;
  taken =
      [];
}

-- what was handed out, with these messages of a side behind it
abbrev pub handed_on : Side → List plain.Message → (Side → List plain.Message) → Side
    → List plain.Message
handed_on A given handed A = handed A ++ given
handed_on B given handed B = handed B ++ given
handed_on side given handed named = handed named
