-- What a side of two peers takes.
use Rattle.std.specs.Prelude.{◌≡◌, ◌<◌, ℕ, List, [], ◌∷◌, ◌++◌, false, length, Option, IsSome, Result, map as each}
use Rattle.serde_json.specs.Data.{Data}
use Rattle.lsp_message.specs.Id.{Id}
use Rattle.lsp_message.specs.Message as plain
use Rattle.lsp_message.specs.Message.{ErrorObject, response}
use Rattle.lsp_message.specs.View.{message_view}
use Rattle.lsp_peers.specs.Exchange.{seen_at}
use Rattle.lsp_peers.specs.History.{Entry, entries_of, labels, payloads, returned}
use Rattle.lsp_peers.specs.HistoryLaw.{AnsweredBy, FactsOf, TakenAs}
use Rattle.lsp_peers.specs.Ids.{has, item_at, nth_id}
use Rattle.lsp_peers.specs.InOnePlace.{InOnePlace, moved_by_owner, place_of}
use Rattle.lsp_peers.specs.Shallow.{AllShallow}
use Rattle.lsp_peers.specs.Sides.{other}
use Rattle.lsp_peers.specs.declared.step.Outcome.{Outcome}
use Rattle.lsp_peers.specs.declared.step.Outcome.TheVariants.{Arrived, Returned}
use Rattle.lsp_peers.specs.declared.step.Side.{Side}
use Rattle.lsp_peers.specs.declared.step.Step.{Step}
use Rattle.lsp_peers.specs.declared.step.Step.TheVariants.{Take}
use Rattle.lsp_peers.specs.declared.world.World.{World}

-- the messages that a side took
abbrev pub taken_at : Side → World → List plain.Message
taken_at side world = each message_view (seen_at side world).taken

-- A side took a message, after these entries, and it was this entry.
pub record Takes (side : Side) (old new : World) (before : List Entry) (entry : Entry) : Type 0 where
  -- each request was in one place
  pub places : InOnePlace (entries_of side before) (entries_of (other side) before)
  -- the outcomes up to here are right for the steps, and each message can be read back
  pub facts : FactsOf (each (λ e. e.step) (before ++ entry ∷ [])) (each (λ e. e.outcome) (before ++ entry ∷ []))
  pub shallow : AllShallow (each (λ e. e.step) (before ++ entry ∷ []))
  -- the last message is the one that the outcome names
  pub last : TakenAs entry.outcome (taken_at side old) (taken_at side new)
  -- a request has the next of the ids 0, 1, 2, .., and the other side registered it before
  pub arrived : (id : Id) → entry.outcome ≡ Arrived id
      → (id ≡ nth_id (length (labels (entries_of side before))))
      × (length (labels (entries_of side before)) < length (payloads (entries_of (other side) before)))
  -- a reply gives back the payload that was registered under its id, and comes once
  pub returned_once : (id : Id) (payload : Option ℕ) → entry.outcome ≡ Returned id payload
      → IsSome payload × (payload ≡ item_at (payloads (entries_of side before)) id)
      × (has id (returned (entries_of side before)) ≡ false)
  -- a reply is the one that the other side wrote to the request
  pub answered : (id : Id) (payload : Option ℕ) → entry.outcome ≡ Returned id payload
      → (answer : Result Data ErrorObject) × (taken_at side new ≡ taken_at side old ++ response id answer ∷ [])
      × AnsweredBy (other side) id answer before
  -- a request of this side moves only if its reply was taken
  pub moved : (id : Id) → place_of (entries_of side (before ++ entry ∷ []))
      (entries_of (other side) (before ++ entry ∷ [])) id
      ≡ moved_by_owner entry.step entry.outcome id
      (place_of (entries_of side before) (entries_of (other side) before) id)
