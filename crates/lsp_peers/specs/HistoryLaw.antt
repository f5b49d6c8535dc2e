-- What the users of two peers may rest on, over the steps, their outcomes and the messages taken.
use Rattle.std.specs.Prelude.{◌≡◌, ◌<◌, ℕ, List, [], ◌∷◌, ◌++◌, length, false, IsSome, Result}
use Rattle.serde_json.specs.Data.{Data}
use Rattle.lsp_message.specs.Id.{Id}
use Rattle.lsp_message.specs.Message.{Message, ErrorObject, request, notification, response}
use Rattle.lsp_peers.specs.declared.step.Side.{Side}
use Rattle.lsp_peers.specs.declared.step.Step.{Step}
use Rattle.lsp_peers.specs.declared.step.Step.TheVariants.{Register, Take, Answer, Refuse, Cancel, GiveUp}
use Rattle.lsp_peers.specs.declared.step.Outcome.{Outcome}
use Rattle.lsp_peers.specs.declared.step.Outcome.TheVariants.{Registered, Spent, Passed, Arrived, Returned, Notified}
use Rattle.lsp_peers.specs.declared.step.Outcome.TheVariants.{Waiting, Answered, Cancelled, GaveUp, Absent}
use Rattle.lsp_peers.specs.History.{Entry, written_in, payloads, labels, returned, held, where_held, entries_of}
use Rattle.lsp_peers.specs.Ids.{nth_id, item_at, has}
use Rattle.lsp_peers.specs.Sides.{side_of, other}

-- the outcomes of steps that need no memory
abbrev pub NeedsNoMemory : Outcome → Type 0
NeedsNoMemory Spent = Unit {0}
NeedsNoMemory (Passed count) = Unit {0}
NeedsNoMemory Waiting = Unit {0}
NeedsNoMemory (GaveUp label) = Unit {0}
NeedsNoMemory Absent = Unit {0}
NeedsNoMemory outcome = ⊥

-- What an outcome says, by the steps and outcomes before it: those of the side that takes the step, and those of the
-- other side.
abbrev pub IsFact : List Entry → List Entry → Step → Outcome → Type 0
-- the requests of a side are registered as 0, 1, 2, ..
IsFact own others (Register side method params payload) (Registered id) =
    id ≡ nth_id (length (payloads own))
-- they arrive as 0, 1, 2, .., and never more than were registered before
IsFact own others (Take side label) (Arrived id) = (id ≡ nth_id (length (labels own)))
    × (length (labels own) < length (payloads others))
-- a reply gives back the payload that was registered before under its id, and no reply comes twice
IsFact own others (Take side label) (Returned id payload) = IsSome payload
    × (payload ≡ item_at (payloads own) id) × (has id (returned own) ≡ false)
-- a request is found exactly if it has arrived and is not closed
IsFact own others (Answer side id value) outcome =
    outcome ≡ where_held (held own id) (λ label. Answered label)
IsFact own others (Refuse side id code message) outcome =
    outcome ≡ where_held (held own id) (λ label. Answered label)
IsFact own others (Cancel side id) outcome = outcome ≡ where_held (held own id) (λ label. Cancelled)
IsFact own others (GiveUp side id) outcome =
    outcome ≡ where_held (held own id) (λ label. GaveUp label)
IsFact own others step outcome = Unit {0}

-- an entry of which it isn't said what it wrote
abbrev pub bare : Step → Outcome → Entry
bare step outcome = record { step = step; outcome = outcome; wrote = [] }

-- each outcome says what it does by those before it
abbrev pub AllFacts : List Entry → List Step → List Outcome → Type 0
AllFacts before [] [] = Unit {0}
AllFacts before (step ∷ steps) (outcome ∷ outcomes) =
    IsFact (entries_of (side_of step) before) (entries_of (other (side_of step)) before) step outcome
    × AllFacts (before ++ bare step outcome ∷ []) steps outcomes
AllFacts before steps outcomes = ⊥

-- the facts over steps and outcomes alone
abbrev pub FactsOf : List Step → List Outcome → Type 0
FactsOf steps outcomes = AllFacts [] steps outcomes

-- What a Take's outcome says of the messages taken before and after it: the one that it names is the last.
abbrev pub TakenAs : Outcome → List Message → List Message → Type 0
TakenAs (Arrived id) old new = (method : List ℕ) × (params : Data)
    × (new ≡ old ++ request id method params ∷ [])
TakenAs (Returned id payload) old new = (answer : Result Data ErrorObject)
    × (new ≡ old ++ response id answer ∷ [])
TakenAs Notified old new = (method : List ℕ) × (params : Data)
    × (new ≡ old ++ notification method params ∷ [])
TakenAs outcome old new = new ≡ old

-- The side wrote this answer to the request of this id in one of the entries: it answered the request, refused it or
-- cancelled it.
pub record AnsweredBy (side : Side) (id : Id) (answer : Result Data ErrorObject)
    (history : List Entry) : Type 0 where
  pub earlier : List Entry
  pub entry : Entry
  pub later : List Entry
  pub history_is : earlier ++ entry ∷ later ≡ history
  pub by : side_of entry.step ≡ side
  pub wrote : written_in entry.step entry.outcome ≡ response id answer ∷ []
