-- What two peers do: the entries of a run, and what each of them comes to after those before it.
use Rattle.std.specs.List.{flat_map}
use Rattle.std.specs.Option.{option_map_or}
use Rattle.std.specs.Prelude.{◌≡◌, ◌==◌, ℕ, ◌+◌, ◌-◌, List, [], ◌∷◌, ◌++◌, length, take, drop, min, Option, None, Some}
use Rattle.std.specs.Prelude.{Ok, if◌then◌else◌, string_bytes}
use Rattle.serde_json.specs.View.{view}
use Rattle.lsp_message.specs.Id.{Id}
use Rattle.lsp_message.specs.Message.{Message, request, notification, response}
use Rattle.lsp_queue.specs.Queue.{all_ids, cancelled}
use Rattle.lsp_peers.specs.declared.step.Side.{Side}
use Rattle.lsp_peers.specs.declared.step.Side.TheVariants.{A, B}
use Rattle.lsp_peers.specs.declared.step.Step.{Step}
use Rattle.lsp_peers.specs.declared.step.Step.TheVariants.{Register, Tell, Pass, Take, Answer, Refuse, Cancel, GiveUp}
use Rattle.lsp_peers.specs.declared.step.Outcome.{Outcome}
use Rattle.lsp_peers.specs.declared.step.Outcome.TheVariants.{Registered, Spent, Told, Passed, Arrived, Returned}
use Rattle.lsp_peers.specs.declared.step.Outcome.TheVariants.{Notified, Waiting, Answered, Cancelled, GaveUp, Absent}
use Rattle.lsp_peers.specs.Ids.{nth_id, item_at, has}
use Rattle.lsp_peers.specs.SentFrame.{SentFrame, refused, messages, frames, first_passed}
use Rattle.lsp_peers.specs.Shallow.{IsShallow}
use Rattle.lsp_peers.specs.Sides.{side_of, other}

-- a step with its outcome, and the frame that it wrote to the other side, if it wrote one
pub record Entry : Type 0 where
  pub step : Step
  pub outcome : Outcome
  pub wrote : List SentFrame

-- ---- what an entry is, by its step and outcome

-- the message that it writes to the other side
abbrev pub written_in : Step → Outcome → List Message
written_in (Register side method params payload) (Registered id) =
    request id (string_bytes method) (view params) ∷ []
written_in (Tell side method params) Told = notification (string_bytes method) (view params) ∷ []
written_in (Answer side id value) (Answered label) = response id (Ok (view value)) ∷ []
written_in (Refuse side id code message) (Answered label) =
    refused id code (string_bytes message) ∷ []
written_in (Cancel side id) Cancelled = cancelled id ∷ []
written_in step outcome = []

-- a registration's payload
abbrev pub payload_in : Step → Outcome → List ℕ
payload_in (Register side method params payload) (Registered id) = payload ∷ []
payload_in step outcome = []

-- the label of a request that was taken
abbrev pub arrival_in : Step → Outcome → List ℕ
arrival_in (Take side label) (Arrived id) = label ∷ []
arrival_in step outcome = []

-- the id of a request that was answered, refused, cancelled or given up
abbrev pub closed_in : Step → Outcome → List Id
closed_in (Answer side id value) (Answered label) = id ∷ []
closed_in (Refuse side id code message) (Answered label) = id ∷ []
closed_in (Cancel side id) Cancelled = id ∷ []
closed_in (GiveUp side id) (GaveUp label) = id ∷ []
closed_in step outcome = []

-- the id of a request that was answered, refused or cancelled
abbrev pub replied_in : Step → Outcome → List Id
replied_in (Answer side id value) (Answered label) = id ∷ []
replied_in (Refuse side id code message) (Answered label) = id ∷ []
replied_in (Cancel side id) Cancelled = id ∷ []
replied_in step outcome = []

-- the id of a reply that was taken
abbrev pub returned_in : Step → Outcome → List Id
returned_in (Take side label) (Returned id payload) = id ∷ []
returned_in step outcome = []

-- how many messages were taken: one or none
abbrev pub count_in : Step → Outcome → ℕ
count_in (Take side label) (Arrived id) = 1
count_in (Take side label) (Returned id payload) = 1
count_in (Take side label) Notified = 1
count_in step outcome = 0

-- how many bytes arrived
abbrev pub bytes_in : Step → Outcome → ℕ
bytes_in (Pass side bytes) (Passed count) = count
bytes_in step outcome = 0

-- ---- what the entries of one side come to

-- The payloads of its requests. They have the ids 0, 1, 2, .., since `outcome_of` gives them out so.
abbrev pub payloads : List Entry → List ℕ
payloads entries = flat_map (λ entry. payload_in entry.step entry.outcome) entries

-- The labels of the requests that it took. These have the ids 0, 1, 2, .. too: that is a law,
-- `requests_arrive_in_order`.
abbrev pub labels : List Entry → List ℕ
labels entries = flat_map (λ entry. arrival_in entry.step entry.outcome) entries

-- the ids of the requests that it answered, refused, cancelled or gave up
abbrev pub closed : List Entry → List Id
closed entries = flat_map (λ entry. closed_in entry.step entry.outcome) entries

-- the ids of those to which it wrote a reply: it answered, refused or cancelled them
abbrev pub replied : List Entry → List Id
replied entries = flat_map (λ entry. replied_in entry.step entry.outcome) entries

-- the ids of the replies that it took
abbrev pub returned : List Entry → List Id
returned entries = flat_map (λ entry. returned_in entry.step entry.outcome) entries

-- the label under which it holds a request: it took the request, and hasn't closed it
abbrev pub held : List Entry → Id → Option ℕ
held entries id = if has id (closed entries) then None else item_at (labels entries) id

-- the payload that is pending under an id: it registered the request, and hasn't taken the reply
abbrev pub pending : List Entry → Id → Option ℕ
pending entries id = if has id (returned entries) then None else item_at (payloads entries) id

-- what it wrote to the other side, in order
abbrev pub frames_written : List Entry → List SentFrame
frames_written entries = flat_map (λ entry. entry.wrote) entries

-- how many messages it took
abbrev pub taken_count : List Entry → ℕ
taken_count [] = 0
taken_count (entry ∷ entries) = count_in entry.step entry.outcome + taken_count entries

-- how many bytes arrived there
abbrev pub passed_count : List Entry → ℕ
passed_count [] = 0
passed_count (entry ∷ entries) = bytes_in entry.step entry.outcome + passed_count entries

-- what comes of a step that needs a request to be held
abbrev pub where_held : Option ℕ → (ℕ → Outcome) → Outcome
where_held None outcome = Absent
where_held (Some label) outcome = outcome label

-- ---- what the entries of a side and those of the other side come to

module _ (own others : List Entry) where
  -- the frames that it took: the first of those that the other side wrote
  abbrev pub frames_taken : List SentFrame
  frames_taken = take (taken_count own) (frames_written others)

  -- the frames that it has yet to take
  abbrev pub frames_left : List SentFrame
  frames_left = drop (taken_count own) (frames_written others)

  -- the first frame that it has yet to take, if the whole frame has arrived
  abbrev pub next_sent : Option SentFrame
  next_sent = first_passed (length (frames frames_taken)) (passed_count own) frames_left

  -- What comes of taking a message: a request arrives, a reply gives back the payload of its request. That no reply
  -- comes twice is a law, `a_reply_gives_back_its_payload_once`.
  abbrev pub outcome_of_taking : Message → Outcome
  outcome_of_taking (request id method params) = Arrived id
  outcome_of_taking (response id answer) = Returned id (item_at (payloads own) id)
  outcome_of_taking (notification method params) = Notified

  -- what comes of a step of this side
  abbrev pub outcome_of : Step → Outcome
  outcome_of (Register side method params payload) = if length (payloads own) ==
      all_ids then Spent else Registered (nth_id (length (payloads own)))
  outcome_of (Tell side method params) = Told
  outcome_of (Pass side bytes) =
      Passed (min bytes (length (frames (frames_written others)) - passed_count own))
  outcome_of (Take side label) =
      option_map_or (λ sent_frame. outcome_of_taking sent_frame.message) next_sent Waiting
  outcome_of (Answer side id value) = where_held (held own id) (λ label. Answered label)
  outcome_of (Refuse side id code message) = where_held (held own id) (λ label. Answered label)
  outcome_of (Cancel side id) = where_held (held own id) (λ label. Cancelled)
  outcome_of (GiveUp side id) = where_held (held own id) (λ label. GaveUp label)

  -- An entry of this side: its outcome is what comes of its step, and it writes what its step and outcome say. What it
  -- writes nests so little that it can be read back.
  pub record Follows (entry : Entry) : Type 0 where
    pub shallow : IsShallow entry.step
    pub outcome_is : entry.outcome ≡ outcome_of entry.step
    pub wrote_is : messages entry.wrote ≡ written_in entry.step entry.outcome

-- ---- the entries of both sides, one after another

-- an entry, if it is one of the side
abbrev pub only_of : Side → Side → Entry → List Entry
only_of A A entry = entry ∷ []
only_of B B entry = entry ∷ []
only_of side named entry = []

-- the entries of a side, in order
abbrev pub entries_of : Side → List Entry → List Entry
entries_of side history = flat_map (λ entry. only_of side (side_of entry.step) entry) history

-- each of these entries follows those that were before it
abbrev pub AllFollow : List Entry → List Entry → Type 0
AllFollow before [] = Unit {0}
AllFollow before (entry ∷ entries) =
    Follows (entries_of (side_of entry.step) before) (entries_of (other (side_of entry.step)) before)
    entry × AllFollow (before ++ entry ∷ []) entries

abbrev pub IsHistory : List Entry → Type 0
IsHistory entries = AllFollow [] entries
