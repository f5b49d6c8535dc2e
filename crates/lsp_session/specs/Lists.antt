-- What one call does to a box whose contents are a list.
use Rattle.std.specs.Prelude.{◌≡◌, ℕ, ◌<◌, ◌≤◌, Bool, false, List, [], ◌∷◌, ◌++◌, length, map, Result, Ok, Err}
use Rattle.lsp_message.specs.Message.{Message}
use Rattle.lsp_session.specs.Event.{Event, closed, event_view}
use Rattle.lsp_session.specs.declared.lifecycle.SendFault.{SendFault}
use Rattle.lsp_session.specs.declared.lifecycle.SendFault.TheVariants.{Closed, Memory}
use Rattle.lsp_session.specs.declared.lifecycle.lists.ListInbox.{ListInbox}

-- A message is taken while there is room, and refused as by a closed outbox from then on.
-- Only a failed allocation makes an exception.
abbrev pub TakesUpToRoom : ℕ → ℕ → List Message → Message → Result (Unit {0}) SendFault
    → List Message → Type 0
TakesUpToRoom room room' old message (Ok done) new = (length old < room)
    × (new ≡ old ++ message ∷ []) × (room' ≡ room)
TakesUpToRoom room room' old message (Err (Closed back)) new = (room ≤ length old) × (new ≡ old)
    × (room' ≡ room)
TakesUpToRoom room room' old message (Err (Memory back)) new = (length old < room) × (new ≡ old)
    × (room' ≡ room)

-- the first event comes, and `closed` if none is left
abbrev pub GivesNext : List Event → Event → List Event → Type 0
GivesNext [] event new = (event ≡ closed) × (new ≡ [])
GivesNext (first ∷ rest) event new = (event ≡ first) × (new ≡ rest)

-- the first answer comes, and `false` if none is left
abbrev pub AnswersNext : List Bool → Bool → List Bool → Type 0
AnswersNext [] answer new = (answer ≡ false) × (new ≡ [])
AnswersNext (first ∷ rest) answer new = (answer ≡ first) × (new ≡ rest)

-- what one receive from a list of events does to it
abbrev pub ListGives : ListInbox → Event → ListInbox → Type 0
ListGives old event new =
    GivesNext (map event_view old.events.items) event (map event_view new.events.items)
