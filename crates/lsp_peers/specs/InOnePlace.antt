-- Where each request is. It is in one place: the requests and replies among the frames that wait are exactly those that
-- are on the way and those that are coming back, and each queue holds what its places say.
use Rattle.std.specs.Option.{option_map_or}
use Rattle.std.specs.Prelude.{◌≡◌, ℕ, ◌+◌, List, [], ◌∷◌, Option, None, Some, if◌then◌else◌, is_some, option_map}
use Rattle.lsp_message.specs.Id.{Id, same_id}
use Rattle.lsp_message.specs.Message.{Message, request, response}
use Rattle.lsp_peers.specs.History.{Entry, payloads, labels, closed, replied, returned, held, pending, frames_left}
use Rattle.lsp_peers.specs.Ids.{item_at, has}
use Rattle.lsp_peers.specs.SentFrame.{SentFrame}
use Rattle.lsp_peers.specs.declared.step.Outcome.{Outcome}
use Rattle.lsp_peers.specs.declared.step.Outcome.TheVariants.{Registered, Arrived, Returned, Answered, Cancelled}
use Rattle.lsp_peers.specs.declared.step.Outcome.TheVariants.{GaveUp}
use Rattle.lsp_peers.specs.declared.step.Step.{Step}
use Rattle.lsp_peers.specs.declared.step.Step.TheVariants.{Register, Take, Answer, Refuse, Cancel, GiveUp}

-- where a request is: the label is what the other side holds under its id
pub data Place : Type 0 where
  OnTheWay : Place
  AtOther : (label : ℕ) → Place
  ComingBack : Place
  Done : Place
  GivenUp : Place

-- 1 for this place, else 0
abbrev pub on_the_way : Option Place → ℕ
on_the_way (Some OnTheWay) = 1
on_the_way place = 0

-- 1 for this place, else 0
abbrev pub coming_back : Option Place → ℕ
coming_back (Some ComingBack) = 1
coming_back place = 0

-- the label under which the other side holds it
abbrev pub label_in : Option Place → Option ℕ
label_in (Some (AtOther label)) = Some label
label_in place = None

-- its payload, unless it is done
abbrev pub owed : Option Place → Option ℕ → Option ℕ
owed (Some Done) payload = None
owed place payload = payload

-- 1 if the message is the request of this id, else 0
abbrev pub request_of : Message → Id → ℕ
request_of (request i method params) id = if same_id i id then 1 else 0
request_of message id = 0

-- 1 if it is the reply to it, else 0
abbrev pub reply_of : Message → Id → ℕ
reply_of (response i answer) id = if same_id i id then 1 else 0
reply_of message id = 0

-- how many of the frames are the request of this id
abbrev pub requests : List SentFrame → Id → ℕ
requests [] id = 0
requests (sent_frame ∷ sent_frames) id = request_of sent_frame.message id + requests sent_frames id

-- how many of them are the reply to it
abbrev pub replies : List SentFrame → Id → ℕ
replies [] id = 0
replies (sent_frame ∷ sent_frames) id = reply_of sent_frame.message id + replies sent_frames id

-- the entries of the side whose requests these are, and those of the other side
module _ (own others : List Entry) where
  -- where the request of this id is, if it was registered
  abbrev pub place_of : Id → Option Place
  place_of id =
      if has id (returned own) then Some Done
      else if has id (replied others) then Some ComingBack
      else if has id (closed others) then Some GivenUp
      else option_map_or (λ label. Some (AtOther label)) (item_at (labels others) id)
      (option_map (λ payload. OnTheWay) (item_at (payloads own) id))

  pub record InOnePlace : Type 0 where
    -- the requests that were registered have a place, and no others
    pub known : (id : Id) → is_some (place_of id) ≡ is_some (item_at (payloads own) id)
    -- a request waits for each that is on the way, once, and no other request
    pub out : (id : Id) → requests (frames_left others own) id ≡ on_the_way (place_of id)
    -- a reply waits for each that is coming back, once, and no other reply
    pub back : (id : Id) → replies (frames_left own others) id ≡ coming_back (place_of id)
    -- the other side holds those that are there
    pub there : (id : Id) → held others id ≡ label_in (place_of id)
    -- the payloads are pending of those that aren't done
    pub asked : (id : Id) → pending own id ≡ owed (place_of id) (item_at (payloads own) id)

-- where the request of this id is after one more entry of the side that registered it
abbrev pub moved_by_owner : Step → Outcome → Id → Option Place → Option Place
moved_by_owner (Register side method params payload) (Registered key) id place =
    if same_id key id then Some OnTheWay else place
moved_by_owner (Take side label) (Returned key payload) id place =
    if same_id key id then Some Done else place
moved_by_owner step outcome id place = place

-- where it is after one more entry of the other side
abbrev pub moved_by_other : Step → Outcome → Id → Option Place → Option Place
moved_by_other (Take side label) (Arrived key) id place =
    if same_id key id then Some (AtOther label) else place
moved_by_other (Answer side key value) (Answered label) id place =
    if same_id key id then Some ComingBack else place
moved_by_other (Refuse side key code message) (Answered label) id place =
    if same_id key id then Some ComingBack else place
moved_by_other (Cancel side key) Cancelled id place =
    if same_id key id then Some ComingBack else place
moved_by_other (GiveUp side key) (GaveUp label) id place =
    if same_id key id then Some GivenUp else place
moved_by_other step outcome id place = place
