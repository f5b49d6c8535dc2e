-- What every history keeps of the requests of a side and of their replies.
use Rattle.std.proofs.Common.{◌≡◌, ℕ, suc, ◌+◌, ◌≤◌, ◌<◌, List, [], ◌∷◌, ◌++◌, length, refl, sym, ap, ◌∙◌, subst, arith}
use Rattle.std.proofs.Common.{append-nil, append_assoc, length-append, ◌⊎◌, inl, inr, ⊎_elim}
use Rattle.std.proofs.lemmas.Grind.{flat_map-append}
use Rattle.std.proofs.lemmas.List.Folds.{flat_map-map}
use Rattle.std.specs.List.{flat_map, AllByRecursion}
use Rattle.std.specs.Prelude.{◌==◌, Option, None, Some, IsSome, Bool, true, false, if◌then◌else◌, Result}
use Rattle.serde_json.specs.Data.{Data}
use Rattle.lsp_message.specs.Id.{Id}
use Rattle.lsp_message.specs.Message.{Message, ErrorObject, request, notification, response}
use Rattle.lsp_message.proofs.Ids.{cases_id}
use Rattle.lsp_queue.specs.Queue.{all_ids}
use Rattle.lsp_peers.specs.declared.step.Outcome.{Outcome}
use Rattle.lsp_peers.specs.declared.step.Outcome.TheVariants.{Registered, Spent, Told, Answered, Cancelled, GaveUp}
use Rattle.lsp_peers.specs.declared.step.Outcome.TheVariants.{Absent}
use Rattle.lsp_peers.specs.declared.step.Side.{Side}
use Rattle.lsp_peers.specs.declared.step.Side.TheVariants.{A, B}
use Rattle.lsp_peers.specs.declared.step.Step.{Step}
use Rattle.lsp_peers.specs.declared.step.Step.TheVariants.{Register, Tell, Take, Answer, Refuse, Cancel, GiveUp}
use Rattle.lsp_peers.specs.History.{Entry, written_in, payload_in, arrival_in, closed_in, replied_in, returned_in}
use Rattle.lsp_peers.specs.History.{count_in, payloads, labels, closed, replied, returned, held, where_held}
use Rattle.lsp_peers.specs.History.{taken_count, passed_count, frames_written, frames_taken, frames_left, next_sent}
use Rattle.lsp_peers.specs.History.{outcome_of_taking, outcome_of, Follows, entries_of, AllFollow, IsHistory}
use Rattle.lsp_peers.specs.Ids.{nth_id, item_at, has}
use Rattle.lsp_peers.specs.InOnePlace.{reply_of, replies}
use Rattle.lsp_peers.specs.Post.{ReadsBack}
use Rattle.lsp_peers.specs.SentFrame.{SentFrame, messages, frames}
use Rattle.lsp_peers.specs.Sides.{side_of, other}
use Rattle.lsp_peers.proofs.Entries.{payload_of, label_of_arrival, closed_id, replied_id, returned_id, taking}
use Rattle.lsp_peers.proofs.Entries.{flat_push, length-push, left_same, left_took, left_wrote, within_took}
use Rattle.lsp_peers.proofs.Entries.{within_wrote, count_push, next_first, of_own, of_other}
use Rattle.lsp_peers.proofs.KeptItems.{get-end, one_some, at_most, some_of, item_shorter, occurs, occurs-append, absent}
use Rattle.lsp_peers.proofs.KeptItems.{never, here_once, not_there}
use Rattle.lsp_peers.proofs.ShallowLemmas.{written_reads}

-- ---- what frames are, by their messages

abbrev pub ids_in : Message → List Id
ids_in (request id method params) = id ∷ []
ids_in (notification method params) = []
ids_in (response id answer) = []

-- the ids of the requests among the frames, in order
abbrev pub request_ids : List SentFrame → List Id
request_ids sent_frames = flat_map (λ sent_frame. ids_in sent_frame.message) sent_frames

abbrev pub AllReadBack : List SentFrame → Type 0
AllReadBack sent_frames = AllByRecursion (λ sent_frame. ReadsBack sent_frame.message) sent_frames

abbrev replies_in : List Message → Id → ℕ
replies_in [] id = 0
replies_in (m ∷ ms) id = reply_of m id + replies_in ms id

ids_are : (fs : List SentFrame) → request_ids fs ≡ flat_map ids_in (messages fs)
ids_are fs = sym (flat_map-map ids_in (λ (f : SentFrame). f.message) fs)

replies_are : (fs : List SentFrame) (id : Id) → replies fs id ≡ replies_in (messages fs) id
replies_are [] id = refl
replies_are (f ∷ fs) id = ap (λ (n : ℕ). reply_of f.message id + n) (replies_are fs id)

all_read : (fs : List SentFrame) → AllByRecursion ReadsBack (messages fs) → AllReadBack fs
all_read [] all = tt
all_read (f ∷ fs) all = (all.0, all_read fs all.1)

read_append : (xs ys : List SentFrame) → AllReadBack xs → AllReadBack ys → AllReadBack (xs ++ ys)
read_append [] ys a b = b
read_append (x ∷ xs) ys a b = (a.0, read_append xs ys a.1 b)

replies-append : (xs ys : List SentFrame) (id : Id) → replies (xs ++ ys) id ≡ replies xs id + replies ys id
replies-append [] ys id = omega arith
replies-append (x ∷ xs) ys id = omega (arith, replies-append xs ys id)

-- ---- numbers in order

-- the ids from the first number up to the last, which isn't among them, in order
abbrev pub Ascends : ℕ → List Id → ℕ → Type 0
Ascends from [] to = from ≡ to
Ascends from (id ∷ ids) to = (id ≡ nth_id from) × Ascends (suc from) ids to

ascends_push : (from to : ℕ) (ids : List Id) → Ascends from ids to → Ascends from (ids ++ nth_id to ∷ []) (suc to)
ascends_push from to [] up = (ap (λ (k : ℕ). nth_id k) (sym up), ap suc up)
ascends_push from to (id ∷ ids) up = (up.0, ascends_push (suc from) to ids up.1)

pub ascends_within : (from to : ℕ) (ids : List Id) → Ascends from ids to → from ≤ to
ascends_within from to [] up = omega (arith, up)
ascends_within from to (id ∷ ids) up = omega (arith, ascends_within (suc from) to ids up.1)

pub ascends_at : (a b : ℕ) (xs ys : List Id) (c d : ℕ) → b ≡ a → ys ≡ xs → d ≡ c → Ascends a xs c → Ascends b ys d
ascends_at a b xs ys c d ea es ec up = subst (λ (n : ℕ). Ascends n ys d) (sym ea) (subst (λ (l : List Id). Ascends a l
    d)
    (sym es) (subst (λ (n : ℕ). Ascends a xs n) (sym ec) up))

-- ---- what an entry does, by its step

-- it takes nothing, or the first frame
record TakesFirst (own others : List Entry) (step : Step) (outcome : Outcome) : Type 0 where
  pub first : SentFrame
  pub rest : List SentFrame
  pub is : frames_left own others ≡ first ∷ rest
  pub one : count_in step outcome ≡ 1
  pub back : (id : Id) → occurs id (returned_in step outcome) ≡ reply_of first.message id
  pub came : length (arrival_in step outcome) ≡ length (ids_in first.message)

abbrev Took : List Entry → List Entry → Step → Outcome → Type 0
Took own others step outcome =
    ((count_in step outcome ≡ 0) × (returned_in step outcome ≡ []) × (arrival_in step outcome ≡ []))
    ⊎ TakesFirst own others step outcome

-- it registers nothing and sends no request, or it does both
abbrev Sent : List Entry → Step → Outcome → Type 0
Sent own step outcome =
    ((payload_in step outcome ≡ []) × (flat_map ids_in (written_in step outcome) ≡ []))
    ⊎ ((payload : ℕ) × (payload_in step outcome ≡ payload ∷ [])
    × (flat_map ids_in (written_in step outcome) ≡ nth_id (length (payloads own)) ∷ []))

-- it closes nothing, or a request that is held
abbrev Shut : List Entry → Step → Outcome → Type 0
Shut own step outcome =
    (closed_in step outcome ≡ [])
    ⊎ ((key : Id) × (label : ℕ) × (closed_in step outcome ≡ key ∷ []) × (held own key ≡ Some label))

module _ (own others : List Entry) where
  -- what comes of a message gives back its reply, and its request arrives
  pub comes_of : (side : Side) (label : ℕ) (m : Message)
      → (count_in (Take side label) (outcome_of_taking own others m) ≡ 1)
      × ((id : Id) → occurs id (returned_in (Take side label) (outcome_of_taking own others m)) ≡ reply_of m id)
      × (length (arrival_in (Take side label) (outcome_of_taking own others m)) ≡ length (ids_in m))
  comes_of side label (request key method params) = (refl, λ id. refl, refl)
  comes_of side label (response key answer) = (refl, λ id. omega arith, refl)
  comes_of side label (notification method params) = (refl, λ id. refl, refl)

  took_at : (side : Side) (label : ℕ) (o : Option SentFrame) → next_sent own others ≡ o → Took own others
      (Take side label) (taking own others o)
  took_at side label None is = inl (refl, refl, refl)
  took_at side label (Some f) is =
      let first = next_first (length (frames (frames_taken own others))) (passed_count own) (frames_left own others) f
      is in
      let comes = comes_of side label f.message in
      inr (record { first = f; rest = first.0; is = first.1; one = comes.0; back = comes.1; came = comes.2 })

  took : (step : Step) → Took own others step (outcome_of own others step)
  took (Take side label) = took_at side label (next_sent own others) refl
  took step = inl (refl, refl, refl)

  sent_reply : (step : Step) (o : Option ℕ) (outcome : ℕ → Outcome) → ((label : ℕ) → Sent own step (outcome label))
      → Sent own step Absent → Sent own step (where_held o outcome)
  sent_reply step None outcome some none = none
  sent_reply step (Some label) outcome some none = some label

  sent : (step : Step) → Sent own step (outcome_of own others step)
  sent (Register side method params payload) = at (length (payloads own) == all_ids)
    where
      at : (b : Bool) → Sent own (Register side method params payload) (if b then Spent else Registered
          (nth_id (length (payloads own))))
      at true = inl (refl, refl)
      at false = inr (payload, refl, refl)
  sent (Answer side id value) = sent_reply (Answer side id value) (held own id) _ (λ label. inl (refl, refl))
      (inl (refl, refl))
  sent (Refuse side id code text) = sent_reply (Refuse side id code text) (held own id) _ (λ label. inl (refl, refl))
      (inl (refl, refl))
  sent (Cancel side id) = sent_reply (Cancel side id) (held own id) _ (λ label. inl (refl, refl)) (inl (refl, refl))
  sent step = inl (refl, refl)

  shut_held : (step : Step) (id : Id) (o : Option ℕ) (outcome : ℕ → Outcome) → held own id ≡ o
      → ((label : ℕ) → closed_in step (outcome label) ≡ id ∷ []) → closed_in step Absent ≡ []
      → Shut own step (where_held o outcome)
  shut_held step id None outcome is closes none = inl none
  shut_held step id (Some label) outcome is closes none = inr (id, label, closes label, is)

  shut : (step : Step) → Shut own step (outcome_of own others step)
  shut (Answer side id value) = shut_held (Answer side id value) id (held own id) _ refl (λ label. refl) refl
  shut (Refuse side id code text) = shut_held (Refuse side id code text) id (held own id) _ refl (λ label. refl) refl
  shut (Cancel side id) = shut_held (Cancel side id) id (held own id) _ refl (λ label. refl) refl
  shut (GiveUp side id) = shut_held (GiveUp side id) id (held own id) _ refl (λ label. refl) refl
  shut step = inl refl

written_replies : (step : Step) (outcome : Outcome) (id : Id) → replies_in (written_in step outcome) id
    ≡ occurs id (replied_in step outcome)
written_replies (Register side method params payload) (Registered key) id = refl
written_replies (Tell side method params) Told id = refl
written_replies (Answer side key value) (Answered label) id = refl
written_replies (Refuse side key code text) (Answered label) id = refl
written_replies (Cancel side key) Cancelled id = refl
written_replies step outcome id = refl

replied_closed : (step : Step) (outcome : Outcome) (id : Id) → occurs id (replied_in step outcome) ≤ occurs id
    (closed_in step outcome)
replied_closed (Answer side key value) (Answered label) id = omega arith
replied_closed (Refuse side key code text) (Answered label) id = omega arith
replied_closed (Cancel side key) Cancelled id = omega arith
replied_closed (GiveUp side key) (GaveUp label) id = omega arith
replied_closed step outcome id = omega arith

-- ---- what every history keeps

-- the entries of the side whose requests these are, and those of the other side
pub record Orderly (own others : List Entry) : Type 0 where
  -- the requests that wait are the next that arrive, up to the last that was registered
  pub order : Ascends (length (labels others)) (request_ids (frames_left others own)) (length (payloads own))
  -- a request that is closed has arrived, and is closed once
  pub bound : (id : Id) → occurs id (closed others) ≤ one_some (item_at (labels others) id)
  pub less : (id : Id) → occurs id (replied others) ≤ occurs id (closed others)
  -- each reply waits or was taken
  pub once : (id : Id) → replies (frames_left own others) id + occurs id (returned own) ≡ occurs id (replied others)
  pub within : taken_count own ≤ length (frames_written others)
  pub reads : AllReadBack (frames_left own others)

pushed : (f : Entry → List Id) (entries : List Entry) (e : Entry) (id : Id) → occurs id (flat_map f (entries ++ e ∷ []))
    ≡ occurs id (flat_map f entries) + occurs id (f e)
pushed f entries e id = ap (λ (l : List Id). occurs id l) (flat_push f entries e) ∙ occurs-append id (flat_map f
    entries)
    (f e)

module _ (own others : List Entry) (e : Entry) (follows : Follows own others e) (mine : Orderly own others)
    (theirs : Orderly others own) where
  it_took : Took own others e.step e.outcome
  it_took = subst (λ (o : Outcome). Took own others e.step o) (sym follows.outcome_is) (took own others e.step)

  it_sent : Sent own e.step e.outcome
  it_sent = subst (λ (o : Outcome). Sent own e.step o) (sym follows.outcome_is) (sent own others e.step)

  it_shut : Shut own e.step e.outcome
  it_shut = subst (λ (o : Outcome). Shut own e.step o) (sym follows.outcome_is) (shut own others e.step)

  ids_left : request_ids (frames_left others (own ++ e ∷ [])) ≡ request_ids (frames_left others own)
      ++ flat_map ids_in (written_in e.step e.outcome)
  ids_left = ap request_ids (left_wrote others own e theirs.within)
      ∙ flat_map-append (λ (f : SentFrame). ids_in f.message) (frames_left others own) e.wrote
      ∙ ap (λ (l : List Id). request_ids (frames_left others own) ++ l) (ids_are e.wrote
      ∙ ap (λ (l : List Message). flat_map ids_in l) follows.wrote_is)

  order_sent : Sent own e.step e.outcome → Ascends (length (labels others)) (request_ids (frames_left others (own ++ e
      ∷ []))) (length (payloads (own ++ e ∷ [])))
  order_sent (inl none) = ascends_at _ _ _ _ _ _ refl (ids_left ∙ ap (λ (l : List Id). request_ids
      (frames_left others own) ++ l) none.1 ∙ append-nil _) (ap (λ (l : List ℕ). length l) (flat_push payload_of own e
      ∙ ap (λ (l : List ℕ). payloads own ++ l) none.0 ∙ append-nil _)) mine.order
  order_sent (inr one) = ascends_at _ _ _ _ _ _ refl (ids_left ∙ ap (λ (l : List Id). request_ids
      (frames_left others own) ++ l) one.2) (ap (λ (l : List ℕ). length l) (flat_push payload_of own e
      ∙ ap (λ (l : List ℕ). payloads own ++ l) one.1) ∙ length-push (payloads own) one.0 ∙ omega arith) (ascends_push _
      _
      _ mine.order)

  once_took : Took own others e.step e.outcome → (id : Id) → replies (frames_left (own ++ e ∷ []) others) id
      + occurs id (returned (own ++ e ∷ [])) ≡ occurs id (replied others)
  once_took (inl none) id = omega (
    arith,
    mine.once id,
    ap (λ (l : List SentFrame). replies l id) (left_same own others e none.0),
    pushed returned_id own e id,
    ap (λ (l : List Id). occurs id l) none.1,
  )
  once_took (inr one) id = omega (
    arith,
    mine.once id,
    ap (λ (l : List SentFrame). replies l id) one.is,
    ap (λ (l : List SentFrame). replies l id) (left_took own others e one.one one.first one.rest one.is),
    pushed returned_id own e id,
    one.back id,
  )

  within_own : Took own others e.step e.outcome → taken_count (own ++ e ∷ []) ≤ length (frames_written others)
  within_own (inl none) = omega (arith, mine.within, count_push own e, none.0)
  within_own (inr one) = within_took own others e one.one one.first one.rest one.is mine.within

  reads_own : Took own others e.step e.outcome → AllReadBack (frames_left (own ++ e ∷ []) others)
  reads_own (inl none) = subst AllReadBack (sym (left_same own others e none.0)) mine.reads
  reads_own (inr one) =
      let all : AllReadBack (one.first ∷ one.rest) = subst AllReadBack one.is mine.reads in
      subst AllReadBack (sym (left_took own others e one.one one.first one.rest one.is)) all.1

  own_orderly : Orderly (own ++ e ∷ []) others
  own_orderly = record {
    order = order_sent it_sent;
    bound = mine.bound;
    less = mine.less;
    once = once_took it_took;
    within = within_own it_took;
    reads = reads_own it_took;
  }

  labels_more : length (labels (own ++ e ∷ [])) ≡ length (labels own) + length (label_of_arrival e)
  labels_more = ap (λ (l : List ℕ). length l) (flat_push label_of_arrival own e) ∙ length-append (labels own)
      (label_of_arrival e)

  order_message : (m : Message) (rest : List Id) → Ascends (length (labels own)) (ids_in m ++ rest)
      (length (payloads others)) → Ascends (length (labels own) + length (ids_in m)) rest (length (payloads others))
  order_message (request key method params) rest up = ascends_at _ _ _ _ _ _ (omega arith) refl refl up.1
  order_message (notification method params) rest up = ascends_at _ _ _ _ _ _ (omega arith) refl refl up
  order_message (response key answer) rest up = ascends_at _ _ _ _ _ _ (omega arith) refl refl up

  order_took : Took own others e.step e.outcome → Ascends (length (labels (own ++ e ∷ []))) (request_ids (frames_left
      (own ++ e ∷ []) others)) (length (payloads others))
  order_took (inl none) = ascends_at _ _ _ _ _ _ (omega (
    arith,
    labels_more,
    ap (λ (l : List ℕ). length l) none.2,
  )) (ap request_ids (left_same own others e none.0)) refl theirs.order
  order_took (inr one) =
      let first : Ascends (length (labels own)) (ids_in one.first.message ++ request_ids one.rest)
      (length (payloads others)) = subst (λ (l : List SentFrame). Ascends (length (labels own)) (request_ids l)
      (length (payloads others))) one.is theirs.order in
      ascends_at _ _ _ _ _ _ (labels_more ∙ ap (λ (n : ℕ). length (labels own) + n) one.came) (ap request_ids
      (left_took own others e one.one one.first one.rest one.is)) refl (order_message one.first.message (request_ids
      one.rest) first)

  labels_within : (id : Id) → one_some (item_at (labels own) id) ≤ one_some (item_at (labels (own ++ e ∷ [])) id)
  labels_within id = item_shorter (labels own) (labels (own ++ e ∷ [])) id (omega (arith, labels_more))

  held_item : (b : Bool) (o : Option ℕ) (label : ℕ) → (if b then None else o) ≡ Some label → (b ≡ false)
      × (o ≡ Some label)
  held_item true o label is = cc
  held_item false o label is = (refl, is)

  bound_shut : Shut own e.step e.outcome → (id : Id) → occurs id (closed (own ++ e ∷ [])) ≤ one_some (item_at
      (labels (own ++ e ∷ [])) id)
  bound_shut (inl none) id = omega (
    arith,
    theirs.bound id,
    labels_within id,
    pushed closed_id own e id,
    ap (λ (l : List Id). occurs id l) none,
  )
  bound_shut (inr one) id =
      let there = held_item (has one.0 (closed own)) (item_at (labels own) one.0) one.1 one.3 in
      ⊎_elim
      (λ here. subst (λ (n : Id). occurs n (closed (own ++ e ∷ [])) ≤ one_some (item_at (labels (own ++ e ∷ [])) n))
      (sym here) (omega (
        arith,
        never one.0 (closed own) there.0,
        ap (λ (o : Option ℕ). one_some o) there.1,
        labels_within one.0,
        pushed closed_id own e one.0,
        ap (λ (l : List Id). occurs one.0 l) one.2,
        here_once one.0,
      )))
      (λ apart. omega (
        arith,
        theirs.bound id,
        labels_within id,
        pushed closed_id own e id,
        ap (λ (l : List Id). occurs id l) one.2,
        not_there one.0 id apart,
      ))
      (cases_id id one.0)

  wrote_replies : (id : Id) → replies e.wrote id ≡ occurs id (replied_in e.step e.outcome)
  wrote_replies id = replies_are e.wrote id ∙ ap (λ (l : List Message). replies_in l id) follows.wrote_is
      ∙ written_replies e.step e.outcome id

  others_orderly : Orderly others (own ++ e ∷ [])
  others_orderly = record {
    order = order_took it_took;
    bound = bound_shut it_shut;
    less = λ id. omega (
      arith,
      theirs.less id,
      pushed closed_id own e id,
      pushed replied_id own e id,
      replied_closed e.step e.outcome id,
    );
    once = λ id. omega (
      arith,
      theirs.once id,
      ap (λ (l : List SentFrame). replies l id) (left_wrote others own e theirs.within),
      replies-append (frames_left others own) e.wrote id,
      wrote_replies id,
      pushed replied_id own e id,
    );
    within = within_wrote others own e theirs.within;
    reads = subst AllReadBack (sym (left_wrote others own e theirs.within)) (read_append _ _ theirs.reads (all_read
        e.wrote (subst (AllByRecursion ReadsBack) (sym follows.wrote_is) (written_reads e.step e.outcome
        follows.shallow))));
  }

-- ---- both sides of a history

abbrev BothOrderly : List Entry → Type 0
BothOrderly history = (side : Side) → Orderly (entries_of side history) (entries_of (other side) history)

orderly_at : (a b own others : List Entry) → a ≡ own → b ≡ others → Orderly own others → Orderly a b
orderly_at a b own others ea eb orderly = subst (λ (l : List Entry). Orderly l b) (sym ea) (subst (λ (l : List Entry).
    Orderly own l) (sym eb) orderly)

one_more : (history : List Entry) (e : Entry) (by : Side) → side_of e.step ≡ by → BothOrderly history
    → Follows (entries_of by history) (entries_of (other by) history) e → BothOrderly (history ++ e ∷ [])
one_more history e A is both follows A = orderly_at _ _ _ _ (of_own A history e is) (of_other A history e is)
    (own_orderly _ _ e follows (both A) (both B))
one_more history e A is both follows B = orderly_at _ _ _ _ (of_other A history e is) (of_own A history e is)
    (others_orderly _ _ e follows (both A) (both B))
one_more history e B is both follows A = orderly_at _ _ _ _ (of_other B history e is) (of_own B history e is)
    (others_orderly _ _ e follows (both B) (both A))
one_more history e B is both follows B = orderly_at _ _ _ _ (of_own B history e is) (of_other B history e is)
    (own_orderly _ _ e follows (both B) (both A))

orderly_from : (before entries : List Entry) → BothOrderly before → AllFollow before entries
    → BothOrderly (before ++ entries)
orderly_from before [] both follow = subst BothOrderly (sym (append-nil before)) both
orderly_from before (e ∷ entries) both follow = subst BothOrderly (append_assoc before (e ∷ []) entries) (orderly_from
    (before ++ e ∷ []) entries (one_more before e (side_of e.step) refl both follow.0) follow.1)

orderly_nothing : Orderly [] []
orderly_nothing = record {
  order = refl;
  bound = λ id. omega arith;
  less = λ id. omega arith;
  once = λ id. omega arith;
  within = omega arith;
  reads = tt;
}

both_nothing : BothOrderly []
both_nothing A = orderly_nothing
both_nothing B = orderly_nothing

pub orderly_of : (history : List Entry) → IsHistory history → (side : Side) → Orderly (entries_of side history)
    (entries_of (other side) history)
orderly_of history lawful = orderly_from [] history both_nothing lawful

-- the same of the requests of the other side
pub orderly_other : (history : List Entry) → IsHistory history → (side : Side) → Orderly (entries_of (other side)
    history)
    (entries_of side history)
orderly_other history lawful A = orderly_of history lawful B
orderly_other history lawful B = orderly_of history lawful A

-- ---- what the first frame is

module _ (own others : List Entry) (f : SentFrame) (rest : List SentFrame) (first : frames_left own others ≡ f ∷ rest)
  where
    -- a reply, to a request that was registered and has no reply yet
    pub reply_first : Orderly own others → (key : Id) (answer : Result Data ErrorObject) → f.message
        ≡ response key answer → (has key (returned own) ≡ false) × IsSome (item_at (payloads own) key)
    reply_first mine key answer is =
        let waits : 1 ≤ replies (frames_left own others) key = omega (
          arith,
          ap (λ (l : List SentFrame). replies l key) first,
          ap (λ (m : Message). reply_of m key) is,
          here_once key,
        ) in
        let there : 1 ≤ one_some (item_at (labels others) key) = omega (
          arith,
          waits,
          mine.once key,
          mine.less key,
          mine.bound key,
        ) in (
          absent key (returned own) (omega (
            arith,
            waits,
            mine.once key,
            mine.less key,
            mine.bound key,
            at_most (item_at (labels others) key),
          )),
          some_of (item_at (payloads own) key) (omega (
            arith,
            there,
            item_shorter (labels others) (payloads own) key (ascends_within _ _ _ mine.order),
          )),
        )

    -- a request, the next that arrives
    pub request_first : Orderly others own → (key : Id) (method : List ℕ) (params : Data) → f.message
        ≡ request key method params → (key ≡ nth_id (length (labels own))) × (length (labels own) < length
        (payloads others)) × (has key (closed own) ≡ false)
    request_first theirs key method params is =
        let up : Ascends (length (labels own)) (key ∷ request_ids rest) (length (payloads others)) =
        subst (λ (m : Message). Ascends (length (labels own)) (ids_in m ++ request_ids rest) (length (payloads others)))
        is (subst (λ (l : List SentFrame). Ascends (length (labels own)) (request_ids l) (length (payloads others)))
        first theirs.order) in (
          up.0,
          omega (arith, ascends_within _ _ _ up.1),
          absent key (closed own) (omega (
            arith,
            theirs.bound key,
            ap (λ (i : Id). one_some (item_at (labels own) i)) up.0,
            ap (λ (o : Option ℕ). one_some o) (get-end (labels own)),
          )),
        )

-- no reply came to a request that is yet to be registered
pub new_open : (own others : List Entry) → Orderly own others → has (nth_id (length (payloads own))) (returned own)
    ≡ false
new_open own others mine =
    let id : Id = nth_id (length (payloads own)) in
    absent id (returned own) (omega (
      arith,
      mine.once id,
      mine.less id,
      mine.bound id,
      item_shorter (labels others) (payloads own) id (ascends_within _ _ _ mine.order),
      ap (λ (o : Option ℕ). one_some o) (get-end (payloads own)),
    ))
