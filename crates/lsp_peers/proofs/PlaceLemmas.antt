-- Each request of a history is in one place.
use Rattle.std.proofs.Common.{◌≡◌, ℕ, suc, ◌+◌, ◌≤◌, List, [], ◌∷◌, ◌++◌, length, refl, sym, ap, ◌∙◌, arith, subst}
use Rattle.std.specs.Option.{option_map_or}
use Rattle.std.specs.Prelude.{Option, None, Some, Bool, true, false, if◌then◌else◌, is_some, option_map}
use Rattle.lsp_message.specs.Id.{Id, same_id}
use Rattle.lsp_message.specs.Message.{Message, request, notification, response}
use Rattle.lsp_message.proofs.Ids.{same_is}
use Rattle.lsp_peers.specs.History.{Entry, payloads, labels, closed, replied, returned, frames_left, entries_of}
use Rattle.lsp_peers.specs.History.{IsHistory, where_held}
use Rattle.lsp_peers.specs.Ids.{nth_id, item_at, has}
use Rattle.lsp_peers.specs.InOnePlace.{Place, OnTheWay, AtOther, ComingBack, Done, GivenUp, on_the_way, coming_back}
use Rattle.lsp_peers.specs.InOnePlace.{label_in, owed, request_of, requests, replies, InOnePlace, place_of}
use Rattle.lsp_peers.specs.InOnePlace.{moved_by_owner, moved_by_other}
use Rattle.lsp_peers.specs.SentFrame.{SentFrame}
use Rattle.lsp_peers.specs.Sides.{other, side_of}
use Rattle.lsp_peers.specs.declared.step.Side.{Side}
use Rattle.lsp_peers.specs.declared.step.Outcome.{Outcome}
use Rattle.lsp_peers.specs.declared.step.Outcome.TheVariants.{Registered, Arrived, Returned, Answered, Cancelled}
use Rattle.lsp_peers.specs.declared.step.Outcome.TheVariants.{GaveUp, Absent}
use Rattle.lsp_peers.specs.declared.step.Step.{Step}
use Rattle.lsp_peers.specs.declared.step.Step.TheVariants.{Register, Take, Answer, Refuse, Cancel, GiveUp}
use Rattle.lsp_peers.specs.HistoryLaw.{IsFact}
use Rattle.lsp_peers.proofs.Entries.{length-push, entry, payload_of, label_of_arrival, closed_id, replied_id}
use Rattle.lsp_peers.proofs.Entries.{returned_id, flat_push, flat_push_none, beginning_of, of_own, of_other}
use Rattle.lsp_peers.proofs.KeptItems.{get-end, one_some, item_shorter}
use Rattle.lsp_peers.proofs.KeptItems.{Counts, counts, occurs, occurs-append, item-push, absent, never, has-push}
use Rattle.lsp_peers.proofs.Orderly.{Orderly, orderly_of, ids_in, request_ids, Ascends, ascends_at, orderly_other}
use Rattle.lsp_peers.proofs.Orderly.{ascends_within}
use Rattle.lsp_peers.proofs.FactLemmas.{fact_of}

-- ---- each request of a history is in one place

-- where a request is, by whether its reply was taken, written, and it was closed, and by its label and its payload
abbrev pub place : Bool → Bool → Bool → Option ℕ → Option ℕ → Option Place
place returned replied closed label payload =
    if returned then Some Done else if replied then Some ComingBack else if closed then Some GivenUp
    else option_map_or (λ l. Some (AtOther l)) label (option_map (λ p. OnTheWay) payload)

-- what these say of a place: it is known, the request waits, the reply waits, it is held, and its payload is pending
abbrev Placed : Bool → Bool → Bool → Option ℕ → Option ℕ → ℕ → ℕ → Type 0
Placed r p c l x requested answered =
    let at : Option Place = place r p c l x in
    (is_some at ≡ is_some x) × (requested ≡ on_the_way at) × (answered ≡ coming_back at)
    × ((if c then None else l) ≡ label_in at) × ((if r then None else x) ≡ owed at x)

module _ (m n k requested answered : ℕ) (all : answered + m ≡ n) (less : n ≤ k) where
  placed : (r p c : Bool) (l x : Option ℕ) → Counts r m → Counts p n → Counts c k → k ≤ one_some l
      → requested + one_some l ≡ one_some x → Placed r p c l x requested answered
  placed true p c None x rs ps cs bound out = absurd (omega (arith, all, less, rs, bound))
  placed r p c (Some l) None rs ps cs bound out = absurd (omega (arith, out))
  placed true p false (Some l) (Some x) rs ps cs bound out = absurd (omega (arith, all, less, rs, cs))
  placed true p true (Some l) (Some x) rs ps cs bound out = (
    refl,
    omega (arith, out),
    omega (arith, all, less, rs, bound),
    refl,
    refl,
  )
  placed false true c None x rs ps cs bound out = absurd (omega (arith, less, ps, bound))
  placed false true false (Some l) (Some x) rs ps cs bound out = absurd (omega (arith, less, ps, cs))
  placed false true true (Some l) (Some x) rs ps cs bound out = (
    refl,
    omega (arith, out),
    omega (arith, all, less, rs, ps, bound),
    refl,
    refl,
  )
  placed false false true None x rs ps cs bound out = absurd (omega (arith, cs, bound))
  placed false false true (Some l) (Some x) rs ps cs bound out = (
    refl,
    omega (arith, out),
    omega (arith, all, ps),
    refl,
    refl,
  )
  placed false false false None None rs ps cs bound out = (refl, omega (arith, out), omega (arith, all, ps), refl, refl)
  placed false false false None (Some x) rs ps cs bound out = (
    refl,
    omega (arith, out),
    omega (arith, all, ps),
    refl,
    refl,
  )
  placed false false false (Some l) (Some x) rs ps cs bound out = (
    refl,
    omega (arith, out),
    omega (arith, all, ps),
    refl,
    refl,
  )

-- ---- the requests that wait

one_request : (m : Message) (id : Id) → request_of m id ≡ occurs id (ids_in m)
one_request (request key method params) id = omega arith
one_request (notification method params) id = refl
one_request (response key answer) id = refl

requests_are : (fs : List SentFrame) (id : Id) → requests fs id ≡ occurs id (request_ids fs)
requests_are [] id = refl
requests_are (f ∷ fs) id = omega (
  arith,
  one_request f.message id,
  requests_are fs id,
  occurs-append id (ids_in f.message) (request_ids fs),
)

push_one : (xs : List ℕ) (id : Id) → one_some (item_at (xs ++ 0 ∷ []) id) ≡ (if same_id (nth_id (length xs)) id then 1
    else 0) + one_some (item_at xs id)
push_one xs id =
    let key : Id = nth_id (length xs) in
    ap (λ (o : Option ℕ). one_some o) (item-push xs 0 id) ∙ at (same_id key id) (λ is. ap (λ (k : Id). one_some
    (item_at xs k)) (sym (same_is key id is)) ∙ ap (λ (o : Option ℕ). one_some o) (get-end xs))
  where
    at : (b : Bool) → (b ≡ true → one_some (item_at xs id) ≡ 0) → one_some (if b then Some 0 else item_at xs id)
        ≡ (if b then 1 else 0) + one_some (item_at xs id)
    at true none = omega (arith, none refl)
    at false none = omega arith

counted : (xs ys : List ℕ) (ids : List Id) (id : Id) → Ascends (length xs) ids (length ys) → occurs id ids + one_some
    (item_at xs id) ≡ one_some (item_at ys id)
counted xs ys [] id up = omega (
  arith,
  item_shorter xs ys id (omega (arith, up)),
  item_shorter ys xs id (omega (arith, up)),
)
counted xs ys (i ∷ ids) id up = omega (
  arith,
  counted (xs ++ 0 ∷ []) ys ids id (ascends_at (suc (length xs)) (length (xs ++ 0 ∷ [])) ids ids (length ys)
      (length ys) (omega (arith, length-push xs 0)) refl refl up.1),
  push_one xs id,
  ap {B = ℕ} (λ (k : Id). if same_id k id then 1 else 0) up.0,
)

pub in_one_place : (own others : List Entry) → Orderly own others → InOnePlace own others
in_one_place own others mine = record {
  known = λ id. (at id).0;
  out = λ id. (at id).1;
  back = λ id. (at id).2;
  there = λ id. (at id).3;
  asked = λ id. (at id).4;
}
  where
    at : (id : Id) → Placed (has id (returned own)) (has id (replied others)) (has id (closed others))
        (item_at (labels others) id) (item_at (payloads own) id) (requests (frames_left others own) id)
        (replies (frames_left own others) id)
    at id = placed _ _ _ (requests (frames_left others own) id) _ (mine.once id) (mine.less id) _ _ _ _ _ (counts id
        (returned own)) (counts id (replied others)) (counts id (closed others)) (mine.bound id) (omega (
          arith,
          requests_are (frames_left others own) id,
          counted (labels others) (payloads own) (request_ids (frames_left others own)) id mine.order,
        ))

pub one_place : (history : List Entry) → IsHistory history → (side : Side) → InOnePlace (entries_of side history)
    (entries_of (other side) history)
one_place history lawful side = in_one_place _ _ (orderly_of history lawful side)

-- ---- an entry moves one request at most

-- the same place, but for the id of the request that moves
moved : (b : Bool) (old to : Option Place) (new : Bool → Option Place) → (b ≡ true → new true ≡ to) → new false ≡ old
    → new b ≡ (if b then to else old)
moved true old to new here apart = here refl
moved false old to new here apart = apart

none_some : (o : Option ℕ) → one_some o ≡ 0 → o ≡ None
none_some None is = refl
none_some (Some x) is = absurd (omega (arith, is))

-- a request that was found is not closed
found_open : (b : Bool) (o : Option ℕ) (outcome : ℕ → Outcome) (came : Outcome) → came ≡ where_held
    (if b then None else o) outcome → (came ≡ Absent → ⊥) → b ≡ false
found_open true o outcome came is found = absurd (found is)
found_open false o outcome came is found = refl

-- nothing is known of a request that has not arrived
module _ (own others : List Entry) (mine : Orderly own others) (key : Id) (none : one_some (item_at (labels others) key)
    ≡ 0) where
  unclosed : has key (closed others) ≡ false
  unclosed = absent key (closed others) (omega (arith, none, mine.bound key))

  unreplied : has key (replied others) ≡ false
  unreplied = absent key (replied others) (omega (arith, none, mine.bound key, mine.less key))

  unreturned : has key (returned own) ≡ false
  unreturned = absent key (returned own) (omega (arith, none, mine.bound key, mine.less key, mine.once key))

module _ (own others : List Entry) (mine : Orderly own others) (theirs : Orderly others own) (wrote : List SentFrame)
    (id : Id) where
  -- the id of the next request is not known
  ended : (xs : List ℕ) → same_id (nth_id (length xs)) id ≡ true → one_some (item_at xs id) ≡ 0
  ended xs is = ap (λ (k : Id). one_some (item_at xs k)) (sym (same_is (nth_id (length xs)) id is))
      ∙ ap (λ (o : Option ℕ). one_some o) (get-end xs)

  -- ---- the requests of the side that takes the step

  pub owner_moves : (step : Step) (outcome : Outcome) → IsFact own others step outcome
      → place_of (own ++ entry step outcome wrote ∷ []) others id ≡ moved_by_owner step outcome id (place_of own others
      id)
  owner_moves (Register side method params payload) (Registered key) fact =
      let e : Entry = entry (Register side method params payload) (Registered key) wrote in
      let new : Id = nth_id (length (payloads own)) in
      let r = flat_push_none returned_id own e refl in
      let p : item_at (payloads (own ++ e ∷ [])) id ≡ (if same_id new id then Some payload else item_at (payloads own)
      id) = ap (λ (l : List ℕ). item_at l id) (flat_push payload_of own e) ∙ item-push (payloads own) payload id in
      (λ i. place (has id (r i)) (has id (replied others)) (has id (closed others)) (item_at (labels others) id) (p i))
      ∙ moved (same_id new id) (place_of own others id) (Some OnTheWay) (λ b. place (has id (returned own)) (has id
      (replied others)) (has id (closed others)) (item_at (labels others) id) (if b then Some payload else item_at
      (payloads own) id)) (λ is.
      let none : one_some (item_at (labels others) id) ≡ 0 = omega (
        arith,
        ended (payloads own) is,
        item_shorter (labels others) (payloads own) id (ascends_within _ _ _ mine.order),
      ) in
      λ i. place (unreturned own others mine id none i) (unreplied own others mine id none i) (unclosed own others mine
      id none i) (none_some (item_at (labels others) id) none i) (Some payload)) refl
      ∙ ap (λ (k : Id). if same_id k id then Some OnTheWay else place_of own others id) (sym fact)
  owner_moves (Take side label) (Returned key payload) fact =
      let e : Entry = entry (Take side label) (Returned key payload) wrote in
      let p = flat_push_none payload_of own e refl in
      let r : has id (returned (own ++ e ∷ [])) ≡ (if same_id key id then true else has id (returned own)) = ap
      (has id) (flat_push returned_id own e) ∙ has-push key id (returned own) in
      (λ i. place (r i) (has id (replied others)) (has id (closed others)) (item_at (labels others) id) (item_at (p i)
      id))
      ∙ moved (same_id key id) (place_of own others id) (Some Done) (λ b. place (if b then true else has id
      (returned own)) (has id (replied others)) (has id (closed others)) (item_at (labels others) id) (item_at
      (payloads own) id)) (λ is. refl) refl
  owner_moves step outcome fact =
      let e : Entry = entry step outcome wrote in
      let p = flat_push_none payload_of own e refl in
      let r = flat_push_none returned_id own e refl in
      λ i. place (has id (r i)) (has id (replied others)) (has id (closed others)) (item_at (labels others) id) (item_at
      (p i) id)

  -- ---- the requests of the other side

  -- where its request is after an entry that closes a request, and says so or not
  closing : (e : Entry) (key : Id) → label_of_arrival e ≡ [] → closed_id e ≡ key ∷ [] → has key (closed own) ≡ false
      → (replied_id e ≡ key ∷ [] → place_of others (own ++ e ∷ []) id ≡ (if same_id key id then Some ComingBack
      else place_of others own id)) × (replied_id e ≡ [] → place_of others (own ++ e ∷ []) id ≡ (if same_id key id
      then Some GivenUp else place_of others own id))
  closing e key unarrived closes unshut =
      let l = flat_push_none label_of_arrival own e unarrived in
      let c : has id (closed (own ++ e ∷ [])) ≡ (if same_id key id then true else has id (closed own)) = ap (has id)
      (flat_push closed_id own e ∙ ap (λ (x : List Id). closed own ++ x) closes) ∙ has-push key id (closed own) in
      let back : same_id key id ≡ true → has id (returned others) ≡ false = λ is. subst (λ (k : Id). has k
      (returned others) ≡ false) (same_is key id is) (absent key (returned others) (omega (
        arith,
        never key (closed own) unshut,
        theirs.less key,
        theirs.once key,
      ))) in
      let unsaid : same_id key id ≡ true → has id (replied own) ≡ false = λ is. subst (λ (k : Id). has k (replied own)
      ≡ false) (same_is key id is) (absent key (replied own) (omega (
        arith,
        never key (closed own) unshut,
        theirs.less key,
      ))) in (
        λ says.
            let p : has id (replied (own ++ e ∷ [])) ≡ (if same_id key id then true else has id (replied own)) =
            ap (has id) (flat_push replied_id own e ∙ ap (λ (x : List Id). replied own ++ x) says)
            ∙ has-push key id (replied own) in
            (λ i. place (has id (returned others)) (p i) (c i) (item_at (l i) id) (item_at (payloads others) id))
            ∙ moved (same_id key id) (place_of others own id) (Some ComingBack) (λ b. place (has id (returned others))
            (if b then true else has id (replied own)) (if b then true else has id (closed own)) (item_at (labels own)
            id) (item_at (payloads others) id)) (λ is i. place (back is i) true true (item_at (labels own) id) (item_at
            (payloads others) id)) refl,
        λ silent.
            let p = flat_push_none replied_id own e silent in
            (λ i. place (has id (returned others)) (has id (p i)) (c i) (item_at (l i) id) (item_at (payloads others)
            id))
            ∙ moved (same_id key id) (place_of others own id) (Some GivenUp) (λ b. place (has id (returned others))
            (has id (replied own)) (if b then true else has id (closed own)) (item_at (labels own) id) (item_at
            (payloads others) id)) (λ is i. place (back is i) (unsaid is i) true (item_at (labels own) id) (item_at
            (payloads others) id)) refl,
      )

  pub other_moves : (step : Step) (outcome : Outcome) → IsFact own others step outcome
      → place_of others (own ++ entry step outcome wrote ∷ []) id ≡ moved_by_other step outcome id (place_of others own
      id)
  other_moves (Take side label) (Arrived key) fact =
      let e : Entry = entry (Take side label) (Arrived key) wrote in
      let new : Id = nth_id (length (labels own)) in
      let c = flat_push_none closed_id own e refl in
      let p = flat_push_none replied_id own e refl in
      let l : item_at (labels (own ++ e ∷ [])) id ≡ (if same_id new id then Some label else item_at (labels own) id) =
      ap (λ (x : List ℕ). item_at x id) (flat_push label_of_arrival own e) ∙ item-push (labels own) label id in
      (λ i. place (has id (returned others)) (has id (p i)) (has id (c i)) (l i) (item_at (payloads others) id))
      ∙ moved (same_id new id) (place_of others own id) (Some (AtOther label)) (λ b. place (has id (returned others))
      (has id (replied own)) (has id (closed own)) (if b then Some label else item_at (labels own) id) (item_at
      (payloads others) id)) (λ is.
      let none = ended (labels own) is in
      λ i. place (unreturned others own theirs id none i) (unreplied others own theirs id none i) (unclosed others own
      theirs id none i) (Some label) (item_at (payloads others) id)) refl
      ∙ ap (λ (k : Id). if same_id k id then Some (AtOther label) else place_of others own id) (sym fact.0)
  other_moves (Answer side key value) (Answered label) fact = (closing (entry (Answer side key value) (Answered label)
      wrote) key refl refl (found_open _ _ _ _ fact (λ e. cc))).0 refl
  other_moves (Refuse side key code text) (Answered label) fact = (closing (entry (Refuse side key code text)
      (Answered label) wrote) key refl refl (found_open _ _ _ _ fact (λ e. cc))).0 refl
  other_moves (Cancel side key) Cancelled fact = (closing (entry (Cancel side key) Cancelled wrote) key refl refl
      (found_open _ _ _ _ fact (λ e. cc))).0 refl
  other_moves (GiveUp side key) (GaveUp label) fact = (closing (entry (GiveUp side key) (GaveUp label) wrote) key refl
      refl (found_open _ _ _ _ fact (λ e. cc))).1 refl
  other_moves step outcome fact =
      let e : Entry = entry step outcome wrote in
      let l = flat_push_none label_of_arrival own e refl in
      let c = flat_push_none closed_id own e refl in
      let p = flat_push_none replied_id own e refl in
      λ i. place (has id (returned others)) (has id (p i)) (has id (c i)) (item_at (l i) id) (item_at (payloads others)
      id)

pub moves : (before : List Entry) (e : Entry) → IsHistory (before ++ e ∷ []) → (side : Side) → side_of e.step ≡ side
    → (id : Id) → (place_of (entries_of side (before ++ e ∷ [])) (entries_of (other side) (before ++ e ∷ [])) id
    ≡ moved_by_owner e.step e.outcome id (place_of (entries_of side before) (entries_of (other side) before) id))
    × (place_of (entries_of (other side) (before ++ e ∷ [])) (entries_of side (before ++ e ∷ [])) id
    ≡ moved_by_other e.step e.outcome id (place_of (entries_of (other side) before) (entries_of side before) id))
moves before e history side by id =
    let lawful = beginning_of before (e ∷ []) history in
    let mine = orderly_of before lawful side in
    let theirs = orderly_other before lawful side in
    let fact : IsFact (entries_of side before) (entries_of (other side) before) e.step e.outcome =
    subst (λ (s : Side). IsFact (entries_of s before) (entries_of (other s) before) e.step e.outcome) by (fact_of before
    e e.step e.outcome history refl refl) in
    let a = of_own side before e by in
    let b = of_other side before e by in (
      (λ i. place_of (a i) (b i) id) ∙ owner_moves _ _ mine theirs e.wrote id e.step e.outcome fact,
      (λ i. place_of (b i) (a i) id) ∙ other_moves _ _ mine theirs e.wrote id e.step e.outcome fact,
    )
