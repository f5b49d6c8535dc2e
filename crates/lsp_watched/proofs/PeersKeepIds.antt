-- The messages of two peers keep the rules of ids.
use Rattle.std.proofs.Common.{◌≡◌, ◌≢◌, Bool, true, false, cond, ◌||◌, List, [], ◌∷◌, ◌++◌, Option, Some, None}
use Rattle.std.proofs.Common.{is_some, ℕ, length, refl, sym, ap, ◌∙◌, subst, append-nil, append_assoc, ⊎_elim}
use Rattle.std.proofs.Common.{option_map, zero, suc, pos, negsuc}
use Rattle.std.proofs.lemmas.Grind.{flat_map-append}
use Rattle.std.specs.List.{flat_map}
use Rattle.std.specs.Option.{option_map_or}
use Rattle.std.specs.Prelude.{◌==◌, ◌&&◌, if◌then◌else◌, slice_get, string_bytes}
use Rattle.serde_json.specs.View.{view}
use Rattle.lsp_message.specs.Id.{Id, number, text, same_id}
use Rattle.lsp_message.specs.Message.{Message, response}
use Rattle.lsp_message.proofs.Ids.{cases_id, same_own, same_other}
use Rattle.lsp_queue.specs.Queue.{all_ids}
use Rattle.lsp_peers.specs.History.{Entry, written_in, payload_in, replied_in, payloads, replied, returned, closed}
use Rattle.lsp_peers.specs.History.{labels, only_of, held, where_held, outcome_of, Follows, entries_of, AllFollow}
use Rattle.lsp_peers.specs.History.{IsHistory}
use Rattle.lsp_peers.specs.Ids.{nth_id, item_at, has}
use Rattle.lsp_peers.specs.InOnePlace.{Place, OnTheWay, AtOther, ComingBack, Done, GivenUp, label_in, InOnePlace}
use Rattle.lsp_peers.specs.Sides.{side_of, other}
use Rattle.lsp_peers.specs.declared.step.Outcome.{Outcome}
use Rattle.lsp_peers.specs.declared.step.Outcome.TheVariants.{Registered, Spent, Told, Answered, Cancelled}
use Rattle.lsp_peers.specs.declared.step.Side.{Side}
use Rattle.lsp_peers.specs.declared.step.Side.TheVariants.{A, B}
use Rattle.lsp_peers.specs.declared.step.Step.{Step}
use Rattle.lsp_peers.specs.declared.step.Step.TheVariants.{Register, Tell, Answer, Refuse, Cancel}
use Rattle.lsp_watch.specs.Log.{Log, passed, same_direction, other as back}
use Rattle.lsp_watch.specs.Rules.{id_finding}
use Rattle.lsp_watch.specs.declared.direction.Direction.{Direction}
use Rattle.lsp_watched.specs.Passing.{Pass}
use Rattle.lsp_watched.specs.Peers.{PassAll, direction_from, IsLogOf, KeepsIds}
use Rattle.lsp_watched.proofs.Waits.{at_each_none, at_each_more, waits, after_request, after_notification}
use Rattle.lsp_watched.proofs.Waits.{after_reply, none_waits, request_fits, reply_fits}

-- ---- one more entry of a list

flat_push : {X Y : Type 0} (f : X → List Y) (xs : List X) (x : X) → flat_map f (xs ++ x ∷ []) ≡ flat_map f xs ++ f x
flat_push f xs x = flat_map-append f xs (x ∷ []) ∙ ap (λ l. flat_map f xs ++ l) (append-nil (f x))

of_own : (side : Side) (history : List Entry) (e : Entry) → side_of e.step ≡ side → entries_of side (history ++ e ∷ [])
    ≡ entries_of side history ++ e ∷ []
of_own side history e is = flat_push (λ (x : Entry). only_of side (side_of x.step) x) history e
    ∙ ap (λ (l : List Entry). entries_of side history ++ l) (ap (λ (s : Side). only_of side s e) is ∙ at side)
  where
    at : (s : Side) → only_of s s e ≡ e ∷ []
    at A = refl
    at B = refl

of_other : (side : Side) (history : List Entry) (e : Entry) → side_of e.step ≡ side
    → entries_of (other side) (history ++ e ∷ []) ≡ entries_of (other side) history
of_other side history e is = flat_push (λ (x : Entry). only_of (other side) (side_of x.step) x) history e
    ∙ ap (λ (l : List Entry). entries_of (other side) history ++ l)
    (ap (λ (s : Side). only_of (other side) s e) is ∙ at side) ∙ append-nil (entries_of (other side) history)
  where
    at : (s : Side) → only_of (other s) s e ≡ []
    at A = refl
    at B = refl

-- ---- one more id, and one more item

has-push : (key id : Id) (xs : List Id) → has id (xs ++ key ∷ []) ≡ (if same_id key id then true else has id xs)
has-push key id [] = refl
has-push key id (x ∷ xs) = ap (λ b. if same_id x id then true else b) (has-push key id xs)
    ∙ swapped (same_id x id) (same_id key id) (has id xs)
  where
    swapped : (a b c : Bool) → ◌≡◌ {A = Bool} (if a then true else if b then true else c)
        (if b then true else if a then true else
        c)
    swapped true true c = refl
    swapped true false c = refl
    swapped false b c = refl

module _ {X : Type 0} where
  end_at : (xs : List X) → slice_get xs (length xs) ≡ None
  end_at [] = refl
  end_at (x ∷ xs) = end_at xs

  push_at : (xs : List X) (x : X) → slice_get (xs ++ x ∷ []) (length xs) ≡ Some x
  push_at [] x = refl
  push_at (y ∷ xs) x = push_at xs x

  push_other : (xs : List X) (x : X) (i : ℕ) → i ≢ length xs → slice_get (xs ++ x ∷ []) i ≡ slice_get xs i
  push_other [] x zero apart = absurd (apart refl)
  push_other [] x (suc i) apart = refl
  push_other (y ∷ xs) x zero apart = refl
  push_other (y ∷ xs) x (suc i) apart = push_other xs x i (λ e. apart (ap suc e))

  item_other : (xs : List X) (x : X) (id : Id) → id ≢ nth_id (length xs) → item_at (xs ++ x ∷ []) id ≡ item_at xs id
  item_other xs x (number (pos n)) apart = push_other xs x n (λ e. apart (ap (λ (k : ℕ). nth_id k) e))
  item_other xs x (number (negsuc n)) apart = refl
  item_other xs x (text s) apart = refl

none_at : (id : Id) → item_at {X = ℕ} [] id ≡ None
none_at (number (pos n)) = refl
none_at (number (negsuc n)) = refl
none_at (text s) = refl

-- ---- where a request is, and whether it waits

-- where it is, by whether its reply was taken, written, and it was closed, and by its label and its payload
abbrev place : Bool → Bool → Bool → Option ℕ → Option ℕ → Option Place
place returned replied closed label payload =
    if returned then Some Done else if replied then Some ComingBack else if closed then Some GivenUp
    else option_map_or (λ l. Some (AtOther l)) label (option_map (λ p. OnTheWay) payload)

-- a side registered the request, and the other one wrote no reply to it
abbrev open_at : List Entry → List Entry → Id → Bool
open_at own others id = cond (has id (replied others)) false (is_some (item_at (payloads own) id))

-- a request that is held has no reply yet
held_open : (r p c : Bool) (l x : Option ℕ) → is_some (place r p c l x) ≡ is_some x
    → is_some (label_in (place r p c l x)) ≡ true → cond p false (is_some x) ≡ true
held_open true p c l x known here = cc
held_open false true c l x known here = cc
held_open false false true l x known here = cc
held_open false false false None None known here = cc
held_open false false false None (Some n) known here = cc
held_open false false false (Some m) x known here = sym known

-- one that is not registered has none
none_replied : (r p c : Bool) (l x : Option ℕ) → is_some (place r p c l x) ≡ is_some x → is_some x ≡ false → p ≡ false
none_replied r false c l x known none = refl
none_replied true true c l x known none = let bad : true ≡ false = known ∙ none in cc
none_replied false true c l x known none = let bad : true ≡ false = known ∙ none in cc

-- ---- the two directions

same_own_direction : (client side : Side) → same_direction (direction_from client side) (direction_from client side)
    ≡ true
same_own_direction A A = refl
same_own_direction A B = refl
same_own_direction B A = refl
same_own_direction B B = refl

not_other_direction : (client side : Side)
    → same_direction (direction_from client (other side)) (direction_from client side) ≡ false
not_other_direction A A = refl
not_other_direction A B = refl
not_other_direction B A = refl
not_other_direction B B = refl

direction_back : (client side : Side) → back (direction_from client side) ≡ direction_from client (other side)
direction_back A A = refl
direction_back A B = refl
direction_back B A = refl
direction_back B B = refl

not_own_back : (client side : Side) → same_direction (back (direction_from client side)) (direction_from client side)
    ≡ false
not_own_back A A = refl
not_own_back A B = refl
not_own_back B A = refl
not_own_back B B = refl

other_back : (client side : Side)
    → same_direction (back (direction_from client (other side))) (direction_from client side) ≡ true
other_back A A = refl
other_back A B = refl
other_back B A = refl
other_back B B = refl

other_twice : (side : Side) → other (other side) ≡ side
other_twice A = refl
other_twice B = refl

on_both : (P : Side → Type 0) (side : Side) → P side → P (other side) → (s : Side) → P s
on_both P A mine theirs A = mine
on_both P A mine theirs B = theirs
on_both P B mine theirs A = theirs
on_both P B mine theirs B = mine

-- ---- one more entry

same_swapped : (a b : Id) → same_id a b ≡ same_id b a
same_swapped a b = ⊎_elim (λ same. subst (λ x. same_id a x ≡ same_id x a) same refl)
    (λ apart. same_other a b apart ∙ sym (same_other b a (λ e. apart (sym e)))) (cases_id a b)

-- what is open after a request under a new id
asked : (own : List ℕ) (ids : List Id) (key id : Id) (payload : ℕ) → key ≡ nth_id (length own) → has key ids ≡ false
    → (same_id id key || cond (has id ids) false (is_some (item_at own id)))
    ≡ cond (has id ids) false (is_some (item_at (own ++ payload ∷ []) id))
asked own ids key id payload next none = ⊎_elim
    (λ same. ap (λ b. b || cond (has id ids) false (is_some (item_at own id))) (ap (λ i. same_id i key) same
    ∙ same_own key)
    ∙ sym ((λ i. cond (has (same i) ids) false (is_some (item_at (own ++ payload ∷ []) ((same ∙ next) i))))
    ∙ (λ i. cond (none i) false (is_some (push_at own payload i)))))
    (λ apart. ap (λ b. b || cond (has id ids) false (is_some (item_at own id))) (same_other id key apart)
    ∙ sym (ap (λ o. cond (has id ids) false (is_some o)) (item_other own payload id (λ e. apart (e ∙ sym next)))))
    (cases_id id key)

-- and after a reply
replied_to : (b h x : Bool) → cond b false (cond h false x) ≡ cond (if b then true else h) false x
replied_to true h x = refl
replied_to false h x = refl

module _ (client t : Side) (own others : List Entry) (before : Log)
    (mine : (id : Id) → waits (direction_from client t) id before ≡ open_at own others id)
    (theirs : (id : Id) → waits (direction_from client (other t)) id before ≡ open_at others own id) where
  abbrev direction : Direction
  direction = direction_from client t

  -- a registered request is new
  abbrev IsNew : Step → Outcome → Type 0
  IsNew (Register side method params payload) (Registered key) = (key ≡ nth_id (length (payloads own)))
      × (has key (replied others) ≡ false)
  IsNew step outcome = Unit {0}

  own_same : (id : Id) → waits direction id before ≡ cond (has id (replied others)) false (is_some (item_at
      (payloads own ++ []) id))
  own_same id = mine id ∙ ap (λ l. cond (has id (replied others)) false (is_some (item_at l id))) (sym (append-nil
      (payloads
      own)))

  own_reply : (new : Log) (key : Id) (outcome : _) → Pass direction (response key outcome ∷ []) before new → (id : Id)
      → waits direction id new ≡ cond (has id (replied others)) false (is_some (item_at (payloads own ++ []) id))
  own_reply new key outcome passes id = ap (waits direction id) passes.1
      ∙ after_reply direction direction id passes.0 before key outcome
      ∙ ap (λ b. cond (b && same_id id key) false (waits direction id before)) (not_own_back client t) ∙ own_same id

  own_after : (new : Log) (step : Step) (outcome : Outcome) → IsNew step outcome
      → Pass direction (written_in step outcome) before new
      → (id : Id) → waits direction id new
      ≡ cond (has id (replied others)) false (is_some (item_at (payloads own ++ payload_in step outcome) id))
  own_after new (Register side method params payload) (Registered key) is_new passes id = ap (waits direction id)
      passes.1
      ∙ after_request direction direction id passes.0 before key (string_bytes method) (view params)
      ∙ (λ i. (same_own_direction client t i && same_id id key) || mine id i)
      ∙ asked (payloads own) (replied others) key id payload is_new.0 is_new.1
  own_after new (Tell side method params) Told is_new passes id = ap (waits direction id) passes.1
      ∙ after_notification direction direction id passes.0 before (string_bytes method) (view params) ∙ own_same id
  own_after new (Answer side key value) (Answered label) is_new passes id = own_reply new key _ passes id
  own_after new (Refuse side key code why) (Answered label) is_new passes id = own_reply new key _ passes id
  own_after new (Cancel side key) Cancelled is_new passes id = own_reply new key _ passes id
  own_after new step outcome is_new passes id = ap (waits direction id) passes ∙ own_same id

  abbrev far : Direction
  far = direction_from client (other t)

  far_same : (id : Id) → waits far id before ≡ cond (has id (replied own ++ [])) false (is_some (item_at
      (payloads others) id))
  far_same id = theirs id ∙ ap (λ l. cond (has id l) false (is_some (item_at (payloads others) id))) (sym
      (append-nil (replied
      own)))

  far_reply : (new : Log) (key : Id) (outcome : _) → Pass direction (response key outcome ∷ []) before new → (id : Id)
      → waits far id new ≡ cond (has id (replied own ++ key ∷ [])) false (is_some (item_at (payloads others) id))
  far_reply new key outcome passes id = ap (waits far id) passes.1
      ∙ after_reply far direction id passes.0 before key outcome
      ∙ (λ i. cond (other_back client t i && same_swapped id key i) false (theirs id i))
      ∙ replied_to (same_id key id) (has id (replied own)) (is_some (item_at (payloads others) id))
      ∙ ap (λ b. cond b false (is_some (item_at (payloads others) id))) (sym (has-push key id (replied own)))

  far_after : (new : Log) (step : Step) (outcome : Outcome) → Pass direction (written_in step outcome) before new
      → (id : Id)
      → waits far id new ≡ cond (has id (replied own ++ replied_in step outcome)) false (is_some (item_at
      (payloads others) id))
  far_after new (Register side method params payload) (Registered key) passes id = ap (waits far id) passes.1
      ∙ after_request far direction id passes.0 before key (string_bytes method) (view params)
      ∙ ap (λ b. (b && same_id id key) || waits far id before) (not_other_direction client t) ∙ far_same id
  far_after new (Tell side method params) Told passes id = ap (waits far id) passes.1
      ∙ after_notification far direction id passes.0 before (string_bytes method) (view params) ∙ far_same id
  far_after new (Answer side key value) (Answered label) passes id = far_reply new key _ passes id
  far_after new (Refuse side key code why) (Answered label) passes id = far_reply new key _ passes id
  far_after new (Cancel side key) Cancelled passes id = far_reply new key _ passes id
  far_after new step outcome passes id = ap (waits far id) passes ∙ far_same id

  -- ---- what it writes fits

  one_kept : (m : Message) (new : Log) → Pass direction (m ∷ []) before new → id_finding before direction m ≡ None
      → KeepsIds before
      → KeepsIds new
  one_kept m new passes fits kept = subst KeepsIds (sym passes.1)
      (at_each_more (λ before p. id_finding before p.direction p.message ≡ None) (passed direction passes.0 m) before
      fits kept)

  module _ (at_own : InOnePlace own others) (at_others : InOnePlace others own) where
    pub new_of : (step : Step) (outcome : Outcome) → outcome ≡ outcome_of own others step → IsNew step outcome
    new_of (Register side method params payload) (Registered key) came = by (length (payloads own) == all_ids) came
      where
        new : key ≡ nth_id (length (payloads own)) → has key (replied others) ≡ false
        new next = none_replied (has key (returned own)) (has key (replied others)) (has key (closed others))
            (item_at (labels others) key) (item_at (payloads own) key) (at_own.known key)
            (ap (λ i. is_some (item_at (payloads own) i)) next ∙ ap (λ o. is_some o) (end_at (payloads own)))

        by : (b : Bool) → Registered key ≡ (if b then Spent else Registered (nth_id (length (payloads own))))
            → (key ≡ nth_id (length (payloads own))) × (has key (replied others) ≡ false)
        by true e = cc
        by false e = let next : key ≡ nth_id (length (payloads own)) = cc in (next, new next)
    new_of step outcome came = tt

    asks_anew : (key : Id) → key ≡ nth_id (length (payloads own)) → waits direction key before ≡ false
    asks_anew key next = mine key
        ∙ ap (λ o. cond (has key (replied others)) false (is_some o)) (ap (item_at (payloads own)) next
        ∙ end_at (payloads own))
        ∙ neither (has key (replied others))
      where
        neither : (b : Bool) → cond b false false ≡ false
        neither true = refl
        neither false = refl

    waits_for : (key : Id) → is_some (held own key) ≡ true → waits (back direction) key before ≡ true
    waits_for key holds = ap (λ w. waits w key before) (direction_back client t) ∙ theirs key
        ∙ held_open (has key (returned others)) (has key (replied own)) (has key (closed own))
        (item_at (labels own) key) (item_at (payloads others) key) (at_others.known key)
        (ap (λ o. is_some o) (sym (at_others.there key)) ∙ holds)

    answered : (o : Option ℕ) (label : ℕ) → Answered label ≡ where_held o (λ l. Answered l) → is_some o ≡ true
    answered None label e = cc
    answered (Some l) label e = refl

    was_cancelled : (o : Option ℕ) → Cancelled ≡ where_held o (λ l. Cancelled) → is_some o ≡ true
    was_cancelled None e = cc
    was_cancelled (Some l) e = refl

    reply_kept : (new : Log) (key : Id) (outcome : _) → is_some (held own key) ≡ true
        → Pass direction (response key outcome ∷ []) before
        new → KeepsIds before → KeepsIds new
    reply_kept new key outcome holds passes kept = one_kept (response key outcome) new passes
        (reply_fits before direction key outcome (waits_for key holds)) kept

    pub kept_after : (new : Log) (step : Step) (outcome : Outcome) → outcome ≡ outcome_of own others step
        → Pass direction (written_in step outcome) before new → KeepsIds before → KeepsIds new
    kept_after new (Register side method params payload) (Registered key) came passes kept = one_kept _ new passes
        (request_fits before direction key (string_bytes method) (view params)
        (none_waits direction key before kept (asks_anew key
        (new_of (Register side method params payload) (Registered key)
        came).0))) kept
    kept_after new (Tell side method params) Told came passes kept = one_kept _ new passes refl kept
    kept_after new (Answer side key value) (Answered label) came passes kept = reply_kept new key _
        (answered _ label came)
        passes kept
    kept_after new (Refuse side key code why) (Answered label) came passes kept = reply_kept new key _
        (answered _ label came) passes kept
    kept_after new (Cancel side key) Cancelled came passes kept = reply_kept new key _
        (was_cancelled _ came) passes kept
    kept_after new step outcome came passes kept = subst KeepsIds (sym passes) kept

-- ---- all entries

abbrev Begins : Type 0
Begins = (before after : List Entry) → IsHistory (before ++ after) → IsHistory before

abbrev InPlaces : Type 0
InPlaces = (history : List Entry) → IsHistory history → (side : Side)
    → InOnePlace (entries_of side history) (entries_of (other side) history)

abbrev OpenAfter : Side → List Entry → Log → Type 0
OpenAfter client history log = (side : Side) (id : Id) → waits (direction_from client side) id log
    ≡ open_at (entries_of side history) (entries_of (other side) history) id

module _ (places : InPlaces) (client : Side) (history : List Entry) (e : Entry) (before new : Log)
    (past : IsHistory history)
    (follows : Follows (entries_of (side_of e.step) history) (entries_of (other (side_of e.step)) history) e)
    (passes : Pass (direction_from client (side_of e.step)) (written_in e.step e.outcome) before new)
    (opens : OpenAfter client history before) where
  abbrev t : Side
  t = side_of e.step

  abbrev own : List Entry
  own = entries_of t history

  abbrev others : List Entry
  others = entries_of (other t) history

  theirs : (id : Id) → waits (direction_from client (other t)) id before ≡ open_at others own id
  theirs id = opens (other t) id ∙ ap (λ s. open_at others (entries_of s history) id) (other_twice t)

  at_own : InOnePlace own others
  at_own = places history past t

  at_others : InOnePlace others own
  at_others = subst (λ s. InOnePlace others (entries_of s history)) (other_twice t) (places history past (other t))

  entry_kept : KeepsIds before → KeepsIds new
  entry_kept = kept_after client t own others before (opens t) theirs at_own at_others new e.step e.outcome
      follows.outcome_is passes

  near : (id : Id) → waits (direction_from client t) id new
      ≡ open_at (entries_of t (history ++ e ∷ [])) (entries_of (other t) (history ++ e ∷ [])) id
  near id = own_after client t own others before (opens t) theirs new e.step e.outcome
      (new_of client t own others before
      (opens t) theirs at_own at_others e.step e.outcome follows.outcome_is) passes id
      ∙ sym ((λ i. open_at (of_own t history e refl i) (of_other t history e refl i) id)
      ∙ ap (λ l. cond (has id (replied others)) false (is_some (item_at l id))) (flat_push (λ
      (x : Entry). payload_in x.step x.outcome) own e))

  far_side : (id : Id) → waits (direction_from client (other t)) id new
      ≡ open_at (entries_of (other t) (history ++ e ∷ [])) (entries_of (other (other t)) (history ++ e ∷ [])) id
  far_side id = far_after client t own others before (opens t) theirs new e.step e.outcome passes id
      ∙ sym (ap (λ s. open_at (entries_of (other t) (history ++ e ∷ [])) (entries_of s (history ++ e ∷ [])) id)
      (other_twice t) ∙ (λ i. open_at (of_other t history e refl i) (of_own t history e refl i) id)
      ∙ ap (λ l. cond (has id l) false (is_some (item_at (payloads others) id))) (flat_push (λ
      (x : Entry). replied_in x.step x.outcome) own e))

  open_after : OpenAfter client (history ++ e ∷ []) new
  open_after = on_both (λ s. (id : Id) → waits (direction_from client s) id new
      ≡ open_at (entries_of s (history ++ e ∷ [])) (entries_of (other s) (history ++ e ∷ [])) id) t near far_side

all_kept : Begins → InPlaces → (client : Side) (history entries : List Entry) (before new : Log)
    → IsHistory (history ++ entries) → AllFollow history entries → PassAll client entries before new
    → OpenAfter client history before → KeepsIds before
    → KeepsIds new
all_kept begins places client history [] before new lawful all passes opens kept = subst KeepsIds (sym passes) kept
all_kept begins places client history (e ∷ entries) before new lawful all passes opens kept =
    let whole : IsHistory ((history ++ e ∷ []) ++ entries) = subst IsHistory (sym (append_assoc history
    (e ∷ []) entries))
    lawful in
    let past = begins history (e ∷ entries) lawful in
    all_kept begins places client (history ++ e ∷ []) entries passes.0 new whole all.1 passes.2
    (open_after places client history e before passes.0 past all.0 passes.1 opens)
    (entry_kept places client history e before passes.0 past all.0 passes.1 opens kept)

none_open : (client : Side) → OpenAfter client [] []
none_open client side id = sym (ap (λ o. is_some o) (none_at id))

pub peers_keep_ids : Begins → InPlaces → (client : Side) (history : List Entry) (log : Log) → IsHistory history
    → IsLogOf client history log
    → KeepsIds log
peers_keep_ids begins places client history log lawful passes = all_kept begins places client [] history [] log
    lawful lawful passes (none_open client)
    (at_each_none _)
