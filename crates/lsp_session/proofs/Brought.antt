-- What an inbox gave in a session over boxes: events that bring the messages and wakes of its exchanges, in order.
use Rattle.lsp_message.specs.Message.{Message}
use Rattle.lsp_session.proofs.Waiting.{FoldsTo-append, list_all-push}
use Rattle.lsp_session.specs.Boxes.{Receives, Takes, is_timeout}
use Rattle.lsp_session.specs.Event.{Event, message, timeout, closed, woken}
use Rattle.lsp_session.specs.Prompt.{event_of, WaitsIn, AwaitsEnd, Refuses, Meets, History, any_wait}
use Rattle.lsp_session.specs.Session.{SessionAnswer, Exchange, came_of, Stop, decided, no_more, timed_out, refused}
use Rattle.lsp_session.specs.Session.{exhausted, Phase, asked, broken, ended}
use Rattle.lsp_session.specs.SessionRun.{sends_nothing}
use Rattle.std.proofs.Common.{◌≡◌, refl, sym, ◌∙◌, ap, subst, inl, inr, ◌⊎◌, ◌≤◌, ◌-◌, ◌^◌, Bool, true, false, List}
use Rattle.std.proofs.Common.{[], ◌∷◌, ◌++◌, length, length-append, append_assoc, append-nil, arith, Option, Some, None}
use Rattle.std.proofs.lemmas.List.Elements.{filter_map-append}
use Rattle.std.proofs.lemmas.List.Folds.{list_all-append}
use Rattle.std.specs.List.{FoldsTo, list_all, filter_map}

-- what an event brings to a session: a message, or none if it is a wake
abbrev pub came_in : Event → Option (Option Message)
came_in (message m) = Some (Some m)
came_in woken = Some None
came_in event = None

-- more may come after the event
abbrev pub is_open : Event → Bool
is_open closed = false
is_open event = true

-- The events brought these messages and wakes, in order, and no other, and ended as these did. At a failed allocation
-- one more message or wake came. After 2^64 - 1 events or more a session may end as if no more came.
abbrev pub Brings : List Event → List (Option Message) → Stop → Type 0
Brings events came decided = (filter_map came_in events ≡ came) × (list_all is_open events ≡ true)
Brings events came no_more =
    (filter_map came_in events ≡ came)
    × (((earlier : List Event) × (events ≡ earlier ++ closed ∷ [])
    × (list_all is_open earlier ≡ true))
    ⊎ ((2 ^ 64 - 1 ≤ length events) × (list_all is_open events ≡ true)))
Brings events came timed_out =
    (filter_map came_in events ≡ came)
    × ((earlier : List Event) × (events ≡ earlier ++ timeout ∷ [])
    × (list_all is_open earlier ≡ true))
Brings events came (refused fault) = (filter_map came_in events ≡ came)
    × (list_all is_open events ≡ true)
Brings events came exhausted = (next : Option Message)
    × (filter_map came_in events ≡ came ++ next ∷ []) × (list_all is_open events ≡ true)

-- timeouts hold no message
no_messages : (passed : List Event) → list_all is_timeout passed ≡ true → filter_map came_in passed ≡ []
no_messages [] all = refl
no_messages (timeout ∷ events) all = no_messages events all
no_messages (event ∷ events) all = cc

-- timeouts end nothing
all_open : (passed : List Event) → list_all is_timeout passed ≡ true → list_all is_open passed ≡ true
all_open [] all = refl
all_open (timeout ∷ events) all = all_open events all
all_open (event ∷ events) all = cc

-- the event of an exchange brings its message, and ends nothing
came_one : (arrived : Option Message) → (filter_map came_in (event_of arrived ∷ []) ≡ arrived ∷ [])
    × (is_open (event_of arrived) ≡ true)
came_one None = (refl, refl)
came_one (Some m) = (refl, refl)

open_both : (xs ys : List Event) → list_all is_open xs ≡ true → list_all is_open ys ≡ true → list_all is_open (xs
    ++ ys) ≡ true
open_both xs ys first second = rw (list_all-append is_open xs ys, first, second) refl

module _ {I : Type 0} (receives : Receives I) where
  -- an event came, behind events that bring nothing
  record Arrived (old : I) (event : Event) (new : I) : Type 0 where
    passed : List Event
    nothing : filter_map came_in passed ≡ []
    still_open : list_all is_open passed ≡ true
    received : FoldsTo receives old (passed ++ event ∷ []) new

  arrived : (p : Phase) (event : Event) (old new : I) → WaitsIn receives any_wait p old event new
      → Arrived old event new
  arrived (asked i) event old new waits = record {
    passed = [];
    nothing = refl;
    still_open = refl;
    received = (new, waits, refl);
  }
  arrived (broken fault) event old new waits = absurd waits
  arrived (ended by) event old new waits = absurd waits
  arrived p event old new waits = record {
    passed = waits.0.passed;
    nothing = no_messages waits.0.passed waits.0.only_timeouts;
    still_open = all_open waits.0.passed waits.0.only_timeouts;
    received = waits.0.received;
  }

  none_taken : (ms : List Message) (old new : I) → FoldsTo (Takes sends_nothing) old ms new → new ≡ old
  none_taken [] old new run = sym run
  none_taken (m ∷ ms) old new run = none_taken ms run.0 new run.2 ∙ run.1

  none_refused : (lost : Option Message) (p : Phase) (old new : I) → Refuses receives any_wait sends_nothing lost p old
      new → new ≡ old
  none_refused None p old new refuses = refuses
  none_refused (Some m) (broken fault) old new refuses = refuses
  none_refused (Some m) p old new refuses = refuses.1

  -- what came at these exchanges
  record Met (old : I) (xs : List Exchange) (new : I) : Type 0 where
    events : List Event
    received : FoldsTo receives old events new
    came : filter_map came_in events ≡ came_of xs
    still_open : list_all is_open events ≡ true
    many : length xs ≤ length events

  met : (passes : Bool) (xs : List Exchange) (old new : Phase × I)
      → FoldsTo (Meets receives any_wait sends_nothing passes) old xs new → Met old.1 xs new.1
  met passes [] old new run = record {
    events = [];
    received = ap (λ (a : Phase × I). a.1) run;
    came = refl;
    still_open = refl;
    many = omega arith;
  }
  met passes (x ∷ xs) old new run =
      let rest = met passes xs run.0 new run.2 in
      let meets = run.1 in
      let first = arrived old.0 (event_of x.came) old.1 meets.met meets.waited in
      let same : run.0.1 ≡ meets.met = none_refused x.not_sent run.0.0 meets.mid run.0.1 meets.refuses ∙ none_taken
      x.sent meets.met meets.mid meets.taken in
      let events = first.passed ++ event_of x.came ∷ [] in
      let one = came_one x.came in
      record {
        events = events ++ rest.events;
        received = FoldsTo-append receives events rest.events old.1 run.0.1 new.1 (subst (λ (i : I). FoldsTo receives
            old.1 events i) (sym same) first.received) rest.received;
        came = rw (
          filter_map-append came_in events rest.events,
          filter_map-append came_in first.passed (event_of x.came ∷ []),
          first.nothing,
          one.0,
          rest.came,
        ) refl;
        still_open = open_both events rest.events (list_all-push is_open first.passed (event_of x.came) first.still_open
            one.1) rest.still_open;
        many = rw (length-append events rest.events, length-append first.passed (event_of x.came ∷ []))
            (omega (arith, rest.many));
      }

  -- all that an inbox gave in a session
  pub record Brought (old : I) (xs : List Exchange) (stop : Stop) (new : I) : Type 0 where
    pub events : List Event
    pub received : FoldsTo receives old events new
    pub brought : Brings events (came_of xs) stop

  pub brought_by : (p : Phase) (xs : List Exchange) (stop : Stop) (answer : SessionAnswer) (old new : I)
      → History receives any_wait sends_nothing p xs stop answer old new → Brought old xs stop new
  brought_by p xs stop answer old new h = at stop h.ends
    where
      m : Met old xs h.mid
      m = met h.passes_late xs (p, old) (h.reached, h.mid) h.turns

      -- one more event came
      last : (event : Event) (stop : Stop) → Arrived h.mid event new
          → ((earlier : List Event) → filter_map came_in earlier ≡ came_of xs → list_all is_open earlier ≡ true
          → Brings (earlier ++ event ∷ []) (came_of xs) stop) → Brought old xs stop new
      last event stop end brings =
          let earlier = m.events ++ end.passed in
          record {
            events = earlier ++ event ∷ [];
            received = rw (append_assoc m.events end.passed (event ∷ [])) (FoldsTo-append receives m.events (end.passed
                ++ event ∷ []) old h.mid new m.received end.received);
            brought = brings earlier (rw (
              filter_map-append came_in m.events end.passed,
              m.came,
              end.nothing,
              append-nil (came_of xs),
            ) refl) (open_both m.events end.passed m.still_open end.still_open);
          }

      -- nothing more came
      at_once : (stop : Stop) → new ≡ h.mid → Brings m.events (came_of xs) stop → Brought old xs stop new
      at_once stop same brings = record { events = m.events; received = rw same m.received; brought = brings }

      at : (stop : Stop) → AwaitsEnd receives any_wait h.reached (length xs) stop h.mid new → Brought old xs stop new
      at decided same = at_once decided same (m.came, m.still_open)
      at (refused fault) same = at_once (refused fault) same (m.came, m.still_open)
      at no_more (inl waits) = last closed no_more (arrived h.reached closed h.mid new waits) (λ earlier came open_so. (
        filter_map-append came_in earlier (closed ∷ []) ∙ append-nil (filter_map came_in earlier) ∙ came,
        inl (earlier, refl, open_so),
      ))
      at no_more (inr all) = at_once no_more all.1 (m.came, inr (omega (arith, m.many, all.0), m.still_open))
      at timed_out waits = last timeout timed_out (arrived h.reached timeout h.mid new waits) (λ earlier came open_so. (
        filter_map-append came_in earlier (timeout ∷ []) ∙ append-nil (filter_map came_in earlier) ∙ came,
        (earlier, refl, open_so),
      ))
      at exhausted waits = last (event_of waits.0) exhausted (arrived h.reached (event_of waits.0) h.mid new waits.1) (λ
          earlier came open_so. (
            waits.0,
            rw (filter_map-append came_in earlier (event_of waits.0 ∷ []), came, (came_one waits.0).0) refl,
            list_all-push is_open earlier (event_of waits.0) open_so (came_one waits.0).1,
          ))
