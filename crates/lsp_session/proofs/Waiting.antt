-- What several receives do, that a list of events decides a handshake before it is used up, and laws of lists.
use Rattle.std.proofs.Common.{◌≡◌, refl, Bool, true, false, ◌&&◌, List, [], ◌∷◌, ◌++◌, map, length, arith, ℕ, ◌+◌, ◌≤◌}
use Rattle.std.proofs.Common.{◌<◌, Some, None, Option, inl, inr}
use Rattle.std.specs.List.{FoldsTo, list_all}
use Rattle.std.proofs.lemmas.Fn.{FoldsTo-push}
use Rattle.std.proofs.lemmas.List.Folds.{list_all-append}
use Rattle.lsp_session.specs.Boxes.{Receives, PassesTimeouts, WaitsFor, is_timeout, Sends}
use Rattle.lsp_session.specs.Event.{Event, timeout, closed, event_view}
use Rattle.lsp_session.specs.Lists.{GivesNext, ListGives}
use Rattle.std.proofs.lemmas.List.{length-map}
use Rattle.std.specs.Prelude.{IsSome}
use Rattle.lsp_message.specs.Message.{Message}
use Rattle.lsp_session.specs.Finish.{FinishAnswer, is_idle, AwaitsWithin, FinishesWithin}
use Rattle.lsp_session.specs.Start.{StartAnswer, is_undecided, StartsWithin}
use Rattle.lsp_session.specs.Turns.{Turn, stopped, got, TakesTurn}
use Rattle.lsp_session.specs.declared.lifecycle.lists.ListInbox.{ListInbox}
use Rattle.lsp_session.specs.declared.lifecycle.Event as event

-- two runs, one after the other
pub FoldsTo-append : {S A : Type 0} (R : S → A → S → Type 0) (xs ys : List A) (s t u : S) → FoldsTo R s xs t
    → FoldsTo R t ys u → FoldsTo R s (xs ++ ys) u
FoldsTo-append R [] ys s t u first second = rw first second
FoldsTo-append R (x ∷ xs) ys s t u first second = (first.0, first.1, FoldsTo-append R xs ys first.0 t u first.2 second)

-- a run in two parts
pub FoldsTo-split : {S A : Type 0} (R : S → A → S → Type 0) (xs ys : List A) (s u : S) → FoldsTo R s (xs ++ ys) u
    → (t : S) × FoldsTo R s xs t × FoldsTo R t ys u
FoldsTo-split R [] ys s u run = (s, refl, run)
FoldsTo-split R (x ∷ xs) ys s u run = let rest = FoldsTo-split R xs ys run.0 u run.2 in (
  rest.0,
  (
    run.0,
    run.1,
    rest.1,
  ),
  rest.2,
)

-- both tests hold
pub and-true : (a b : Bool) → (a && b) ≡ true → (a ≡ true) × (b ≡ true)
and-true true b e = (refl, e)
and-true false b e = absurd (cc (e))

-- one more item that passes the test
pub list_all-push : {A : Type 0} (p : A → Bool) (xs : List A) (x : A) → list_all p xs ≡ true → p x ≡ true
    → list_all p (xs ++ x ∷ []) ≡ true
list_all-push p xs x all one = rw (list_all-append p xs (x ∷ []), all, one) refl

module _ {I : Type 0} (receives : Receives I) (old mid new : I) where
  pub passes_none : PassesTimeouts receives old old
  passes_none = record { passed = []; only_timeouts = refl; received = refl }

  pub passes_more : PassesTimeouts receives old mid → receives mid timeout new → PassesTimeouts receives old new
  passes_more so_far step = record {
    passed = so_far.passed ++ timeout ∷ [];
    only_timeouts = list_all-push is_timeout so_far.passed timeout so_far.only_timeouts refl;
    received = FoldsTo-push receives old so_far.passed mid timeout new so_far.received step;
  }

  pub waits_after : (event : Event) → PassesTimeouts receives old mid → receives mid event new → WaitsFor receives old
      event new
  waits_after event so_far step = record {
    passed = so_far.passed;
    only_timeouts = so_far.only_timeouts;
    received = FoldsTo-push receives old so_far.passed mid event new so_far.received step;
  }

pub ruleset box_runs = (passes_none, passes_more, waits_after)

-- one receive that gives no timeout
pub waits_none : {I : Type 0} (receives : Receives I) (old new : I) (event : Event) → receives old event new
    → WaitsFor receives old event new
waits_none receives old new event step = record { passed = []; only_timeouts = refl; received = (new, step, refl) }

pub gives_next : (old new : List event.Event) (e : event.Event) → old ≡ e ∷ new → GivesNext (map event_view old)
    (event_view e) (map event_view new)
gives_next old new e is = rw is (refl, refl)

pub gives_closed : (old new : List event.Event) → length old ≡ 0 → length new ≡ 0 → GivesNext (map event_view old)
    closed (map event_view new)
gives_closed [] [] none still = (refl, refl)
gives_closed old new none still = absurd (omega arith)

module _ (passes : Turn → Bool) (not_stopped : passes stopped ≡ false) (not_closed : passes (got closed) ≡ false) where
  gives_less : (old new : List Event) (event : Event) → GivesNext old event new → passes (got event) ≡ true → length old
      ≡ length new + 1
  gives_less [] new event gives passed = let here = rw gives.0 at passed in cc
  gives_less (first ∷ rest) new event gives passed = rw gives.1 (omega arith)

  module _ {G : Type 0} (asks : G → Bool → G → Type 0) where
    -- the turns that leave it undecided are no more than the events
    few_turns : (turns : List Turn) (g g' : G) (i i' : ListInbox) → FoldsTo (TakesTurn asks ListGives) (g, i) turns
        (g', i')
        → list_all passes turns ≡ true → length turns ≤ length (map event_view i.events.items)
    few_turns [] g g' i i' run all = omega arith
    few_turns (stopped ∷ turns) g g' i i' run all = let here = (and-true (passes stopped) (list_all passes turns)
        all).0 in cc
    few_turns (got e ∷ turns) g g' i i' run all =
        let parts = and-true (passes (got e)) (list_all passes turns) all in
        let less = gives_less (map event_view i.events.items) (map event_view run.0.1.events.items) e run.1.1 parts.0 in
        let more = few_turns turns run.0.0 g' run.0.1 i' run.2 parts.1 in
        omega (arith, less, more)

module _ {G : Type 0} (asks : G → Bool → G → Type 0) (limit : ℕ) where
  pub wait_decides : (old new : G × ListInbox) (answer : Option FinishAnswer)
      → AwaitsWithin asks ListGives limit old answer new → length old.1.events.items < limit → IsSome answer
  wait_decides old new None awaits more =
      let few = few_turns is_idle refl refl asks awaits.awaits.before old.0 new.0 old.1 new.1 (rw awaits.awaits.end at
      awaits.taken) awaits.awaits.idle in
      let all = rw awaits.awaits.end at (awaits.none_after_all refl) in
      absurd (omega (arith, few, all, length-map old.1.events.items event_view))
  wait_decides old new (Some answer) awaits more = refl

  module _ {O : Type 0} (sends : Sends O) where
    pub start_decides : (old new : G × ListInbox × O) (answer : Option StartAnswer)
        → StartsWithin asks ListGives sends limit old answer new → length old.1.events.items < limit → IsSome answer
    start_decides old new None starts more =
        let few = few_turns is_undecided refl refl asks starts.starts.before old.0 new.0 old.1 new.1
        (rw starts.starts.end.0 at starts.taken) starts.starts.passed.undecided in
        let all = rw starts.starts.end.0 at (starts.none_after_all refl) in
        absurd (omega (arith, few, all, length-map old.1.events.items event_view))
    start_decides old new (Some answer) starts more = refl

    pub finish_decides : (old new : G × ListInbox × O) (reply : Message) (answer : Option FinishAnswer)
        → FinishesWithin asks ListGives sends limit reply old answer new → length old.1.events.items < limit
        → IsSome answer
    finish_decides old new reply answer (inl sent) more = wait_decides (old.0, old.1) (new.0, new.1) answer sent.1 more
    finish_decides old new reply answer (inr refused) more = rw refused.2 refl
