-- What a transport does turn after turn, another value that follows it does too.
use Rattle.lsp_message.specs.Message.{Message}
use Rattle.lsp_session.specs.Boxes.{Sends, Receives, Takes, WaitsFor}
use Rattle.lsp_session.specs.Event.{Event, timeout, closed}
use Rattle.lsp_session.specs.Prompt.{event_of, WaitsIn, AwaitsEnd, Refuses, Meets, History, any_wait}
use Rattle.lsp_session.specs.Session.{SessionAnswer, Exchange, Stop, decided, no_more, timed_out, refused, exhausted}
use Rattle.lsp_session.specs.Session.{Phase, starting, replied, serving, asked, broken, ended, Steps, any_service}
use Rattle.lsp_session.specs.declared.lifecycle.SendFault.{SendFault}
use Rattle.std.proofs.Common.{refl, sym, ap, subst, inl, inr, ℕ, Bool, List, [], ◌∷◌, ◌++◌, length, Option, Some}
use Rattle.std.proofs.Common.{None}
use Rattle.std.specs.List.{FoldsTo}
use Rattle.std.specs.Prelude.{Result, Ok, Err}

-- the phases of the turns are those of the table
pub steps_of : {L : Type 0} (receives listens : Receives L) (sends : Sends L) (passes : Bool) (xs : List Exchange)
    (old new : Phase × L) → FoldsTo (Meets receives listens sends passes) old xs new
    → Steps (any_service passes) old.0 tt xs new.0 tt
steps_of receives listens sends passes [] old new run = ap (λ (a : Phase × _). (a.0, tt)) run
steps_of receives listens sends passes (x ∷ xs) old new run = (
  (run.0.0, tt),
  run.1.turn,
  steps_of receives listens sends passes xs run.0 new run.2,
)

module _ {L M : Type 0} (receives listens : Receives L) (sends : Sends L) (receives' : Receives M) (sends' : Sends M)
    (Follows : L → M → Type 0)
    (receiving : (old : L) (event : Event) (new : L) → receives old event new → (m : M) → Follows old m
    → (m' : M) × receives' m event m' × Follows new m')
    (sending : (old : L) (x : Message) (outcome : Result (Unit {0}) SendFault) (new : L) → sends old x outcome new
    → (m : M) → Follows old m → (m' : M) × sends' m x outcome m' × Follows new m') where
  received_as : (events : List Event) (old new : L) → FoldsTo receives old events new → (m : M) → Follows old m
      → (m' : M) × FoldsTo receives' m events m' × Follows new m'
  received_as [] old new run m follows = (m, refl, subst (λ (l : L). Follows l m) run follows)
  received_as (e ∷ events) old new run m follows =
      let one = receiving old e run.0 run.1 m follows in
      let rest = received_as events run.0 new run.2 one.0 one.2 in
      (rest.0, (one.0, one.1, rest.1), rest.2)

  taken_as : (ms : List Message) (old new : L) → FoldsTo (Takes sends) old ms new → (m : M) → Follows old m
      → (m' : M) × FoldsTo (Takes sends') m ms m' × Follows new m'
  taken_as [] old new run m follows = (m, refl, subst (λ (l : L). Follows l m) run follows)
  taken_as (x ∷ ms) old new run m follows =
      let one = sending old x (Ok tt) run.0 run.1 m follows in
      let rest = taken_as ms run.0 new run.2 one.0 one.2 in
      (rest.0, (one.0, one.1, rest.1), rest.2)

  waits_as : (event : Event) (old new : L) → WaitsFor receives old event new → (m : M) → Follows old m
      → (m' : M) × WaitsFor receives' m event m' × Follows new m'
  waits_as event old new waits m follows =
      let run = received_as (waits.passed ++ event ∷ []) old new waits.received m follows in (
        run.0,
        record { passed = waits.passed; only_timeouts = waits.only_timeouts; received = run.1 },
        run.2,
      )

  awaits_as : (p : Phase) (event : Event) (old new : L) → WaitsIn receives listens p old event new → (m : M)
      → Follows old m → (m' : M) × WaitsIn receives' any_wait p m event m' × Follows new m'
  awaits_as starting event old new waits m follows =
      let run = waits_as event old new waits.0 m follows in (run.0, (run.1, tt), run.2)
  awaits_as replied event old new waits m follows =
      let run = waits_as event old new waits.0 m follows in (run.0, (run.1, tt), run.2)
  awaits_as serving event old new waits m follows =
      let run = waits_as event old new waits.0 m follows in (run.0, (run.1, tt), run.2)
  awaits_as (asked i) event old new waits m follows = receiving old event new waits m follows
  awaits_as (broken fault) event old new waits m follows = absurd waits
  awaits_as (ended by) event old new waits m follows = absurd waits

  refuses_as : (lost : Option Message) (p : Phase) (old new : L) → Refuses receives listens sends lost p old new
      → (m : M) → Follows old m → (m' : M) × Refuses receives' any_wait sends' lost p m m' × Follows new m'
  refuses_as None p old new refuses m follows = (m, refl, subst (λ (l : L). Follows l m) (sym refuses) follows)
  refuses_as (Some x) (broken fault) old new refuses m follows = sending old x (Err fault) new refuses m follows
  refuses_as (Some x) p old new refuses m follows =
      let one = sending old x (Err refuses.0) new refuses.1 m follows in (one.0, (refuses.0, one.1), one.2)

  turn_as : (passes : Bool) (x : Exchange) (old new : Phase × L) → Meets receives listens sends passes old x new
      → (m : M) → Follows old.1 m
      → (m' : M) × Meets receives' any_wait sends' passes (old.0, m) x (new.0, m') × Follows new.1 m'
  turn_as passes x old new meets m follows =
      let came = awaits_as old.0 (event_of x.came) old.1 meets.met meets.waited m follows in
      let took = taken_as x.sent meets.met meets.mid meets.taken came.0 came.2 in
      let lost = refuses_as x.not_sent new.0 meets.mid new.1 meets.refuses took.0 took.2 in (
        lost.0,
        record {
          turn = meets.turn;
          met = came.0;
          waited = came.1;
          mid = took.0;
          taken = took.1;
          refuses = lost.1;
        },
        lost.2,
      )

  turns_as : (passes : Bool) (xs : List Exchange) (old new : Phase × L) → FoldsTo (Meets receives listens sends passes)
      old xs new → (m : M) → Follows old.1 m
      → (m' : M) × FoldsTo (Meets receives' any_wait sends' passes) (old.0, m) xs (new.0, m') × Follows new.1 m'
  turns_as passes [] old new run m follows = (
    m,
    ap (λ (a : Phase × L). (a.0, m)) run,
    subst (λ (a : Phase × L). Follows a.1 m) run follows,
  )
  turns_as passes (x ∷ xs) old new run m follows =
      let one = turn_as passes x old run.0 run.1 m follows in
      let rest = turns_as passes xs run.0 new run.2 one.0 one.2 in
      (rest.0, ((run.0.0, one.0), one.1, rest.1), rest.2)

  end_as : (p : Phase) (count : ℕ) (stop : Stop) (old new : L) → AwaitsEnd receives listens p count stop old new
      → (m : M) → Follows old m → (m' : M) × AwaitsEnd receives' any_wait p count stop m m' × Follows new m'
  end_as p count no_more old new (inl waits) m follows =
      let run = awaits_as p closed old new waits m follows in (run.0, inl run.1, run.2)
  end_as p count no_more old new (inr all) m follows =
      (m, inr (all.0, refl), subst (λ (l : L). Follows l m) (sym all.1) follows)
  end_as p count timed_out old new waits m follows = awaits_as p timeout old new waits m follows
  end_as p count exhausted old new waits m follows =
      let run = awaits_as p (event_of waits.0) old new waits.1 m follows in (run.0, (waits.0, run.1), run.2)
  end_as p count decided old new same m follows = (m, refl, subst (λ (l : L). Follows l m) (sym same) follows)
  end_as p count (refused fault) old new same m follows = (m, refl, subst (λ (l : L). Follows l m) (sym same) follows)

  pub history_as : (p : Phase) (xs : List Exchange) (stop : Stop) (answer : SessionAnswer) (old new : L)
      → History receives listens sends p xs stop answer old new → (m : M) → Follows old m
      → (m' : M) × History receives' any_wait sends' p xs stop answer m m' × Follows new m'
  history_as p xs stop answer old new h m follows =
      let run = turns_as h.passes_late xs (p, old) (h.reached, h.mid) h.turns m follows in
      let end = end_as h.reached (length xs) stop h.mid new h.ends run.0 run.2 in (
        end.0,
        record {
          passes_late = h.passes_late;
          reached = h.reached;
          mid = run.0;
          turns = run.1;
          stopped = h.stopped;
          ends = end.1;
        },
        end.2,
      )
