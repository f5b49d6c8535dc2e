-- What a transport does from its first act to its last: a relation that each act keeps is kept by a session.
use Rattle.lsp_message.specs.Message.{Message}
use Rattle.lsp_session.specs.Boxes.{Sends, Receives, Takes, WaitsFor}
use Rattle.lsp_session.specs.Event.{Event, closed, timeout}
use Rattle.lsp_session.specs.Prompt.{event_of, WaitsIn, AwaitsEnd, Refuses, Meets, Talks}
use Rattle.lsp_session.specs.Session.{Exchange, SessionAnswer, SessionPart, Stop, decided, no_more, timed_out, refused}
use Rattle.lsp_session.specs.Session.{exhausted, Phase, asked, broken, ended}
use Rattle.lsp_session.specs.declared.lifecycle.SendFault.{SendFault}
use Rattle.std.proofs.Common.{◌≡◌, sym, ap, subst, inl, inr, ℕ, Bool, List, [], ◌∷◌, ◌++◌, length, Option, Some, None}
use Rattle.std.specs.List.{FoldsTo}
use Rattle.std.specs.Prelude.{Result, Ok, Err}

module _ {L : Type 0} (receives listens : Receives L) (sends : Sends L) (Rel : L → L → Type 0) (own : (a : L) → Rel a a)
    (then_ : (a b c : L) → Rel a b → Rel b c → Rel a c)
    (receiving : (a : L) (event : Event) (b : L) → receives a event b → Rel a b)
    (sending : (a : L) (m : Message) (outcome : Result (Unit {0}) SendFault) (b : L) → sends a m outcome b
    → Rel a b) where
  same : (a b : L) → a ≡ b → Rel a b
  same a b is = subst (Rel a) is (own a)

  pub gave_all : (events : List Event) (old new : L) → FoldsTo receives old events new → Rel old new
  gave_all [] old new run = same old new run
  gave_all (e ∷ events) old new run = then_ old run.0 new (receiving old e run.0 run.1) (gave_all events run.0
      new run.2)

  pub took_all : (ms : List Message) (old new : L) → FoldsTo (Takes sends) old ms new → Rel old new
  took_all [] old new run = same old new run
  took_all (m ∷ ms) old new run = then_ old run.0 new (sending old m (Ok tt) run.0 run.1) (took_all ms run.0 new run.2)

  waited : (event : Event) (old new : L) → WaitsFor receives old event new → Rel old new
  waited event old new waits = gave_all (waits.passed ++ event ∷ []) old new waits.received

  waited_in : (p : Phase) (event : Event) (old new : L) → WaitsIn receives listens p old event new → Rel old new
  waited_in (asked i) event old new waits = receiving old event new waits
  waited_in (broken fault) event old new waits = absurd waits
  waited_in (ended by) event old new waits = absurd waits
  waited_in p event old new waits = waited event old new waits.0

  pub refused_one : (lost : Option Message) (p : Phase) (old new : L) → Refuses receives listens sends lost p old new
      → Rel old new
  refused_one None p old new is = same old new (sym is)
  refused_one (Some m) (broken fault) old new refuses = sending old m (Err fault) new refuses
  refused_one (Some m) p old new refuses = sending old m (Err refuses.0) new refuses.1

  turned : (passes : Bool) (x : Exchange) (old new : Phase × L) → Meets receives listens sends passes old x new
      → Rel old.1 new.1
  turned passes x old new meets = then_ old.1 meets.met new.1 (waited_in old.0 (event_of x.came) old.1 meets.met
      meets.waited) (then_ meets.met meets.mid new.1 (took_all x.sent meets.met meets.mid meets.taken)
      (refused_one x.not_sent new.0 meets.mid new.1 meets.refuses))

  turned_all : (passes : Bool) (xs : List Exchange) (old new : Phase × L)
      → FoldsTo (Meets receives listens sends passes) old xs new → Rel old.1 new.1
  turned_all passes [] old new run = same old.1 new.1 (ap (λ (a : Phase × L). a.1) run)
  turned_all passes (x ∷ xs) old new run = then_ old.1 run.0.1 new.1 (turned passes x old run.0 run.1)
      (turned_all passes xs run.0 new run.2)

  ended_so : (p : Phase) (count : ℕ) (stop : Stop) (old new : L) → AwaitsEnd receives listens p count stop old new
      → Rel old new
  ended_so p count no_more old new (inl waits) = waited_in p closed old new waits
  ended_so p count no_more old new (inr all) = same old new (sym all.1)
  ended_so p count timed_out old new waits = waited_in p timeout old new waits
  ended_so p count exhausted old new waits = waited_in p (event_of waits.0) old new waits.1
  ended_so p count decided old new is = same old new (sym is)
  ended_so p count (refused fault) old new is = same old new (sym is)

  -- what each act keeps, a session keeps
  pub talks_keeps : (phase : Phase) (P : SessionPart) (old new : L) (answer : SessionAnswer) → Talks receives listens
      sends phase P old answer new → Rel old new
  talks_keeps phase P old new answer talks =
      let h = talks.history in
      then_ old h.mid new (turned_all h.passes_late talks.exchanges (phase, old) (h.reached, h.mid) h.turns)
      (ended_so h.reached (length talks.exchanges) talks.stop h.mid new h.ends)
