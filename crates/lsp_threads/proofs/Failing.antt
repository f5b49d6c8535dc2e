-- How the reader and the writer of a session in threads, and of a pump, failed.
use Rattle.std.proofs.Common.{◌≡◌, ◌≢◌, refl, sym, ap, subst, ◌∙◌, inl, inr, ℕ, suc, ◌+◌, ◌-◌, ◌^◌, ◌≤◌, Bool, true}
use Rattle.std.proofs.Common.{false, List, [], ◌∷◌, ◌++◌, length, length-append, arith, Option, Some, None, is_some}
use Rattle.std.proofs.Common.{Result, Ok, Err, ◌||◌, ◌⊎◌}
use Rattle.std.proofs.lemmas.List.{length-map}
use Rattle.std.proofs.lemmas.List.Folds.{concat-append}
use Rattle.std.specs.Bool.{MatchBool}
use Rattle.std.specs.List.{concat, filter_map, FoldsTo, list_all}
use Rattle.std.specs.Prelude.{if◌then◌else◌}
use Rattle.std.specs.declared.io.ErrorKind.{ErrorKind}
use Rattle.std.specs.declared.io.ErrorKind.TheVariants.{Other}
use Rattle.lsp_message.proofs.Failures.{both_for, decodes_no_input}
use Rattle.lsp_message.specs.Failures.{AreInterrupted, FailsFor, ReaderFails, WriterFails}
use Rattle.lsp_message.specs.Message.{Message}
use Rattle.lsp_message.specs.Methods.{is_exit}
use Rattle.lsp_message.specs.declared.frame.ReadFault.{ReadFault}
use Rattle.lsp_message.specs.declared.frame.ReadFault.TheVariants.{Input, Memory as NoMemoryToRead}
use Rattle.lsp_message.specs.declared.frame.WriteFault.{WriteFault}
use Rattle.lsp_message.specs.declared.frame.WriteFault.TheVariants.{Output, Memory as NoMemory}
use Rattle.lsp_message.specs.declared.frame.byte_trace.ByteTrace.{ByteTrace}
use Rattle.lsp_relay.specs.Relay.{has_end}
use Rattle.lsp_session.proofs.Brought.{Brought, came_in, is_open}
use Rattle.lsp_session.specs.Event.{Event, message, timeout, closed, woken}
use Rattle.lsp_session.specs.Session.{Exchange, no_more, SessionAnswer, Stop}
use Rattle.lsp_session.specs.SessionFailures.{write_failures}
use Rattle.lsp_session.specs.SessionFault.{session_answer}
use Rattle.lsp_session.specs.SessionOutcome.{reason_of}
use Rattle.lsp_session.specs.declared.loops.ReadEnd.{ReadEnd}
use Rattle.lsp_session.specs.declared.loops.ReadEnd.TheVariants.{Exit, End, Fault, Closed, Memory}
use Rattle.lsp_session.specs.declared.loops.session_outcome.StopReason.{StopReason}
use Rattle.lsp_session.specs.declared.loops.session_outcome.StopReason.TheVariants.{NoMore, Exhausted}
use Rattle.lsp_session.specs.declared.loops.stream_session.SessionFault.TheVariants.{Read}
use Rattle.lsp_threads.specs.Contents.{ArrivesAs, ContentsGive, GivesContent, is_over, OpenGives, Receiving}
use Rattle.lsp_threads.specs.Passing.{ReadingFails}
use Rattle.lsp_threads.specs.Pump.{pump_answer, PumpReportsReader, PumpReportsWriter}
use Rattle.lsp_threads.specs.Replies.{reply_fault}
use Rattle.lsp_threads.specs.Threads.{ReportsReader, ReportsWriter, session_end}
use Rattle.lsp_threads.specs.declared.pumping.PumpFault.{PumpFault}
use Rattle.lsp_threads.specs.declared.pumping.PumpFault.TheVariants.{Start}
use Rattle.lsp_relay.specs.declared.start_fault.StartFault.{StartFault}

-- ---- the thread that reads

-- one more call, after calls that saw only interruptions
pub reading_on : (fault : Option ReadFault) (old new : ByteTrace) → AreInterrupted old.failed
    → ReaderFails fault old new → FailsFor fault (length (concat new.parts)) new.failed
reading_on fault old new so_far (parts, kinds, taken, failed, fits) =
    let bytes = ap (λ ps. length (concat ps)) taken ∙ ap length (concat-append old.parts parts)
    ∙ length-append (concat old.parts) (concat parts) in
    subst (λ n. FailsFor fault n new.failed) (sym bytes)
    (subst (λ ks. FailsFor fault (length (concat old.parts) + length (concat parts)) ks) (sym failed)
    (both_for fault (length (concat old.parts)) (length (concat parts)) old.failed kinds so_far fits))

-- ---- the thread that writes

-- one more text, after texts that were written
pub writing_on : (before : Option WriteFault) (old new : ByteTrace) (fault : Option WriteFault) → is_some before ≡ false
    → WriterFails fault old new → old.failed ≡ write_failures before → new.failed ≡ write_failures fault
writing_on (Some fault) old new fault' unfailed fails none = absurd (cc (unfailed))
writing_on None old new (Some (Output kind)) unfailed fails none = fails ∙ ap (λ l. l ++ kind ∷ []) none
writing_on None old new (Some NoMemory) unfailed fails none = fails ∙ none
writing_on None old new None unfailed fails none = fails ∙ none

-- ---- how the messages of a session ended

-- no failure of the reader ended them
abbrev pub NoInput : Option ReadEnd → Type 0
NoInput (Some (Fault (Input kind))) = ⊥
NoInput end = Unit {0}

no_input : (fault : ReadFault) → ((kind : ErrorKind) → fault ≢ Input kind) → NoInput (Some (Fault fault))
no_input (Input kind) none = absurd (none kind refl)
no_input fault none = tt

no_more_of : (stop : Stop) → NoMore ≡ reason_of stop → stop ≡ no_more
no_more_of no_more is = refl
no_more_of stop is = absurd (cc (is))

either : (a b : Bool) → b ≡ true → (a || b) ≡ true
either true b is = refl
either false b is = is

module _ {L : Type 0} (passes : L → ReadFault → L → Type 0) where
  at_message : (end : Option ReadEnd) (last : Bool) → end ≡ (if last then Some Exit else None) → NoInput end
  at_message end true is = rw is tt
  at_message end false is = rw is tt

  at_content : (content : List ℕ) (end : Option ReadEnd) → ArrivesAs content closed end → NoInput end × (is_some end
      ≡ true)
  at_content content (Some (Fault fault)) decodes = (
    no_input fault (decodes_no_input (λ (m : Message). m) fault content decodes),
    refl,
  )
  at_content content end arrives = absurd arrives

  keeps_open : (event : Event) (old new : Receiving × L) → OpenGives passes old event new → NoInput new.0.end
  keeps_open (message m) old new gives = at_message new.0.end (is_exit m) gives.0.2.1
  keeps_open closed old new (inl drains, same) = rw drains.2 tt
  keeps_open closed old new (inr came, same) = (at_content came.0 new.0.end came.2).0
  keeps_open woken old new (inl wakes) = rw wakes.0.2 tt
  keeps_open woken old new (inr passed) = rw passed.3 tt
  keeps_open event old new gives = absurd gives

  keeps : (event : Event) (old new : Receiving × L) (over : Bool) → MatchBool over ((event ≡ closed) × (new ≡ old))
      (OpenGives passes old event new) → NoInput old.0.end → NoInput new.0.end
  keeps event old new true same none = subst (λ (t : Receiving × L). NoInput t.0.end) (sym same.1) none
  keeps event old new false gives none = keeps_open event old new gives

  pub all_keep : (events : List Event) (old new : Receiving × L) → FoldsTo (ContentsGive passes) old events new
      → NoInput old.0.end → NoInput new.0.end
  all_keep [] old new run none = subst (λ (t : Receiving × L). NoInput t.0.end) run none
  all_keep (event ∷ events) old new run none = all_keep events run.0 new run.2 (keeps event old run.0 (is_over old.0)
      run.1.2 none)

  -- an inbox that says that no more come is over
  over_after : (old new : Receiving × L) (over : Bool) → is_over old.0 ≡ over
      → MatchBool over ((closed ≡ closed) × (new ≡ old)) (OpenGives passes old closed new) → is_over new.0 ≡ true
  over_after old new true is same = ap (λ (t : Receiving × L). is_over t.0) same.1 ∙ is
  over_after old new false is (inl drains, same) = rw drains.1 refl
  over_after old new false is (inr came, same) = either (has_end new.0.taken) (is_some new.0.end)
      (at_content came.0 new.0.end came.2).1

  over_at_last : (earlier : List Event) (old new : Receiving × L)
      → FoldsTo (ContentsGive passes) old (earlier ++ closed ∷ []) new → is_over new.0 ≡ true
  over_at_last [] old new run =
      over_after old new (is_over old.0) refl (subst (λ (t : Receiving × L). MatchBool (is_over old.0)
      ((closed ≡ closed) × (t ≡ old)) (OpenGives passes old closed t)) run.2 run.1.2)
  over_at_last (event ∷ earlier) old new run = over_at_last earlier run.0 new run.2

  -- each event brings a message or a wake, until no more come
  no_timeout : (old new : Receiving × L) (over : Bool) → MatchBool over ((timeout ≡ closed) × (new ≡ old))
      (OpenGives passes old timeout new) → ⊥
  no_timeout old new true same = absurd (cc (same.0))
  no_timeout old new false gives = gives

  all_bring : (events : List Event) (old new : Receiving × L) → FoldsTo (ContentsGive passes) old events new
      → list_all is_open events ≡ true → length (filter_map came_in events) ≡ length events
  all_bring [] old new run still = refl
  all_bring (message m ∷ events) old new run still = ap suc (all_bring events run.0 new run.2 still)
  all_bring (woken ∷ events) old new run still = ap suc (all_bring events run.0 new run.2 still)
  all_bring (timeout ∷ events) old new run still = absurd (no_timeout old run.0 (is_over old.0) run.1.2)
  all_bring (closed ∷ events) old new run still = absurd (cc (still))

  -- A session that stopped since no more came, before the inbox was over, gave up.
  module _ (old new : Receiving × L) (xs : List Exchange) where
    gave_up : (stop : Stop) → Brought (ContentsGive passes) old xs stop new → stop ≡ no_more → is_over new.0 ≡ false
        → 2 ^ 64 - 1 ≤ length xs
    gave_up no_more heard is going = elim heard.brought.1 [
      | inl last ↦ absurd (cc (
        going,
        over_at_last last.0 old new (subst (λ l. FoldsTo (ContentsGive passes) old l new)
            last.1 heard.received),
      ))
      | inr all ↦
          let bring = all_bring heard.events old new heard.received all.1 in
          omega (arith, all.0, bring, ap length heard.brought.0, length-map xs (λ (x : Exchange). x.came))
    ]
    gave_up stop heard is going = absurd (cc (is))

    not_over : (read : ReadEnd) (end : Option ReadEnd) (drained : Bool) → session_end end drained read ≡ None
        → (drained || is_some end) ≡ false
    not_over read (Some end) drained none = absurd (cc (none))
    not_over read None true none = absurd (cc (none))
    not_over read None false none = refl

    pub stopped_early : (reason : StopReason) (stop : Stop) → Brought (ContentsGive passes) old xs stop new
        → reason ≡ reason_of stop → (read : ReadEnd) → reason ≡ NoMore
        → session_end new.0.end (has_end new.0.taken) read ≡ None → 2 ^ 64 - 1 ≤ length xs
    stopped_early reason stop heard is read ended none =
        gave_up stop heard (no_more_of stop (sym ended ∙ is)) (not_over read new.0.end (has_end new.0.taken) none)

-- ---- what a session reports

module _ (taken : ByteTrace) (xs : List Exchange) (stop : Stop) (last : SessionAnswer) where
  reports_end : (end : Option ReadEnd) (fault : ReadFault) → end ≡ Some (Fault fault)
      → ((kind : ErrorKind) → end ≡ Some (Fault (Input kind)) → ReadingFails (Fault (Input kind)) taken)
      → ReportsReader (Err (Read fault)) taken xs stop last
  reports_end end (Input kind) is fails = inl (fails kind is)
  reports_end end fault is fails = tt

  reports : (reason : StopReason) (answer : SessionAnswer) (end : Option ReadEnd) (fault : Option WriteFault)
      → ((kind : ErrorKind) → end ≡ Some (Fault (Input kind)) → ReadingFails (Fault (Input kind)) taken)
      → (reason ≡ NoMore → end ≡ None → 2 ^ 64 - 1 ≤ length xs)
      → ReportsReader (session_answer reason answer end fault) taken xs stop last
  reports stop' answer end (Some (Output kind)) fails many = tt
  reports stop' answer end (Some NoMemory) fails many = tt
  reports Exhausted answer end None fails many = tt
  reports NoMore answer (Some (Fault NoMemoryToRead)) None fails many = tt
  reports NoMore answer (Some (Fault fault)) None fails many = reports_end (Some (Fault fault)) fault refl fails
  reports NoMore answer None None fails many = inr (refl, many refl refl)
  reports stop' (Ok end) read None fails many = tt
  reports stop' (Err fault) read None fails many = tt

  ends_so : (ended : Option ReadEnd) (drained : Bool) (read : ReadEnd) (kind : ErrorKind) → NoInput ended
      → (drained ≡ true → ReadingFails read taken) → session_end ended drained read ≡ Some (Fault (Input kind))
      → ReadingFails (Fault (Input kind)) taken
  ends_so (Some (Fault (Input own))) drained read kind none fails is = absurd none
  ends_so (Some end) drained read kind none fails is = absurd (not_input end is none)
    where
      not_input : (end : ReadEnd) → Some end ≡ Some (Fault (Input kind)) → NoInput (Some end) → ⊥
      not_input end is none = subst NoInput is none
  ends_so None true read kind none fails is = subst (λ end. ReadingFails end taken) (at is) (fails refl)
    where
      at : Some read ≡ Some (Fault (Input kind)) → read ≡ Fault (Input kind)
      at e = cc (e)
  ends_so None false read kind none fails is = absurd (cc (is))

  pub session_reports_reader : (reason : StopReason) (answer : SessionAnswer) (ended : Option ReadEnd) (drained : Bool)
      (read : ReadEnd) (fault : Option WriteFault) → NoInput ended → (drained ≡ true → ReadingFails read taken)
      → (reason ≡ NoMore → session_end ended drained read ≡ None → 2 ^ 64 - 1 ≤ length xs)
      → ReportsReader (session_answer reason answer (session_end ended drained read) fault) taken xs stop last
  session_reports_reader reason answer ended drained read fault none fails many =
      reports reason answer (session_end ended drained read) fault
      (λ kind is. ends_so ended drained read kind none fails is) many

module _ (given : ByteTrace) where
  reports_writer : (reason : StopReason) (answer : SessionAnswer) (end : Option ReadEnd) (fault : Option WriteFault)
      → given.failed ≡ write_failures fault → ReportsWriter (session_answer reason answer end fault) given
  reports_writer stop answer end (Some (Output kind)) is = is
  reports_writer stop answer end (Some NoMemory) is = is
  reports_writer Exhausted answer end None is = is
  reports_writer NoMore answer (Some (Fault NoMemoryToRead)) None is = is
  reports_writer NoMore answer (Some (Fault fault)) None is = is
  reports_writer NoMore answer None None is = is
  reports_writer stop (Ok end) read None is = is
  reports_writer stop (Err fault) read None is = is

  replies_fail : (fault : Option WriteFault) (failed : Bool) → given.failed ≡ write_failures fault
      → given.failed ≡ write_failures (reply_fault fault failed)
  replies_fail (Some fault) failed is = is
  replies_fail None true is = is
  replies_fail None false is = is

  pub session_reports_writer : (reason : StopReason) (answer : SessionAnswer) (end : Option ReadEnd)
      (fault : Option WriteFault) (failed : Bool) → given.failed ≡ write_failures fault
      → ReportsWriter (session_answer reason answer end (reply_fault fault failed)) given
  session_reports_writer reason answer end fault failed is = reports_writer reason answer end (reply_fault fault failed)
      (replies_fail fault failed is)

  -- ---- what a pump reports

  pub pump_reports_writer : (end : ReadEnd) (fault : Option WriteFault) → given.failed ≡ write_failures fault
      → PumpReportsWriter (pump_answer end fault) given
  pump_reports_writer end (Some fault) is = is
  pump_reports_writer Exit None is = is
  pump_reports_writer End None is = is
  pump_reports_writer (Fault fault) None is = is
  pump_reports_writer Closed None is = is
  pump_reports_writer Memory None is = is

pub pump_reports_reader : (taken : ByteTrace) (end : ReadEnd) (fault : Option WriteFault) → ReadingFails end taken
    → PumpReportsReader (pump_answer end fault) taken
pump_reports_reader taken end (Some fault) fails = tt
pump_reports_reader taken Exit None fails = fails
pump_reports_reader taken End None fails = fails
pump_reports_reader taken (Fault fault) None fails = fails
pump_reports_reader taken Closed None fails = fails
pump_reports_reader taken Memory None fails = tt

-- a pump that did not start saw no failure
pub none_failed : (answer : Result (Unit {0}) PumpFault) (fault : StartFault) (taken given : ByteTrace)
    → answer ≡ Err (Start fault) → (taken.failed ≡ []) × (given.failed ≡ [])
    → PumpReportsReader answer taken × PumpReportsWriter answer given
none_failed answer fault taken given is none = rw is none
