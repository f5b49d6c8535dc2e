-- What an outbox got in a session over boxes: it took all that it was offered, but perhaps the last message.
use Rattle.lsp_message.specs.Message.{Message}
use Rattle.lsp_session.proofs.Histories.{steps_of}
use Rattle.lsp_session.proofs.Ordering.{none_after}
use Rattle.lsp_session.proofs.Ran.{IsSound, IsWhole, TurnCase, turn_case, whole, lost_reply, breaks, row}
use Rattle.lsp_session.proofs.Ran.{phase_unbroken}
use Rattle.lsp_session.proofs.Waiting.{FoldsTo-append}
use Rattle.lsp_session.specs.Boxes.{Sends, Takes}
use Rattle.lsp_session.specs.Event.{Event, closed, timeout}
use Rattle.lsp_session.specs.Prompt.{event_of, WaitsIn, AwaitsEnd, Refuses, Meets, History, any_wait}
use Rattle.lsp_session.specs.Session.{SessionAnswer, Exchange, sends_of, Stop, decided, no_more}
use Rattle.lsp_session.specs.Session.{timed_out, refused, exhausted, Phase, starting, replied, serving, asked, broken}
use Rattle.lsp_session.specs.Session.{ended, Step, Steps, Stops, any_service}
use Rattle.lsp_session.specs.SessionBytes.{lost_of}
use Rattle.lsp_session.specs.SessionRun.{gives_nothing}
use Rattle.lsp_session.specs.declared.lifecycle.SendFault.{SendFault}
use Rattle.std.proofs.Common.{◌≡◌, refl, sym, ◌∙◌, ap, subst, inl, inr, ℕ, Bool, List, [], ◌∷◌, ◌++◌, length}
use Rattle.std.proofs.Common.{append_assoc, append-nil, Option, Some, None}
use Rattle.std.specs.List.{FoldsTo}
use Rattle.std.specs.Prelude.{Err}

-- a session that is sound stops at no refusal
stops_whole : (passes : Bool) (p : Phase) (stop : Stop) (answer : SessionAnswer) → IsSound p
    → Stops (any_service passes) p tt stop answer tt → IsWhole stop
stops_whole passes p decided answer sound stops = tt
stops_whole passes p no_more answer sound stops = tt
stops_whole passes p timed_out answer sound stops = tt
stops_whole passes p exhausted answer sound stops = tt
stops_whole passes starting (refused fault) answer sound stops = stops
stops_whole passes replied (refused fault) answer sound stops = stops
stops_whole passes serving (refused fault) answer sound stops = stops
stops_whole passes (asked i) (refused fault) answer sound stops = stops
stops_whole passes (broken by) (refused fault) answer sound stops = sound
stops_whole passes (ended by) (refused fault) answer sound stops = stops

stops_broken : (passes : Bool) (by : SendFault) (stop : Stop) (answer : SessionAnswer)
    → Stops (any_service passes) (broken by) tt stop answer tt → (fault : SendFault) → stop ≡ refused fault
    → by ≡ fault
stops_broken passes by (refused other) answer stops fault is =
    let same : other ≡ fault = cc (is) in sym stops.0 ∙ same
stops_broken passes by decided answer stops fault is = absurd stops
stops_broken passes by no_more answer stops fault is = absurd stops
stops_broken passes by timed_out answer stops fault is = absurd stops
stops_broken passes by exhausted answer stops fault is = absurd stops

module _ {O : Type 0} (sends : Sends O) where
  -- It took all, and the session stopped for another reason. Or it refused the last message, so, if that is why the
  -- session stopped.
  pub data Got (old : O) (xs : List Exchange) (stop : Stop) (new : O) : Type 0 where
    all_taken : FoldsTo (Takes sends) old (sends_of xs) new → lost_of xs ≡ None → IsWhole stop → Got old xs stop new
    one_lost : (taken : List Message) (m : Message) (fault : SendFault) (mid : O) → FoldsTo (Takes sends) old taken mid
        → sends mid m (Err fault) new → sends_of xs ≡ taken ++ m ∷ [] → lost_of xs ≡ Some m
        → ((by : SendFault) → stop ≡ refused by → fault ≡ by) → Got old xs stop new

  none_received : (events : List Event) (old new : O) → FoldsTo gives_nothing old events new → new ≡ old
  none_received [] old new run = sym run
  none_received (e ∷ events) old new run = none_received events run.0 new run.2 ∙ run.1

  none_awaited : (p : Phase) (event : Event) (old new : O) → WaitsIn gives_nothing any_wait p old event new → new ≡ old
  none_awaited (asked i) event old new waits = waits
  none_awaited (broken fault) event old new waits = absurd waits
  none_awaited (ended by) event old new waits = absurd waits
  none_awaited p event old new waits = none_received (waits.0.passed ++ event ∷ []) old new waits.0.received

  none_at_end : (p : Phase) (count : ℕ) (stop : Stop) (old new : O) → AwaitsEnd gives_nothing any_wait p count stop old
      new → new ≡ old
  none_at_end p count no_more old new (inl waits) = none_awaited p closed old new waits
  none_at_end p count no_more old new (inr all) = all.1
  none_at_end p count timed_out old new waits = none_awaited p timeout old new waits
  none_at_end p count exhausted old new waits = none_awaited p (event_of waits.0) old new waits.1
  none_at_end p count decided old new same = same
  none_at_end p count (refused fault) old new same = same

  refuses_at : (m : Message) (p : Phase) (old new : O) → Refuses gives_nothing any_wait sends (Some m) p old new
      → (fault : SendFault) × sends old m (Err fault) new
  refuses_at m (broken fault) old new refuses = (fault, refuses)
  refuses_at m starting old new refuses = refuses
  refuses_at m replied old new refuses = refuses
  refuses_at m serving old new refuses = refuses
  refuses_at m (asked i) old new refuses = refuses
  refuses_at m (ended by) old new refuses = refuses

  module _ (passes : Bool) (stop : Stop) (answer : SessionAnswer) where
    abbrev Turns : Phase × O → List Exchange → Phase × O → Type 0
    Turns = FoldsTo (Meets gives_nothing any_wait sends passes)

    -- nothing follows a refusal that ended the session
    over : (fault : SendFault) (xs : List Exchange) (r new : Phase × O) → r.0 ≡ broken fault → Turns r xs new
        → (xs ≡ []) × (r ≡ new)
    over fault [] r new is run = (refl, run)
    over fault (x ∷ xs) r new is run =
        let turn = run.1.turn in
        absurd (subst (λ (p : Phase). Step (any_service passes) p tt x.came turn.given turn.next tt) is turn.step)

    -- one more exchange at which all was taken
    got_more : (old mid new : O) (x : Exchange) (xs : List Exchange) → x.not_sent ≡ None → FoldsTo (Takes sends) old
        x.sent mid → Got mid xs stop new → Got old (x ∷ xs) stop new
    got_more old mid new x xs is took (all_taken taken none is_whole) = all_taken
        (rw is (FoldsTo-append (Takes sends) x.sent (sends_of xs) old mid new took taken)) (rw is none) is_whole
    got_more old mid new x xs is took (one_lost taken m fault at run refuses cut lost tie) = one_lost (x.sent ++ taken)
        m fault at (FoldsTo-append (Takes sends) x.sent taken old mid at took run) refuses
        (rw (is, cut) (sym (append_assoc x.sent taken (m ∷ [])))) (rw is lost) tie

    -- the reply to `shutdown` got lost, and nothing is sent after it
    got_reply : (old mid at new : O) (x : Exchange) (xs : List Exchange) (m : Message) (fault : SendFault) → x.not_sent
        ≡ Some m → FoldsTo (Takes sends) old x.sent mid → sends mid m (Err fault) at → sends_of xs ≡ [] → lost_of xs
        ≡ None → Got at xs stop new → Got old (x ∷ xs) stop new
    got_reply old mid at new x xs m fault is took refuses silent none (all_taken taken also is_whole) =
        let same : at ≡ new = rw silent at taken in
        one_lost x.sent m fault mid took (rw same at refuses) (rw (is, silent) (append-nil (x.sent ++ m ∷ []))) (rw is
        refl) (λ by stopped. absurd (rw stopped at is_whole))
    got_reply old mid at new x xs m fault is took refuses silent none (one_lost taken n other to run lost cut some
        tie) = let never : None ≡ Some n = sym none ∙ some in absurd (cc (never))

    got_turns : (xs : List Exchange) (old new : Phase × O) → IsSound old.0 → Turns old xs new
        → Stops (any_service passes) new.0 tt stop answer tt → Got old.1 xs stop new.1
    got_turns [] old new sound run stops = all_taken (ap (λ (a : Phase × O). a.1) run) refl
        (stops_whole passes new.0 stop answer (subst (λ (a : Phase × O). IsSound a.0) run sound) stops)
    got_turns (x ∷ xs) old new sound run stops =
        at (λ next. got_turns xs run.0 new next run.2 stops) (turn_case (any_service passes) old.0 run.0.0 tt tt x
        meets.turn)
      where
        meets : Meets gives_nothing any_wait sends passes old x run.0
        meets = run.1

        took : FoldsTo (Takes sends) old.1 x.sent meets.mid
        took = subst (λ (o : O). FoldsTo (Takes sends) o x.sent meets.mid) (none_awaited old.0 (event_of x.came) old.1
            meets.met meets.waited) meets.taken

        at : (IsSound run.0.0 → Got run.0.1 xs stop new.1) → TurnCase (any_service passes) old.0 tt x run.0.0 tt
            → Got old.1 (x ∷ xs) stop new.1
        at by (whole is step) =
            let next = (phase_unbroken (any_service passes) old.0 run.0.0 tt tt x.came x.sent (row (any_service passes)
            old.0 run.0.0 tt tt x.came x.sent step)).0 in
            let same : run.0.1 ≡ meets.mid = subst (λ (lost : Option Message). Refuses gives_nothing any_wait sends lost
            run.0.0 meets.mid run.0.1) is meets.refuses in
            got_more old.1 run.0.1 new.1 x xs is (subst (λ (o : O). FoldsTo (Takes sends) old.1 x.sent o) (sym same)
            took) (by next)
        at by (lost_reply m i is next step) =
            let refuses = refuses_at m run.0.0 meets.mid run.0.1 (subst (λ (lost : Option Message). Refuses
            gives_nothing any_wait sends lost run.0.0 meets.mid run.0.1) is meets.refuses) in
            let steps = subst (λ (p : Phase). Steps (any_service passes) p tt xs new.0 tt) next (steps_of gives_nothing
            any_wait sends passes xs run.0 new run.2) in
            let silent = none_after (any_service passes) i new.0 tt tt xs steps in
            got_reply old.1 meets.mid run.0.1 new.1 x xs m refuses.0 is took refuses.1 silent.0 silent.1
            (by (rw next tt))
        at by (breaks m more fault next is gone step other) =
            let last = over fault xs run.0 new gone run.2 in
            let lost = subst (λ (p : Phase). Refuses gives_nothing any_wait sends (Some m) p meets.mid run.0.1) gone
            (subst (λ (lost : Option Message). Refuses gives_nothing any_wait sends lost run.0.0 meets.mid run.0.1) is
            meets.refuses) in
            let ends : new.0 ≡ broken fault = ap (λ (a : Phase × O). a.0) (sym last.1) ∙ gone in
            one_lost x.sent m fault meets.mid took (subst (λ (a : Phase × O). sends meets.mid m (Err fault) a.1) last.1
            lost) (rw (is, last.0) (append-nil (x.sent ++ m ∷ []))) (rw is refl)
            (stops_broken passes fault stop answer (subst (λ (p : Phase). Stops (any_service passes) p tt
            stop answer tt) ends stops))

  pub got_by : (xs : List Exchange) (stop : Stop) (answer : SessionAnswer) (old new : O)
      → History gives_nothing any_wait sends starting xs stop answer old new → Got old xs stop new
  got_by xs stop answer old new h =
      subst (λ (o : O). Got old xs stop o) (sym (none_at_end h.reached (length xs) stop h.mid new h.ends))
      (got_turns h.passes_late stop answer xs (starting, old) (h.reached, h.mid) tt h.turns h.stopped)
