-- A client that waits only for what is owed to it, and a session that acts in order: they never wait for each other.
use Rattle.lsp_message.specs.Id.{Id}
use Rattle.lsp_message.specs.Message.{Message, ErrorObject}
use Rattle.lsp_session.proofs.ActsNoted.{Waited, waited_in, taken_noted, refused_noted}
use Rattle.lsp_session.proofs.Handshake.{AllZip-append}
use Rattle.lsp_session.proofs.Ordering.{answers_in_order}
use Rattle.lsp_session.proofs.Ran.{steps_both, messages_both, sends_both, answer_at_end}
use Rattle.lsp_session.specs.Account.{Act, gave, took, lost, NotesReceive, NotesSend, InOrder}
use Rattle.lsp_session.specs.Answered.{RepliesTo, RepliesToEach, requests_of, AllReplied}
use Rattle.lsp_session.specs.Boxes.{is_timeout}
use Rattle.lsp_session.specs.Dialog.{Client, NeverBothWait, WaitsForReplies, awaits, WaitsForItsDue}
use Rattle.lsp_session.specs.Event.{Event, message, timeout, closed, woken}
use Rattle.lsp_session.specs.HandlerSession.{of_handler}
use Rattle.lsp_session.specs.Prompt.{event_of, AwaitsEnd, Refuses, Meets, any_wait}
use Rattle.lsp_session.specs.Session.{Behavior, Exchange, messages_of, sends_of, SessionAnswer, Stop, decided, no_more}
use Rattle.lsp_session.specs.Session.{timed_out, refused, exhausted, Phase, starting, replied, serving, asked, broken}
use Rattle.lsp_session.specs.Session.{ended, offered, and_refused, Step, Steps, Stops, SessionFrom, request_id}
use Rattle.serde_json.specs.Data.{Data}
use Rattle.std.proofs.Common.{◌≡◌, refl, sym, ◌∙◌, ap, subst, inl, inr, ℕ, Bool, true, List, [], ◌∷◌, ◌++◌, length, map}
use Rattle.std.proofs.Common.{append_assoc, append-nil, Option, Some, None}
use Rattle.std.proofs.lemmas.List.Elements.{filter_map-append}
use Rattle.std.specs.List.{FoldsTo, list_all}
use Rattle.std.specs.Prelude.{Result}

-- what the client had sent, after this event
abbrev sent_after : List Message → Event → List Message
sent_after sent (message m) = sent ++ m ∷ []
sent_after sent event = sent

sent_by : (sent : List Message) (x : Exchange) → sent_after sent (event_of x.came) ≡ sent ++ messages_of (x ∷ [])
sent_by sent x = at x.came
  where
    at : (came : Option Message) → sent_after sent (event_of came) ≡ sent
        ++ messages_of (record { came = came; sent = []; not_sent = None } ∷ [])
    at None = sym (append-nil sent)
    at (Some m) = refl

module _ (goes_on : Client) where
  -- an event came, and the client did not wait
  waits_on : (sent got : List Message) (passed : List Event) (event : Event) (rest : List Act) → list_all is_timeout
      passed ≡ true → goes_on sent got ≡ true
      → NeverBothWait goes_on (sent_after sent event) got rest → NeverBothWait goes_on sent got (map gave (passed
      ++ event ∷ []) ++ rest)
  waits_on sent got [] (message m) rest all ready more = (ready, more)
  waits_on sent got [] timeout rest all ready more = (ready, more)
  waits_on sent got [] closed rest all ready more = (ready, more)
  waits_on sent got [] woken rest all ready more = (ready, more)
  waits_on sent got (timeout ∷ passed) event rest all ready more = (
    ready,
    waits_on sent got passed event rest all
        ready more,
  )
  waits_on sent got (message m ∷ passed) event rest all ready more = absurd (cc (all))
  waits_on sent got (closed ∷ passed) event rest all ready more = absurd (cc (all))
  waits_on sent got (woken ∷ passed) event rest all ready more = absurd (cc (all))

  -- it got these
  took_on : (sent got ms : List Message) (rest : List Act) → NeverBothWait goes_on sent (got ++ ms) rest
      → NeverBothWait goes_on sent got (map took ms ++ rest)
  took_on sent got [] rest more = rw append-nil at more
  took_on sent got (m ∷ ms) rest more = took_on sent (got ++ m ∷ []) ms rest (rw append_assoc more)

module _ {S : Type 0} (may : Behavior S) where
  -- something is awaited if a step is made, and where a session stops at no message
  step_awaits : (p q : Phase) (s s' : S) (came : Option Message) (output : List Message) → Step may p s came output q s'
      → awaits p
  step_awaits starting q s s' came output step = tt
  step_awaits replied q s s' came output step = tt
  step_awaits serving q s s' came output step = tt
  step_awaits (asked i) q s s' came output step = tt
  step_awaits (broken fault) q s s' came output step = step
  step_awaits (ended by) q s s' came output step = step

  -- the session stopped at none of its messages
  abbrev StopsLater : Stop → Type 0
  StopsLater decided = ⊥
  StopsLater (refused fault) = ⊥
  StopsLater stop = Unit {0}

  stop_awaits : (p : Phase) (s s' : S) (stop : Stop) (answer : SessionAnswer) → StopsLater stop
      → Stops may p s stop answer s' → awaits p
  stop_awaits starting s s' stop answer later stops = tt
  stop_awaits replied s s' stop answer later stops = tt
  stop_awaits serving s s' stop answer later stops = tt
  stop_awaits (asked i) s s' stop answer later stops = tt
  stop_awaits (broken fault) s s' decided answer later stops = later
  stop_awaits (broken fault) s s' (refused by) answer later stops = later
  stop_awaits (broken fault) s s' no_more answer later stops = stops
  stop_awaits (broken fault) s s' timed_out answer later stops = stops
  stop_awaits (broken fault) s s' exhausted answer later stops = stops
  stop_awaits (ended by) s s' decided answer later stops = later
  stop_awaits (ended by) s s' (refused fault) answer later stops = later
  stop_awaits (ended by) s s' no_more answer later stops = stops
  stop_awaits (ended by) s s' timed_out answer later stops = stops
  stop_awaits (ended by) s s' exhausted answer later stops = stops

  module _ (start : S) (goes_on : Client) (due : WaitsForItsDue may start goes_on) where
    -- after these exchanges
    abbrev Never : List Exchange → List Act → Type 0
    Never before acts = NeverBothWait goes_on (messages_of before) (sends_of before) acts

    -- these acts follow, and the client did not wait at any
    abbrev Follows : List Exchange → List Act → List Act → Type 0
    Follows before old new = (acts : List Act) × (new ≡ old ++ acts) × Never before acts

    -- an event is awaited after these exchanges, and that is all
    only_awaited : (before : List Exchange) (p : Phase) (s : S) (event : Event) (old new : List Act)
        → Steps may starting start before p s → awaits p → Waited event old new → Follows before old new
    only_awaited before p s event old new done awaited w = (
      map gave (w.passed ++ event ∷ []),
      w.are,
      rw (append-nil (map gave (w.passed ++ event ∷ []))) at (waits_on goes_on (messages_of before) (sends_of before)
          w.passed event [] w.only_timeouts (due before p s done awaited) tt),
    )

    at_end : (before : List Exchange) (p reached : Phase) (s s' : S) (count : ℕ) (stop : Stop) (answer : SessionAnswer)
        (mid new : List Act) → Steps may starting start before p s → Stops may p s stop answer s'
        → AwaitsEnd NotesReceive any_wait reached count stop mid new → Follows before mid new
    at_end before p reached s s' count no_more answer mid new done stops (inl waits) =
        only_awaited before p s closed mid new done (stop_awaits p s s' no_more answer tt stops)
        (waited_in reached closed mid new waits)
    at_end before p reached s s' count no_more answer mid new done stops (inr all) =
        ([], all.1 ∙ sym (append-nil mid), tt)
    at_end before p reached s s' count timed_out answer mid new done stops waits =
        only_awaited before p s timeout mid new done (stop_awaits p s s' timed_out answer tt stops)
        (waited_in reached timeout mid new waits)
    at_end before p reached s s' count exhausted answer mid new done stops waits =
        only_awaited before p s (event_of waits.0) mid new done (stop_awaits p s s' exhausted answer tt stops)
        (waited_in reached (event_of waits.0) mid new waits.1)
    at_end before p reached s s' count decided answer mid new done stops same = ([], same ∙ sym (append-nil mid), tt)
    at_end before p reached s s' count (refused fault) answer mid new done stops same =
        ([], same ∙ sym (append-nil mid), tt)

    -- the acts of one more exchange, and those that follow
    turn_on : (passes_late : Bool) (before : List Exchange) (x : Exchange) (p : Phase) (s : S) (old new : Phase
        × List Act) (last : List Act) → Steps may starting start before p s → awaits p
        → Meets NotesReceive any_wait NotesSend passes_late old x new → Follows (before ++ x ∷ []) new.1 last
        → Follows before old.1 last
    turn_on passes_late before x p s old new last done awaited meets later =
        at x.not_sent refl meets.refuses
      where
        w : Waited (event_of x.came) old.1 meets.met
        w = waited_in old.0 (event_of x.came) old.1 meets.met meets.waited

        waits : List Act
        waits = map gave (w.passed ++ event_of x.came ∷ [])

        mid_is : meets.mid ≡ (old.1 ++ waits) ++ map took x.sent
        mid_is = taken_noted x.sent meets.met meets.mid meets.taken ∙ ap (λ (l : List Act). l ++ map took x.sent) w.are

        -- the acts, if these come after what was taken
        with_rest : (rest : List Act) → last ≡ meets.mid ++ rest → NeverBothWait goes_on (sent_after
            (messages_of before) (event_of x.came)) (sends_of before ++ x.sent) rest → Follows before old.1 last
        with_rest rest is never = (
          waits ++ (map took x.sent ++ rest),
          is ∙ ap (λ (l : List Act). l ++ rest) mid_is ∙ append_assoc (old.1 ++ waits) (map took x.sent) rest
              ∙ append_assoc old.1 waits (map took x.sent ++ rest),
          waits_on goes_on (messages_of before) (sends_of before) w.passed (event_of x.came) (map took x.sent ++ rest)
              w.only_timeouts (due before p s done awaited)
              (took_on goes_on (sent_after (messages_of before) (event_of x.came)) (sends_of before) x.sent rest never),
        )

        at : (refused_one : Option Message) → x.not_sent ≡ refused_one → Refuses NotesReceive any_wait NotesSend
            refused_one new.0 meets.mid new.1 → Follows before old.1 last
        at (Some m) is refuses = with_rest (lost m ∷ later.0) (later.1 ∙ ap (λ (l : List Act). l ++ later.0)
            (refused_noted m new.0 meets.mid new.1 refuses) ∙ append_assoc meets.mid (lost m ∷ []) later.0) tt
        at None is same =
            let got : sends_of (before ++ x ∷ []) ≡ sends_of before ++ x.sent = sends_both before (x ∷ [])
            ∙ ap (λ (ms : List Message). sends_of before ++ ms) (append-nil (offered x) ∙ ap (λ (o : Option Message).
            and_refused x.sent o) is) in
            let sent : messages_of (before ++ x ∷ []) ≡ sent_after (messages_of before) (event_of x.came) =
            messages_both
            before (x ∷ []) ∙ sym (sent_by (messages_of before) x) in
            with_rest later.0 (later.1 ∙ ap (λ (l : List Act). l ++ later.0) same) (rw (sent, got) at later.2)

    -- exchanges, one after another, and the end
    acts_on : (passes_late : Bool) (before xs : List Exchange) (p q reached : Phase) (s after s' : S) (old : Phase
        × List Act) (mid new : List Act) (count : ℕ) (stop : Stop) (answer : SessionAnswer)
        → Steps may starting start before p s → Steps may p s xs q after → Stops may q after stop answer s'
        → FoldsTo (Meets NotesReceive any_wait NotesSend passes_late) old xs (reached, mid)
        → AwaitsEnd NotesReceive any_wait reached count stop mid new → Follows before old.1 new
    acts_on passes_late before [] p q reached s after s' old mid new count stop answer done steps stops turns ends =
        subst (λ (a : Phase × List Act). Follows before a.1 new) (sym turns)
        (at_end before q reached after s' count stop answer mid new (subst (λ (a : Phase × S). Steps may starting start
        before a.0 a.1) steps done) stops ends)
    acts_on passes_late before (x ∷ xs) p q reached s after s' old mid new count stop answer done steps stops turns
        ends =
        turn_on passes_late before x p s old turns.0 new done
        (step_awaits p steps.1.next s steps.0.1 x.came steps.1.given steps.1.step) turns.1
        (acts_on passes_late (before ++ x ∷ []) xs steps.0.0 q reached steps.0.1 after s' turns.0 mid new count stop
        answer (steps_both may starting p steps.0.0 start s steps.0.1 before (x ∷ []) done (steps.0, steps.1, refl))
        steps.2 stops turns.2 ends)

    -- the client did not wait whenever the session did
    pub never_both_wait : (acts : List Act) (xs : List Exchange) (stop : Stop) (answer : SessionAnswer)
        → InOrder acts xs stop answer → (s' : S) → SessionFrom may starting start s' xs stop answer
        → NeverBothWait goes_on [] [] acts
    never_both_wait acts xs stop answer h s' out =
        let all = acts_on h.passes_late [] xs starting out.last h.reached start out.after s' (starting, []) h.mid acts
        (length xs) stop answer refl out.reached out.stopped h.turns h.ends in
        subst (λ (l : List Act). NeverBothWait goes_on [] [] l) (sym all.1) all.2

-- replies of exchanges, as replies to all requests
all_replies : (xs : List Exchange) → AllReplied xs → RepliesToEach (requests_of (messages_of xs)) (sends_of xs)
all_replies [] all = tt
all_replies (x ∷ xs) all =
    rw (messages_both (x ∷ []) xs, filter_map-append request_id (messages_of (x ∷ [])) (messages_of xs)) (AllZip-append
    RepliesTo _ _ _ _ all.0 (all_replies xs all.1))

module _ {H : Type 0} (answers : H → Id → List ℕ → Data → Result Data ErrorObject → H → Type 0) (notes : H → List ℕ
    → Data → H → Type 0) (capabilities : Data) where
  -- so far a handler's session may be one to which no more comes
  so_far : (old new : H) (xs : List Exchange) (p : Phase) → Steps (of_handler answers notes capabilities) starting old
      xs p new → awaits p
      → SessionFrom (of_handler answers notes capabilities) starting old new xs no_more (answer_at_end p)
  so_far old new xs starting steps awaited = record {
    last = starting;
    after = new;
    reached = steps;
    stopped = (refl, refl);
  }
  so_far old new xs replied steps awaited = record {
    last = replied;
    after = new;
    reached = steps;
    stopped = (refl, refl);
  }
  so_far old new xs serving steps awaited = record {
    last = serving;
    after = new;
    reached = steps;
    stopped = (refl, refl);
  }
  so_far old new xs (asked i) steps awaited = record {
    last = asked i;
    after = new;
    reached = steps;
    stopped = (refl, refl);
  }
  so_far old new xs (broken fault) steps awaited = absurd awaited
  so_far old new xs (ended by) steps awaited = absurd awaited

  -- while a handler's session awaits something, each request has its reply
  pub replies_are_due : (old : H) (goes_on : Client) → WaitsForReplies goes_on → WaitsForItsDue (of_handler answers
      notes capabilities) old goes_on
  replies_are_due old goes_on waits = λ xs p new steps awaited.
      waits (messages_of xs) (sends_of xs) (elim (answers_in_order answers notes capabilities old new xs no_more
      (answer_at_end p) (so_far old new xs p steps awaited)).0 [
        | inl all ↦ all_replies xs all
        | inr last ↦ absurd (cc (last.decides))
      ])
