-- Runs over one value that are no session: over a list that notes its acts, in order, whatever comes later.
use Rattle.lsp_message.specs.Id.{Id}
use Rattle.lsp_message.specs.Message.{Message, ErrorObject, request, response}
use Rattle.lsp_message.specs.Methods.{is_exit}
use Rattle.lsp_session.proofs.ActsNoted.{waited_in, taken_noted, refused_noted, refused_grows, Grows, grows_both}
use Rattle.lsp_session.proofs.ActsNoted.{turns_grow, end_grows}
use Rattle.lsp_session.proofs.Driving.{asks_so}
use Rattle.lsp_session.proofs.Ran.{TurnCase, turn_case, whole, lost_reply, breaks, none_ended, no_one, row}
use Rattle.lsp_session.specs.Account.{Act, gave, took, lost, NotesReceive, NotesSend}
use Rattle.lsp_session.specs.Boxes.{Takes, is_timeout}
use Rattle.lsp_session.specs.Event.{Event, message, timeout, closed}
use Rattle.lsp_session.specs.HandlerSession.{of_handler}
use Rattle.lsp_session.specs.Prompt.{event_of, WaitsIn, AwaitsEnd, Refuses, Meets, Talks, any_wait}
use Rattle.lsp_session.specs.ProtocolError.{unexpected_in_shutdown}
use Rattle.lsp_session.specs.Replies.{null_reply, IsEarlyReply}
use Rattle.lsp_session.specs.Session.{Behavior, SessionAnswer, SessionPart, Exchange, Stop, decided, no_more, timed_out}
use Rattle.lsp_session.specs.Session.{refused, exhausted, Phase, starting, serving, asked, broken, ended}
use Rattle.lsp_session.specs.Session.{phase_after, is_initialize, is_served, Fails, Leaves, Step, Steps, TakesTurn}
use Rattle.lsp_session.specs.Session.{SessionFrom, any_service}
use Rattle.lsp_session.specs.declared.lifecycle.SendFault.{SendFault}
use Rattle.lsp_session.specs.declared.loops.handler.SessionEnd.TheVariants.{ShutDown}
use Rattle.serde_json.specs.Data.{Data}
use Rattle.std.proofs.Common.{◌≡◌, refl, sym, ◌∙◌, ap, subst, inl, inr, ◌⊎◌, ℕ, Bool, true, false, List, [], ◌∷◌, ◌++◌}
use Rattle.std.proofs.Common.{map, length, append_assoc, append-nil, Option, Some, None, codes}
use Rattle.std.specs.Bool.{MatchBool}
use Rattle.std.specs.List.{FoldsTo, list_all}
use Rattle.std.specs.Prelude.{Result, Ok, Err}
use Rattle.std.specs.Str.{bytes_eq}

-- ---- It waits twice, and says nothing for the first message.

module _ {S : Type 0} (may : Behavior S) (p : Phase) (ask : Message)
    (speaks : (s s' : S) (sent : List Message) (next : Phase) → Step may p s (Some ask) sent next s' → sent ≡ []
    → ⊥) where
  -- so something is offered for it
  offers_some : (s s' : S) (q : Phase) (x : Exchange) → TakesTurn may (p, s) x (q, s') → x.came ≡ Some ask
      → x.sent ≡ [] → x.not_sent ≡ None → ⊥
  offers_some s s' q x turn came silent none = at (turn_case may p q s s' x turn)
    where
      at : TurnCase may p s x q s' → ⊥
      at (whole is step) = speaks s s' x.sent q (rw came at step) silent
      at (lost_reply m i is next step) = let e : None ≡ Some m = sym none ∙ is in cc (e)
      at (breaks m more fault next is gone step other) = let e : None ≡ Some m = sym none ∙ is in cc (e)

  module _ (next : Event) (later : List Act) where
    -- it waits for the message, and then again
    abbrev pub twice : List Act
    twice = gave (message ask) ∷ gave next ∷ later

    begins : (passed : List Event) (event : Event) (rest : List Act) → list_all is_timeout passed ≡ true
        → map gave (passed ++ event ∷ []) ++ rest ≡ twice
        → (event ≡ message ask) × (rest ≡ gave next ∷ later)
    begins [] event rest all e = (cc (e), cc (e))
    begins (timeout ∷ passed) event rest all e = absurd (cc (e))
    begins (other ∷ passed) event rest all e = absurd (cc (all))

    asks : (came : Option Message) → event_of came ≡ message ask → came ≡ Some ask
    asks None e = absurd (cc (e))
    asks (Some m) e = cc

    -- after the first wait comes the second
    first_wait : (q : Phase) (event : Event) (met : List Act) → WaitsIn NotesReceive any_wait q [] event met
        → (more : Grows met twice) → (event ≡ message ask) × (more.0 ≡ gave next ∷ later)
    first_wait q event met waits more =
        let w = waited_in q event [] met waits in
        begins w.passed event more.0 w.only_timeouts (sym (more.1 ∙ ap (λ (l : List Act). l ++ more.0) w.are))

    -- nothing is sent in between
    sends_none : (q r : Phase) (event : Event) (output : List Message) (lost_one : Option Message)
        (met mid end : List Act) → WaitsIn NotesReceive any_wait q [] event met
        → FoldsTo (Takes NotesSend) met output mid → Refuses NotesReceive any_wait NotesSend lost_one r mid end
        → Grows end twice → (output ≡ []) × (lost_one ≡ None)
    sends_none q r event [] None met mid end waits taken refuses more = (refl, refl)
    sends_none q r event [] (Some m) met mid end waits taken refuses more =
        let grown : Grows met twice = (
          lost m ∷ more.0,
          more.1 ∙ ap (λ (l : List Act). l ++ more.0) (refused_noted m r mid end refuses) ∙ append_assoc mid (lost m
              ∷ []) more.0 ∙ ap (λ (l : List Act). l ++ lost m ∷ more.0) (sym taken),
        ) in
        let second : lost m ∷ more.0 ≡ gave next ∷ later = (first_wait q event met waits grown).1 in
        absurd (cc (second))
    sends_none q r event (m ∷ ms) lost_one met mid end waits taken refuses more =
        let rest = grows_both taken.0 mid twice (map took ms, taken_noted ms taken.0 mid taken.2) (grows_both mid end
        twice (refused_grows lost_one r mid end refuses) more) in
        let grown : Grows met twice = (
          took m ∷ rest.0,
          rest.1 ∙ ap (λ (l : List Act). l ++ rest.0) taken.1 ∙ append_assoc met (took m ∷ []) rest.0,
        ) in
        let second : took m ∷ rest.0 ≡ gave next ∷ later = (first_wait q event met waits grown).1 in
        absurd (cc (second))

    -- nothing was sent, and nothing came later
    waits_alone : (q : Phase) (event : Event) → WaitsIn NotesReceive any_wait q [] event twice → ⊥
    waits_alone q event waits =
        let second : [] ≡ gave next ∷ later = (first_wait q event twice waits ([], sym (append-nil twice))).1 in
        cc (second)

    pub waits_twice : (s s' : S) (answer : SessionAnswer) → Talks NotesReceive any_wait NotesSend p
        (SessionFrom may p s s') [] answer twice → ⊥
    waits_twice s s' answer talks = by_first talks.exchanges talks.history.turns talks.part.reached
        talks.history.ends
      where
        by_first : (xs : List Exchange) → FoldsTo (Meets NotesReceive any_wait NotesSend talks.history.passes_late)
            (p, []) xs (talks.history.reached, talks.history.mid)
            → Steps may p s xs talks.part.last talks.part.after
            → AwaitsEnd NotesReceive any_wait talks.history.reached (length xs) talks.stop talks.history.mid twice → ⊥
        by_first (x ∷ xs) turns steps ends =
            let more = grows_both turns.0.1 talks.history.mid twice (turns_grow talks.history.passes_late xs turns.0
            (talks.history.reached, talks.history.mid) turns.2) (end_grows talks.history.reached (length (x ∷ xs))
            talks.stop talks.history.mid twice ends) in
            let none = sends_none p turns.0.0 (event_of x.came) x.sent x.not_sent turns.1.met turns.1.mid turns.0.1
            turns.1.waited turns.1.taken turns.1.refuses more in
            let to_end = grows_both turns.1.met turns.1.mid twice (
              map took x.sent,
              taken_noted x.sent turns.1.met
                  turns.1.mid turns.1.taken,
            ) (grows_both turns.1.mid turns.0.1 twice (refused_grows x.not_sent turns.0.0
            turns.1.mid turns.0.1 turns.1.refuses) more) in
            let came = asks x.came (first_wait p (event_of x.came) turns.1.met turns.1.waited to_end).0 in
            offers_some s steps.0.1 steps.0.0 x steps.1 came none.0 none.1
        by_first [] turns steps ends = by_end talks.stop (subst (λ (a : Phase × List Act). AwaitsEnd NotesReceive
            any_wait a.0 0 talks.stop a.1 twice) (sym turns) ends)
          where
            by_end : (stop : Stop) → AwaitsEnd NotesReceive any_wait p 0 stop [] twice → ⊥
            by_end no_more (inl waits) = waits_alone p closed waits
            by_end no_more (inr all) = cc (all.1)
            by_end timed_out waits = waits_alone p timeout waits
            by_end exhausted waits = waits_alone p (event_of waits.0) waits.1
            by_end decided same = cc (same)
            by_end (refused fault) same = cc (same)

one_sent : (m : Message) (sent : List Message) → sent ≡ m ∷ [] → sent ≡ [] → ⊥
one_sent m sent one none = cc (one, none)

given_for : {S : Type 0} (may : Behavior S) (s s' : S) (m : Message) (sent : List Message) (next : Phase)
    → is_served m ≡ true
    → Step may serving s (Some m) sent next s' → may.outputs s m sent s'
given_for may s s' m sent next served step = let given : may.outputs s m sent s' × (next ≡ serving) = rw served at step
    in given.0

module _ {S : Type 0} (may : Behavior S) (s s' : S) (answer : SessionAnswer) (i : Id) (method : List ℕ) (params : Data)
    (next : Event) (later : List Act) where
  -- The first request gets no reply before something else is awaited: neither the result of `initialize` nor an error.
  pub first_reply_held : Talks NotesReceive any_wait NotesSend starting (SessionFrom may starting s s') [] answer
      (gave (message (request i method params)) ∷ gave next ∷ later) → ⊥
  first_reply_held = waits_twice may starting (request i method params) speaks next later s s' answer
    where
      speaks : (s s' : S) (sent : List Message) (next : Phase) → Step may starting s (Some (request i method params))
          sent next s' → sent ≡ [] → ⊥
      speaks s s' sent next step none = by_method (is_initialize (request i method params)) step
        where
          by_method : (b : Bool)
              → MatchBool b
              ((outcome : Result Data ErrorObject) × may.initializes s params outcome s' × (sent ≡ response i outcome
              ∷ []) × (next ≡ phase_after outcome))
              ((reply : Message) × IsEarlyReply i reply × (sent ≡ reply ∷ []) × (next ≡ starting) × (s' ≡ s)) → ⊥
          by_method true step = one_sent (response i step.0) sent step.2 none
          by_method false step = one_sent step.0 sent step.2 none

  -- `shutdown` gets no reply before `exit` is awaited.
  pub shutdown_reply_held : bytes_eq method (codes "shutdown") ≡ true
      → Talks NotesReceive any_wait NotesSend serving (SessionFrom may serving s s') [] answer
      (gave (message (request i method params)) ∷ gave next ∷ later) → ⊥
  shutdown_reply_held asks = waits_twice may serving (request i method params) speaks next later s s' answer
    where
      speaks : (s s' : S) (sent : List Message) (next : Phase) → Step may serving s (Some (request i method params))
          sent next s' → sent ≡ [] → ⊥
      speaks s s' sent next step none =
          let left : Leaves may s (request i method params) sent next s' = rw asks at step in
          no_one left.0 [] (null_reply i) (sym left.2 ∙ none)

  -- A service that says something for each request says nothing for one before something else is awaited.
  pub reply_held : is_served (request i method params) ≡ true
      → ((s s' : S) (sent : List Message) → may.outputs s (request i method params) sent s' → sent ≡ [] → ⊥)
      → Talks NotesReceive any_wait NotesSend serving (SessionFrom may serving s s') [] answer
      (gave (message (request i method params)) ∷ gave next ∷ later) → ⊥
  reply_held served gives = waits_twice may serving (request i method params) speaks next later s s' answer
    where
      speaks : (s s' : S) (sent : List Message) (next : Phase) → Step may serving s (Some (request i method params))
          sent next s' → sent ≡ [] → ⊥
      speaks s s' sent next step none =
          gives s s' sent (given_for may s s' (request i method params) sent next served step) none

-- ---- It passes over a response after `shutdown`.

-- A handler's session goes on after a message that came after `shutdown`, whatever that is.
pub handler_goes_on : {H : Type 0} (answers : H → Id → List ℕ → Data → Result Data ErrorObject → H → Type 0) (notes : H
    → List ℕ → Data → H → Type 0) (capabilities : Data)
    (i : Id) (h h' : H) (m : Message) (x y : Exchange) (more : List Exchange) (q : Phase) → x.came ≡ Some m
    → Steps (of_handler answers notes capabilities) (asked i) h (x ∷ y ∷ more) q h' → ⊥
handler_goes_on {H} answers notes capabilities i h h' m x y more q came steps =
    at (turn_case (of_handler answers notes capabilities) (asked i) steps.0.0 h steps.0.1 x steps.1)
  where
    over : (given : List Message) (next : Phase) (mid : H) → Step (of_handler answers notes capabilities) (asked i) h
        x.came given next mid → (given ≡ []) × ((by : SessionAnswer) × (next ≡ ended by))
    over given next mid step = by (is_exit m) (rw came at step).0
      where
        by : (b : Bool) → MatchBool b ((given ≡ []) × (next ≡ ended (Ok ShutDown)))
            (Fails unexpected_in_shutdown given next) → (given ≡ []) × ((by : SessionAnswer) × (next ≡ ended by))
        by true step = (step.0, (Ok ShutDown, step.1))
        by false step = (step.1, (Err (unexpected_in_shutdown step.0), step.2))

    at : TurnCase (of_handler answers notes capabilities) (asked i) h x steps.0.0 steps.0.1 → ⊥
    at (whole is step) =
        let ends = (over x.sent steps.0.0 steps.0.1 step).1 in
        let none = none_ended (of_handler answers notes capabilities) ends.0 q steps.0.1 h' (y ∷ more) (subst (λ
        (r : Phase). Steps (of_handler answers notes capabilities) r steps.0.1 (y ∷ more) q h') ends.1 steps.2) in
        cc (none.0)
    at (lost_reply n j is next step) = no_one x.sent [] n (over (x.sent ++ n ∷ []) (asked j) steps.0.1 step).0
    at (breaks n others fault next is gone step other) = no_one x.sent others n (over (x.sent ++ n ∷ others) next
        steps.0.1 step).0

-- ---- It goes on after a refused message.

none_in : (front rest : List Act) (act : Act) → ◌≡◌ {A = List Act} [] (front ++ act ∷ rest) → ⊥
none_in [] rest act e = cc (e)
none_in (a ∷ front) rest act e = cc (e)

-- of a list and one more act, an act stands in the list, or it is that one
push_split : (acts front rest : List Act) (a g : Act) → acts ++ a ∷ [] ≡ front ++ g ∷ rest
    → ((earlier : List Act) × (acts ≡ front ++ g ∷ earlier)) ⊎ ((a ≡ g) × (rest ≡ []))
push_split [] [] rest a g e = inr (cc (e), cc (e))
push_split [] (b ∷ front) rest a g e = let tails : [] ≡ front ++ g ∷ rest = cc (e) in absurd (none_in front rest g
    tails)
push_split (x ∷ acts) [] rest a g e = let same : x ≡ g = cc (e) in inl (acts, rw same refl)
push_split (x ∷ acts) (b ∷ front) rest a g e =
    let same : x ≡ b = cc (e) in
    let tails : acts ++ a ∷ [] ≡ front ++ g ∷ rest = cc (e) in
    elim (push_split acts front rest a g tails) [
      | inl more ↦ inl (more.0, rw (same, more.1) refl)
      | inr last ↦ inr last
    ]

last_same : (xs ys : List Message) (x y : Message) → xs ++ x ∷ [] ≡ ys ++ y ∷ [] → x ≡ y
last_same [] [] x y e = cc (e)
last_same [] (b ∷ []) x y e = absurd (cc (e))
last_same [] (b ∷ c ∷ ys) x y e = absurd (cc (e))
last_same (a ∷ []) [] x y e = absurd (cc (e))
last_same (a ∷ c ∷ xs) [] x y e = absurd (cc (e))
last_same (a ∷ xs) (b ∷ ys) x y e = last_same xs ys x y (cc (e))

-- a message that is no reply to `shutdown`
module _ (m : Message) (no_reply : (i : Id) → m ≡ null_reply i → ⊥) where
  -- it was not refused
  abbrev NotLost : List Act → Type 0
  NotLost acts = (front rest : List Act) → acts ≡ front ++ lost m ∷ rest → ⊥

  push : (old new : List Act) (a : Act) → NotLost old → new ≡ old ++ a ∷ [] → (a ≡ lost m → ⊥) → NotLost new
  push old new a all grown other = λ front rest e.
      elim (push_split old front rest a (lost m) (sym grown ∙ e)) [
        | inl more ↦ all front more.0 more.1
        | inr last ↦ other last.0
      ]

  received : (events : List Event) (old new : List Act) → FoldsTo NotesReceive old events new → NotLost old
      → NotLost new
  received [] old new run all = subst NotLost run all
  received (e ∷ events) old new run all = received events run.0 new run.2 (push old run.0 (gave e) all run.1 (λ is.
      cc (is)))

  taken : (ms : List Message) (old new : List Act) → FoldsTo (Takes NotesSend) old ms new → NotLost old → NotLost new
  taken [] old new run all = subst NotLost run all
  taken (n ∷ ms) old new run all = taken ms run.0 new run.2 (push old run.0 (took n) all run.1 (λ is. cc (is)))

  awaited : (p : Phase) (event : Event) (old new : List Act) → WaitsIn NotesReceive any_wait p old event new
      → NotLost old → NotLost new
  awaited (asked i) event old new waits all = push old new (gave event) all waits (λ is. cc (is))
  awaited (broken fault) event old new waits all = absurd waits
  awaited (ended by) event old new waits all = absurd waits
  awaited p event old new waits all = received (waits.0.passed ++ event ∷ []) old new waits.0.received all

  -- a message was refused, and that ended the session
  abbrev LastLost : Phase × List Act → Type 0
  LastLost a = (fault : SendFault) × (a.0 ≡ broken fault) × (earlier : List Act) × (n : Message)
      × (a.1 ≡ earlier ++ lost n ∷ []) × NotLost earlier

  over : (passes : Bool) (fault : SendFault) (xs : List Exchange) (r new : Phase × List Act) → r.0 ≡ broken fault
      → FoldsTo (Meets NotesReceive any_wait NotesSend passes) r xs new → r ≡ new
  over passes fault [] r new is run = run
  over passes fault (x ∷ xs) r new is run =
      let turn = run.1.turn in
      absurd (subst (λ (p : Phase). Step (any_service passes) p tt x.came turn.given turn.next tt) is turn.step)

  turned : (passes : Bool) (xs : List Exchange) (old new : Phase × List Act) → NotLost old.1
      → FoldsTo (Meets NotesReceive any_wait NotesSend passes) old xs new → NotLost new.1 ⊎ LastLost new
  turned passes [] old new all run = inl (subst (λ (a : Phase × List Act). NotLost a.1) run all)
  turned passes (x ∷ xs) old new all run =
      at (λ fine. turned passes xs run.0 new fine run.2) (turn_case (any_service passes) old.0 run.0.0 tt tt x
      run.1.turn)
    where
      so_far : NotLost run.1.mid
      so_far = taken x.sent run.1.met run.1.mid run.1.taken (awaited old.0 (event_of x.came) old.1 run.1.met
          run.1.waited all)

      refuses_at : (lost_one : Option Message) → x.not_sent ≡ lost_one
          → Refuses NotesReceive any_wait NotesSend lost_one
          run.0.0 run.1.mid run.0.1
      refuses_at lost_one is = subst (λ (l : Option Message). Refuses NotesReceive any_wait NotesSend l run.0.0
          run.1.mid run.0.1) is run.1.refuses

      at : (NotLost run.0.1 → NotLost new.1 ⊎ LastLost new) → TurnCase (any_service passes) old.0 tt x run.0.0 tt
          → NotLost new.1 ⊎ LastLost new
      at by (whole is step) = by (subst NotLost (sym (refuses_at None is)) so_far)
      at by (lost_reply n i is next step) =
          let null : (n ≡ null_reply i) = elim (asks_so (any_service passes) old.0 tt tt x.came (x.sent ++ n ∷ []) i
          (row
          (any_service passes) old.0 (asked i) tt tt x.came (x.sent ++ n ∷ []) step)) [
            | inl silent ↦ absurd (no_one x.sent [] n silent)
            | inr asks ↦ last_same x.sent asks.1 n (null_reply i) asks.2
          ] in
          by (push run.1.mid run.0.1 (lost n) so_far (refused_noted n run.0.0 run.1.mid run.0.1
          (refuses_at (Some n) is)) (λ is. let same : n ≡ m = cc (is) in no_reply i (sym same ∙ null)))
      at by (breaks n more fault next is gone step other) =
          let same = over passes fault xs run.0 new gone run.2 in
          inr (subst (λ (a : Phase × List Act). LastLost a) same (
            fault,
            gone,
            run.1.mid,
            n,
            refused_noted n run.0.0 run.1.mid run.0.1 (refuses_at (Some n) is),
            so_far,
          ))

  module _ (before : List Act) (act : Act) (later : List Act) where
    -- the message is refused, and something is done after that
    abbrev pub goes_on : List Act
    goes_on = before ++ lost m ∷ act ∷ later

    not_last : (earlier : List Act) (n : Message) → NotLost earlier → goes_on ≡ earlier ++ lost n ∷ [] → ⊥
    not_last earlier n all e = elim (push_split earlier before (act ∷ later) (lost n) (lost m) (sym e)) [
      | inl more ↦ all before more.0 more.1
      | inr last ↦ cc (last.1)
    ]

    -- Nothing is awaited and nothing is sent after a message that was refused, but after a reply to `shutdown`.
    pub goes_on_after_refusal : (phase : Phase) (P : SessionPart) (answer : SessionAnswer)
        → Talks NotesReceive any_wait NotesSend phase P [] answer goes_on → ⊥
    goes_on_after_refusal phase P answer talks =
        elim (turned talks.history.passes_late talks.exchanges (phase, []) (talks.history.reached, talks.history.mid)
        (λ front rest e. none_in front rest (lost m) e) talks.history.turns) [
          | inl all ↦ still talks.history.reached talks.stop talks.history.ends all
          | inr last ↦ not_last last.2 last.3 last.5 (ended_there last.0 last.1 talks.stop talks.history.ends ∙ last.4)
        ]
      where
        still : (p : Phase) (stop : Stop) → AwaitsEnd NotesReceive any_wait p (length talks.exchanges) stop
            talks.history.mid goes_on → NotLost talks.history.mid → ⊥
        still p no_more (inl waits) all = awaited p closed talks.history.mid goes_on waits all before (act ∷ later) refl
        still p no_more (inr same) all = all before (act ∷ later) (sym same.1)
        still p timed_out waits all = awaited p timeout talks.history.mid goes_on waits all before (act ∷ later) refl
        still p exhausted waits all = awaited p (event_of waits.0) talks.history.mid goes_on waits.1 all before (act
            ∷ later) refl
        still p decided same all = all before (act ∷ later) (sym same)
        still p (refused fault) same all = all before (act ∷ later) (sym same)

        ended_there : (fault : SendFault) → talks.history.reached ≡ broken fault → (stop : Stop)
            → AwaitsEnd NotesReceive any_wait talks.history.reached (length talks.exchanges) stop talks.history.mid
            goes_on → goes_on ≡ talks.history.mid
        ended_there fault is no_more (inl waits) = absurd (subst (λ (p : Phase). WaitsIn NotesReceive any_wait p
            talks.history.mid closed goes_on) is waits)
        ended_there fault is no_more (inr same) = same.1
        ended_there fault is timed_out waits = absurd (subst (λ (p : Phase). WaitsIn NotesReceive any_wait p
            talks.history.mid timeout goes_on) is waits)
        ended_there fault is exhausted waits = absurd (subst (λ (p : Phase). WaitsIn NotesReceive any_wait p
            talks.history.mid (event_of waits.0) goes_on) is waits.1)
        ended_there fault is decided same = same
        ended_there fault is (refused by) same = same
