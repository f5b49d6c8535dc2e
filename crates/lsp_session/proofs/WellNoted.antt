-- What the acts of a session note: which messages came, which were offered and which of them were refused.
use Rattle.lsp_message.specs.Message.{Message}
use Rattle.lsp_session.proofs.ActsNoted.{Waited, waited_in, taken_noted, refused_noted}
use Rattle.lsp_session.specs.Account.{Act, gave, took, lost, NotesReceive, NotesSend, InOrder}
use Rattle.lsp_session.specs.Boxes.{is_timeout}
use Rattle.lsp_session.specs.Event.{Event, message, timeout, closed, woken}
use Rattle.lsp_session.specs.Prompt.{event_of, AwaitsEnd, Refuses, Meets, any_wait}
use Rattle.lsp_session.specs.Session.{Exchange, Stop, decided, no_more, timed_out, refused, exhausted, Phase, starting}
use Rattle.lsp_session.specs.Session.{messages_of, sends_of, and_refused, offered, SessionAnswer}
use Rattle.std.proofs.Common.{◌≡◌, refl, sym, ◌∙◌, ap, subst, inl, inr, ℕ, Bool, true, List, [], ◌∷◌, ◌++◌, map}
use Rattle.std.proofs.Common.{append_assoc, append-nil, Option, Some, None, length}
use Rattle.std.proofs.lemmas.Grind.{flat_map-append}
use Rattle.std.proofs.lemmas.List.{map-append}
use Rattle.std.specs.List.{FoldsTo, list_all, flat_map, cons_option}

abbrev pub came_at : Act → List Message
came_at (gave (message m)) = m ∷ []
came_at act = []

abbrev pub offered_at : Act → List Message
offered_at (gave event) = []
offered_at (took m) = m ∷ []
offered_at (lost m) = m ∷ []

abbrev pub lost_at : Act → List Message
lost_at (lost m) = m ∷ []
lost_at act = []

abbrev pub closed_at : Act → List Event
closed_at (gave closed) = closed ∷ []
closed_at act = []

-- the acts of exchanges, without timeouts
abbrev pub lost_acts : Option Message → List Act
lost_acts None = []
lost_acts (Some m) = lost m ∷ []

abbrev pub acts_of : Exchange → List Act
acts_of x = gave (event_of x.came) ∷ (map took x.sent ++ lost_acts x.not_sent)

-- the outbox took all
abbrev pub AllTaken : List Exchange → Type 0
AllTaken [] = Unit {0}
AllTaken (x ∷ xs) = (x.not_sent ≡ None) × AllTaken xs

-- the session stopped at a message, or as no more came
abbrev pub StopsWell : Stop → Type 0
StopsWell decided = Unit {0}
StopsWell no_more = Unit {0}
StopsWell stop = ⊥

module _ {A : Type 0} (f : Act → List A) (passes : f (gave timeout) ≡ []) where
  of_timeouts : (events : List Event) → list_all is_timeout events ≡ true → flat_map f (map gave events) ≡ []
  of_timeouts [] all = refl
  of_timeouts (timeout ∷ events) all = ap (λ l. l ++ flat_map f (map gave events)) passes ∙ of_timeouts events all
  of_timeouts (message m ∷ events) all = absurd (cc (all))
  of_timeouts (closed ∷ events) all = absurd (cc (all))
  of_timeouts (woken ∷ events) all = absurd (cc (all))

  of_wait : (event : Event) (old new : List Act) → Waited event old new → flat_map f new ≡ flat_map f old ++ flat_map f
      (gave event ∷ [])
  of_wait event old new w =
      ap (flat_map f) w.are ∙ flat_map-append f old (map gave (w.passed ++ event ∷ []))
      ∙ ap (λ l. flat_map f old ++ l) (ap (flat_map f) (map-append gave w.passed (event ∷ []))
      ∙ flat_map-append f (map gave w.passed) (gave event ∷ [])
      ∙ ap (λ l. l ++ flat_map f (gave event ∷ [])) (of_timeouts w.passed w.only_timeouts))

  of_refusal : (n : Option Message) (p : Phase) (old new : List Act) → Refuses NotesReceive any_wait NotesSend n p old
      new → new ≡ old ++ lost_acts n
  of_refusal None p old new same = same ∙ sym (append-nil old)
  of_refusal (Some m) p old new refuses = refused_noted m p old new refuses

  of_turn : (passes_late : Bool) (x : Exchange) (old new : Phase × List Act) → Meets NotesReceive any_wait NotesSend
      passes_late old x new → flat_map f new.1 ≡ flat_map f old.1 ++ flat_map f (acts_of x)
  of_turn passes_late x old new meets =
      let e = gave (event_of x.came) ∷ [] in
      let t = map took x.sent in
      let l = lost_acts x.not_sent in
      let first = of_wait (event_of x.came) old.1 meets.met (waited_in old.0 (event_of x.came) old.1 meets.met
      meets.waited) in
      let second : flat_map f meets.mid ≡ flat_map f meets.met ++ flat_map f t = ap (flat_map f)
      (taken_noted x.sent meets.met meets.mid meets.taken) ∙ flat_map-append f meets.met t in
      let third : flat_map f new.1 ≡ flat_map f meets.mid ++ flat_map f l = ap (flat_map f)
      (of_refusal x.not_sent new.0 meets.mid new.1 meets.refuses) ∙ flat_map-append f meets.mid l in
      let all : flat_map f (acts_of x) ≡ flat_map f e ++ (flat_map f t ++ flat_map f l) =
      flat_map-append f e (t ++ l) ∙ ap (λ a. flat_map f e ++ a) (flat_map-append f t l) in
      third ∙ ap (λ a. a ++ flat_map f l) (second ∙ ap (λ a. a ++ flat_map f t) first)
      ∙ append_assoc (flat_map f old.1 ++ flat_map f e) (flat_map f t) (flat_map f l)
      ∙ append_assoc (flat_map f old.1) (flat_map f e) (flat_map f t ++ flat_map f l)
      ∙ ap (λ a. flat_map f old.1 ++ a) (sym all)

  of_turns : (passes_late : Bool) (xs : List Exchange) (old new : Phase × List Act) → FoldsTo (Meets NotesReceive
      any_wait NotesSend passes_late) old xs new → flat_map f new.1 ≡ flat_map f old.1 ++ flat_map f (flat_map
      acts_of xs)
  of_turns passes_late [] old new run = ap (λ (a : Phase × List Act). flat_map f a.1) (sym run)
      ∙ sym (append-nil (flat_map f old.1))
  of_turns passes_late (x ∷ xs) old new run =
      of_turns passes_late xs run.0 new run.2
      ∙ ap (λ a. a ++ flat_map f (flat_map acts_of xs)) (of_turn passes_late x old run.0 run.1)
      ∙ append_assoc (flat_map f old.1) (flat_map f (acts_of x)) (flat_map f (flat_map acts_of xs))
      ∙ ap (λ a. flat_map f old.1 ++ a) (sym (flat_map-append f (acts_of x) (flat_map acts_of xs)))

  -- the end
  of_decided : (p : Phase) (count : ℕ) (old new : List Act) → AwaitsEnd NotesReceive any_wait p count decided old new
      → flat_map f new ≡ flat_map f old
  of_decided p count old new same = ap (flat_map f) same

  of_end : f (gave closed) ≡ [] → (p : Phase) (count : ℕ) (stop : Stop) (old new : List Act) → StopsWell stop
      → AwaitsEnd NotesReceive any_wait p count stop old new → flat_map f new ≡ flat_map f old
  of_end none p count decided old new well same = ap (flat_map f) same
  of_end none p count no_more old new well (inl waits) =
      of_wait closed old new (waited_in p closed old new waits)
      ∙ ap (λ l. flat_map f old ++ (l ++ [])) none ∙ append-nil (flat_map f old)
  of_end none p count no_more old new well (inr all) = ap (flat_map f) all.1
  of_end none p count timed_out old new well ends = absurd well
  of_end none p count (refused fault) old new well ends = absurd well
  of_end none p count exhausted old new well ends = absurd well

  -- what is noted of all acts
  pub of_all : f (gave closed) ≡ [] → (acts : List Act) (xs : List Exchange) (stop : Stop) (answer : SessionAnswer)
      → StopsWell stop → InOrder acts xs stop answer → flat_map f acts ≡ flat_map f (flat_map acts_of xs)
  of_all none acts xs stop answer well h =
      of_end none h.reached (length xs) stop h.mid acts well h.ends
      ∙ of_turns h.passes_late xs (starting, []) (h.reached, h.mid) h.turns

  pub of_deciding : (acts : List Act) (xs : List Exchange) (stop : Stop) (answer : SessionAnswer) → stop ≡ decided
      → InOrder acts xs stop answer → flat_map f acts ≡ flat_map f (flat_map acts_of xs)
  of_deciding acts xs stop answer is h =
      of_decided h.reached (length xs) h.mid acts (subst (λ s. AwaitsEnd NotesReceive any_wait h.reached (length xs) s
      h.mid acts) is h.ends)
      ∙ of_turns h.passes_late xs (starting, []) (h.reached, h.mid) h.turns

-- ---- the messages that came

came_took : (ms : List Message) → flat_map came_at (map took ms) ≡ []
came_took [] = refl
came_took (m ∷ ms) = came_took ms

came_lost : (n : Option Message) → flat_map came_at (lost_acts n) ≡ []
came_lost None = refl
came_lost (Some m) = refl

came_event : (c : Option Message) (rest : List Message) → came_at (gave (event_of c)) ++ rest ≡ cons_option c rest
came_event None rest = refl
came_event (Some m) rest = refl

pub came_is : (xs : List Exchange) → flat_map came_at (flat_map acts_of xs) ≡ messages_of xs
came_is [] = refl
came_is (x ∷ xs) =
    flat_map-append came_at (acts_of x) (flat_map acts_of xs)
    ∙ ap (λ l. (came_at (gave (event_of x.came)) ++ l) ++ flat_map came_at (flat_map acts_of xs))
    (flat_map-append came_at (map took x.sent) (lost_acts x.not_sent)
    ∙ ap (λ l. l ++ flat_map came_at (lost_acts x.not_sent)) (came_took x.sent) ∙ came_lost x.not_sent)
    ∙ append_assoc (came_at (gave (event_of x.came))) [] (flat_map came_at (flat_map acts_of xs))
    ∙ ap (λ l. came_at (gave (event_of x.came)) ++ l) (came_is xs)
    ∙ came_event x.came (messages_of xs)

-- ---- the messages that were offered

offered_took : (ms : List Message) → flat_map offered_at (map took ms) ≡ ms
offered_took [] = refl
offered_took (m ∷ ms) = ap (λ l. m ∷ l) (offered_took ms)

offered_all : (ms : List Message) (n : Option Message) → ms ++ flat_map offered_at (lost_acts n) ≡ and_refused ms n
offered_all ms None = append-nil ms
offered_all ms (Some m) = refl

pub offered_is : (xs : List Exchange) → flat_map offered_at (flat_map acts_of xs) ≡ sends_of xs
offered_is [] = refl
offered_is (x ∷ xs) =
    flat_map-append offered_at (acts_of x) (flat_map acts_of xs)
    ∙ ap (λ l. l ++ flat_map offered_at (flat_map acts_of xs)) (flat_map-append offered_at (map took x.sent)
    (lost_acts x.not_sent) ∙ ap (λ l. l ++ flat_map offered_at (lost_acts x.not_sent)) (offered_took x.sent)
    ∙ offered_all x.sent x.not_sent)
    ∙ ap (λ l. offered x ++ l) (offered_is xs)

-- ---- the messages that were refused

lost_none : (n : Option Message) (rest : List Message) → flat_map lost_at (lost_acts n) ++ rest ≡ [] → (n ≡ None)
    × (rest ≡ [])
lost_none None rest none = (refl, none)
lost_none (Some m) rest none = absurd (cc (none))

lost_took : (ms : List Message) → flat_map lost_at (map took ms) ≡ []
lost_took [] = refl
lost_took (m ∷ ms) = lost_took ms

pub none_lost : (xs : List Exchange) → flat_map lost_at (flat_map acts_of xs) ≡ [] → AllTaken xs
none_lost [] none = tt
none_lost (x ∷ xs) none =
    let split : flat_map lost_at (flat_map acts_of (x ∷ xs)) ≡ flat_map lost_at (lost_acts x.not_sent) ++ flat_map
    lost_at (flat_map acts_of xs) = flat_map-append lost_at (acts_of x) (flat_map acts_of xs)
    ∙ ap (λ l. l ++ flat_map lost_at (flat_map acts_of xs)) (flat_map-append lost_at (map took x.sent)
    (lost_acts x.not_sent) ∙ ap (λ l. l ++ flat_map lost_at (lost_acts x.not_sent)) (lost_took x.sent)) in
    let parts = lost_none x.not_sent (flat_map lost_at (flat_map acts_of xs)) (sym split ∙ none) in
    (parts.0, none_lost xs parts.1)

-- ---- no exchange closes

closed_took : (ms : List Message) → flat_map closed_at (map took ms) ≡ []
closed_took [] = refl
closed_took (m ∷ ms) = closed_took ms

closed_lost : (n : Option Message) → flat_map closed_at (lost_acts n) ≡ []
closed_lost None = refl
closed_lost (Some m) = refl

closed_event : (c : Option Message) → closed_at (gave (event_of c)) ≡ []
closed_event None = refl
closed_event (Some m) = refl

pub none_closed : (xs : List Exchange) → flat_map closed_at (flat_map acts_of xs) ≡ []
none_closed [] = refl
none_closed (x ∷ xs) =
    flat_map-append closed_at (acts_of x) (flat_map acts_of xs)
    ∙ ap (λ l. l ++ flat_map closed_at (flat_map acts_of xs))
    (ap (λ l. l ++ flat_map closed_at (map took x.sent ++ lost_acts x.not_sent)) (closed_event x.came)
    ∙ flat_map-append closed_at (map took x.sent) (lost_acts x.not_sent)
    ∙ ap (λ l. l ++ flat_map closed_at (lost_acts x.not_sent)) (closed_took x.sent) ∙ closed_lost x.not_sent)
    ∙ none_closed xs
