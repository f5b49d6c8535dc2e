-- What a list of acts notes in a session: each turn and the end add acts to it.
use Rattle.lsp_message.specs.Message.{Message}
use Rattle.lsp_session.specs.Account.{Act, gave, took, lost, NotesReceive, NotesSend}
use Rattle.lsp_session.specs.Boxes.{Takes, is_timeout}
use Rattle.lsp_session.specs.Event.{Event, timeout, closed}
use Rattle.lsp_session.specs.Prompt.{event_of, WaitsIn, AwaitsEnd, Refuses, Meets, any_wait}
use Rattle.lsp_session.specs.Session.{Exchange, Stop, decided, no_more, timed_out, refused, exhausted, Phase, starting}
use Rattle.lsp_session.specs.Session.{replied, serving, asked, broken, ended}
use Rattle.std.proofs.Common.{◌≡◌, refl, sym, ◌∙◌, ap, inl, inr, ℕ, Bool, true, List, [], ◌∷◌, ◌++◌, map, append_assoc}
use Rattle.std.proofs.Common.{append-nil, Option, Some, None}
use Rattle.std.specs.List.{FoldsTo, list_all}

pub noted : (events : List Event) (old new : List Act) → FoldsTo NotesReceive old events new
    → new ≡ old ++ map gave events
noted [] old new run = sym run ∙ sym (append-nil old)
noted (e ∷ events) old new run =
    noted events run.0 new run.2 ∙ ap (λ (l : List Act). l ++ map gave events) run.1
    ∙ append_assoc old (gave e ∷ []) (map gave events)

pub taken_noted : (ms : List Message) (old new : List Act) → FoldsTo (Takes NotesSend) old ms new
    → new ≡ old ++ map took ms
taken_noted [] old new run = sym run ∙ sym (append-nil old)
taken_noted (m ∷ ms) old new run =
    taken_noted ms run.0 new run.2 ∙ ap (λ (l : List Act). l ++ map took ms) run.1
    ∙ append_assoc old (took m ∷ []) (map took ms)

pub refused_noted : (m : Message) (p : Phase) (old new : List Act)
    → Refuses NotesReceive any_wait NotesSend (Some m) p old new → new ≡ old ++ lost m ∷ []
refused_noted m (broken fault) old new refuses = refuses
refused_noted m starting old new refuses = refuses.1
refused_noted m replied old new refuses = refuses.1
refused_noted m serving old new refuses = refuses.1
refused_noted m (asked i) old new refuses = refuses.1
refused_noted m (ended by) old new refuses = refuses.1

-- an event came, behind timeouts
pub record Waited (event : Event) (old new : List Act) : Type 0 where
  pub passed : List Event
  pub only_timeouts : list_all is_timeout passed ≡ true
  pub are : new ≡ old ++ map gave (passed ++ event ∷ [])

pub waited_in : (p : Phase) (event : Event) (old new : List Act) → WaitsIn NotesReceive any_wait p old event new
    → Waited event old new
waited_in (asked i) event old new waits = record { passed = []; only_timeouts = refl; are = waits }
waited_in (broken fault) event old new waits = absurd waits
waited_in (ended by) event old new waits = absurd waits
waited_in p event old new waits = record {
  passed = waits.0.passed;
  only_timeouts = waits.0.only_timeouts;
  are = noted (waits.0.passed ++ event ∷ []) old new waits.0.received;
}

-- the account grows
abbrev pub Grows : List Act → List Act → Type 0
Grows old new = (more : List Act) × (new ≡ old ++ more)

pub grows_both : (old mid new : List Act) → Grows old mid → Grows mid new → Grows old new
grows_both old mid new first more = (
  first.0 ++ more.0,
  more.1 ∙ ap (λ (l : List Act). l ++ more.0) first.1 ∙ append_assoc old first.0 more.0,
)

grows_none : (old new : List Act) → new ≡ old → Grows old new
grows_none old new same = ([], same ∙ sym (append-nil old))

pub refused_grows : (lost_one : Option Message) (p : Phase) (old new : List Act)
    → Refuses NotesReceive any_wait NotesSend lost_one p old new → Grows old new
refused_grows None p old new same = grows_none old new same
refused_grows (Some m) p old new refuses = (lost m ∷ [], refused_noted m p old new refuses)

-- after a message came, what is sent for it is added
pub rest_grows : (passes : Bool) (x : Exchange) (old new : Phase × List Act)
    (meets : Meets NotesReceive any_wait NotesSend passes old x new) → Grows meets.met new.1
rest_grows passes x old new meets = grows_both meets.met meets.mid new.1 (
  map took x.sent,
  taken_noted x.sent meets.met meets.mid meets.taken,
) (refused_grows x.not_sent new.0 meets.mid new.1 meets.refuses)

waited_grows : (p : Phase) (event : Event) (old new : List Act) → WaitsIn NotesReceive any_wait p old event new
    → Grows old new
waited_grows p event old new waits = let w = waited_in p event old new waits in
    (map gave (w.passed ++ event ∷ []), w.are)

pub turns_grow : (passes : Bool) (xs : List Exchange) (old new : Phase × List Act)
    → FoldsTo (Meets NotesReceive any_wait NotesSend passes) old xs new → Grows old.1 new.1
turns_grow passes [] old new run = grows_none old.1 new.1 (ap (λ (a : Phase × List Act). a.1) (sym run))
turns_grow passes (x ∷ xs) old new run =
    grows_both old.1 run.1.met new.1 (waited_grows old.0 (event_of x.came) old.1 run.1.met run.1.waited)
    (grows_both run.1.met run.0.1 new.1 (rest_grows passes x old run.0 run.1) (turns_grow passes xs run.0 new run.2))

pub end_grows : (p : Phase) (count : ℕ) (stop : Stop) (old new : List Act)
    → AwaitsEnd NotesReceive any_wait p count stop old new → Grows old new
end_grows p count no_more old new (inl waits) = waited_grows p closed old new waits
end_grows p count no_more old new (inr all) = grows_none old new all.1
end_grows p count timed_out old new waits = waited_grows p timeout old new waits
end_grows p count exhausted old new waits = waited_grows p (event_of waits.0) old new waits.1
end_grows p count decided old new same = grows_none old new same
end_grows p count (refused fault) old new same = grows_none old new same
