-- Runs that the law of keys refuses: the server hears of a job that was never started, or of one that has ended.
use Rattle.std.proofs.Common.{◌≡◌, refl, sym, ◌∙◌, ap, subst, inl, inr, Bool, true, false, cond, List, [], ◌∷◌, ◌++◌}
use Rattle.std.proofs.Common.{append_assoc, Option, Some, None}
use Rattle.std.specs.Prelude.{is_some, IsSome}
use Rattle.lsp_message.specs.Id.{Id, same_id}
use Rattle.lsp_message.specs.IdLaws.{id_decides}
use Rattle.lsp_message.specs.Message.{Message}
use Rattle.lsp_session.specs.Session.{Exchange}
use Rattle.lsp_acts.specs.Acts.{Act}
use Rattle.lsp_acts.specs.Law.{Call}
use Rattle.lsp_acts.specs.declared.server.Server.{Ghosts as Plain}
use Rattle.lsp_jobs.proofs.KeyChanges.{after-append, others_keep}
use Rattle.lsp_jobs.proofs.KeyTurns.{keys_more}
use Rattle.lsp_jobs.specs.KeyedJobLaw.{AreTurns, Becomes, IsCalled, IsIn, IsTurn, LeavesAlone, KeyHistory, Stands}
use Rattle.lsp_jobs.specs.KeyedJobLaw.{StartsLast, TakeTurns, Turn, WakeDoes, after_event, after_events, heard_in}
use Rattle.lsp_jobs.specs.KeyedJobLaw.{keys_after}
use Rattle.lsp_jobs.specs.KeyedJobLaw.{KeyEvent, starts, ends_heard, ends_left}
use Rattle.lsp_jobs.specs.Stated.{StatedJobs}
use Rattle.lsp_jobs.specs.declared.asking.RequestOrigin.{RequestOrigin}
use Rattle.lsp_jobs.specs.declared.names.JobName.{JobName}
use Rattle.lsp_jobs.specs.declared.names.JobName.TheVariants.{Request, Keyed}

module _ {S J F P : Type 0} (may : StatedJobs S J F P) where
  -- no job starts under this key
  abbrev NoStart : Id → List (KeyEvent may) → Type 0
  NoStart key [] = Unit {0}
  NoStart key (starts s job ∷ events) = (same_id key s ≡ false) × NoStart key events
  NoStart key (event ∷ events) = NoStart key events

  stays_free : (key : Id) (events : List (KeyEvent may)) → NoStart key events → (keys : Id → Option J)
      → keys key ≡ None → after_events may keys events key ≡ None
  stays_free key [] none keys free = free
  stays_free key (starts s job ∷ events) none keys free =
      stays_free key events none.1 (after_event may keys (starts s job))
      (ap (λ (b : Bool). cond b (Some job) (keys key)) none.0 ∙ free)
  stays_free key (ends_heard s ∷ events) none keys free =
      stays_free key events none (after_event may keys (ends_heard s)) (still (same_id key s))
    where
      still : (b : Bool) → cond b None (keys key) ≡ None
      still true = refl
      still false = free
  stays_free key (ends_left l ∷ events) none keys free =
      stays_free key events none (after_event may keys (ends_left l)) (still (same_id key l.key))
    where
      still : (b : Bool) → cond b None (keys key) ≡ None
      still true = refl
      still false = free

  later_turns : (keys : Id → Option J) (xs ys : List (KeyEvent may)) → TakeTurns may keys (xs ++ ys)
      → TakeTurns may (after_events may keys xs) ys
  later_turns keys [] ys turns = turns
  later_turns keys (x ∷ xs) ys turns = later_turns (after_event may keys x) xs ys turns.1

  -- the server hears twice of a key under which one job was started
  pub heard_twice : (keys : Id → Option J) (before between after : List (KeyEvent may)) (key : Id)
      → NoStart key between
      → TakeTurns may keys (before ++ (ends_heard key ∷ (between ++ ends_heard key ∷ after))) → ⊥
  heard_twice keys before between after key none turns =
      let first = after_events may keys before in
      let free = after_event may first (ends_heard key) in
      let rest = later_turns keys before (ends_heard key ∷ (between ++ ends_heard key ∷ after)) turns in
      let again = later_turns free between (ends_heard key ∷ after) rest.1 in
      let gone = stays_free key between none free
      (ap (λ (b : Bool). cond b None (first key)) ((id_decides key key).1 refl)) in
      let no : false ≡ true = sym (ap (λ (o : Option J). is_some o) gone) ∙ again.0 in
      absurd (cc (no))

module _ {S J F P : Type 0} (plain : Plain S P) (may : StatedJobs S J F P) where
  abbrev Has : Turn plain may → List (Turn plain may) → Type 0
  Has t turns = (before : List (Turn plain may)) × (after : List (Turn plain may)) × (turns ≡ before ++ t ∷ after)

  turn_at : (start now : S) (before since : List (Turn plain may)) (t : Turn plain may)
      → AreTurns plain may start (before ++ t ∷ since) now → IsTurn plain may t
  turn_at start now [] since t are = are.1
  turn_at start now (b ∷ before) since t are = turn_at b.new now before since t are.2

  -- at a wake at which nothing is heard the server stays as it is
  unheard : (t : Turn plain may) → t.call.came ≡ None → t.heard ≡ None → IsTurn plain may t → t.new ≡ t.old
  unheard t woken none (inl called) =
      let e = subst (λ (l : Option Message). IsCalled plain may t.old l t.heard called.0 t.asked) woken called.1 in
      let no : Some e.0 ≡ None = sym e.5 ∙ none in
      absurd (cc (no))
  unheard t woken none (inr passed) = passed.3

  -- the server changes at a wake, and no job stands
  pub hears_nobody : (earlier : List (Turn plain may)) (t : Turn plain may) → t.call.came ≡ None
      → ((name : JobName) (job : J) → Stands plain may earlier name job → ⊥) → IsTurn plain may t
      → WakeDoes plain may earlier t → (t.new ≡ t.old → ⊥) → ⊥
  hears_nobody earlier t woken nobody is (inl nothing) changed = changed (unheard t woken nothing.1 is)
  hears_nobody earlier t woken nobody is (inr (inl w)) changed = nobody w.0 w.1 w.2
  hears_nobody earlier t woken nobody is (inr (inr c)) changed = changed (unheard t woken c.2 is)

  -- the same of a whole run, in which no job was ever started or given
  pub hears_unstarted : (start : S) (opening : Exchange) (begun : List (Act (RequestOrigin P)))
      (calls : List (Call (RequestOrigin P))) (history : KeyHistory plain may start opening begun calls)
      → ((t : Turn plain may) (key : Id) (job : J) → Has t history.turns → StartsLast t.changes key job → ⊥)
      → ((t : Turn plain may) (job : J) → Has t history.turns → t.given ≡ Some job → ⊥)
      → (earlier later : List (Turn plain may)) (t : Turn plain may) → history.turns ≡ earlier ++ t ∷ later
      → t.call.came ≡ None → (t.new ≡ t.old → ⊥) → ⊥
  hears_unstarted start opening begun calls history unstarted ungiven earlier later t cut woken changed =
      hears_nobody earlier t woken nobody
      (turn_at start history.last earlier later t
      (subst (λ (ts : List (Turn plain may)). AreTurns plain may start ts history.last) cut history.linked))
      (history.wakes earlier later t cut woken) changed
    where
      place : (before since : List (Turn plain may)) (u : Turn plain may) → earlier ≡ before ++ u ∷ since
          → Has u history.turns
      place before since u at = (
        before,
        since ++ t ∷ later,
        cut ∙ ap (λ (ts : List (Turn plain may)). ts ++ t ∷ later) at ∙ append_assoc before (u ∷ since) (t ∷ later),
      )

      nobody : (name : JobName) (job : J) → Stands plain may earlier name job → ⊥
      nobody (Keyed key) job there =
          let l = there.last in unstarted l.turn key job (place l.before l.since l.turn l.cut) l.started
      nobody (Request id) job l = ungiven l.turn job (place l.before l.since l.turn l.cut) l.given

  -- the end of a job was heard, no command was for its key then, and it stands as before
  pub still_stands : (turns : List (Turn plain may)) (key : Id) (job : J) (t : Turn plain may) → t.heard ≡ Some
      (Keyed key)
      → LeavesAlone key t.changes → Becomes may t.changes t.became → IsIn plain may (turns ++ t ∷ []) key job → ⊥
  still_stands turns key job t heard alone becomes there =
      let before = keys_after plain may turns in
      let free = after_event may before (ends_heard key) in
      let at : keys_after plain may (turns ++ t ∷ []) key ≡ after_events may free t.became key =
      ap (λ (f : Id → Option J). f key) (keys_more plain may turns t)
      ∙ ap (λ (f : Id → Option J). f key) (after-append may before (heard_in plain may t.heard) t.became)
      ∙ ap (λ (n : Option JobName). after_events may (after_events may before (heard_in plain may n)) t.became key)
      heard in
      let gone = at ∙ others_keep may key t.changes t.became alone becomes free
      ∙ ap (λ (b : Bool). cond b None (before key)) ((id_decides key key).1 refl) in
      let no : Some job ≡ None = sym there.there ∙ gone in
      absurd (cc (no))
