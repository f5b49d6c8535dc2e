-- Wakes that nobody gave: a session in threads that nobody can wake and whose policy passes over nothing tells of
-- none, and what came to it is what it read. And what a policy may not hear.
use Rattle.std.proofs.Common.{◌≡◌, refl, Bool, true, false, ap, sym, ◌∙◌, subst, inl, inr, ℕ, List, [], ◌∷◌, ◌++◌}
use Rattle.std.proofs.Common.{Option, Some, None, Result, Ok, Err}
use Rattle.std.specs.List.{FoldsTo}
use Rattle.lsp_message.specs.Frame.{Begins, reading_within}
use Rattle.lsp_message.specs.Message.{Message}
use Rattle.lsp_message.specs.Reading.{Reading}
use Rattle.lsp_message.specs.declared.frame.ReadFault.{ReadFault}
use Rattle.lsp_message.specs.declared.frame.limits.Limits.{Limits}
use Rattle.lsp_session.specs.Passing.{is_bad_content}
use Rattle.lsp_session.specs.PassingBytes.{HearsLast, SkipsNoContent}
use Rattle.lsp_session.specs.Session.{Exchange, came_of, no_more, SessionPart}
use Rattle.lsp_session.specs.SessionBytes.{ReadsMessage}
use Rattle.lsp_session.specs.SessionLaws.{Both}
use Rattle.lsp_session.specs.declared.loops.handler.SessionEnd.{SessionEnd}
use Rattle.lsp_session.specs.declared.loops.stream_session.SessionFault.{SessionFault}
use Rattle.lsp_threads.proofs.Sessions.{none_passed}
use Rattle.lsp_threads.specs.Threads.{ReadsFrameOrWakes, ReadsOrWakes, ThreadsGive, ThreadsTell}

-- at some place the session answered a wake
abbrev pub TellsAWake : SessionPart
TellsAWake exchanges stop answer =
    (earlier : List Exchange) × (x : Exchange) × (later : List Exchange) × (exchanges ≡ earlier ++ x ∷ later)
    × (x.came ≡ None)

module _ (limit : Limits) where
  tells_none : (x : Exchange) (earlier later : List Exchange) (text at : List ℕ) → x.came ≡ None
      → FoldsTo (ReadsOrWakes false limit) text (came_of (earlier ++ x ∷ later)) at → ⊥
  tells_none x [] later text at woken run =
      let read : ReadsOrWakes false limit text None run.0 = rw woken at run.1 in
      let e : false ≡ true = read.0 in
      absurd (cc (e))
  tells_none x (y ∷ earlier) later text at woken run = tells_none x earlier later run.0 at woken run.2

  -- nobody can wake the session, and it answers a wake
  pub refuses_a_wake : (P : SessionPart) (text : List ℕ) (before after : Option (List ℕ)) (result : Result SessionEnd
      SessionFault)
      → ThreadsGive limit (Both P TellsAWake) text before after result → ⊥
  refuses_a_wake P text before after result gives =
      let (earlier, x, later, are, woken) = gives.part.1 in
      tells_none x earlier later text gives.at woken (subst (λ xs. FoldsTo (ReadsOrWakes false limit) text (came_of xs)
      gives.at) are gives.read)

  -- what came to it is what one thread would have read
  pub reads_messages : (came : List (Option Message)) (text at : List ℕ) → FoldsTo (ReadsOrWakes false limit) text came
      at → FoldsTo (ReadsMessage limit) text came at
  reads_messages [] text at run = run
  reads_messages (Some m ∷ came) text at run = (run.0, run.1, reads_messages came run.0 at run.2)
  reads_messages (None ∷ came) text at run = let e : false ≡ true = run.1.0 in absurd (cc (e))

  -- if a waker was made, a wake may come at any place, and reads nothing
  pub woken_by_others : (text : List ℕ) → ReadsOrWakes true limit text None text
  woken_by_others text = (refl, refl)

  -- and it never reads
  pub wake_reads : (text rest : List ℕ) → ReadsOrWakes true limit text None rest → rest ≡ text
  wake_reads text rest woken = woken.1

  -- of a session that asks a policy
  module _ {L : Type 0} (passes : L → ReadFault → L → Type 0) where
    abbrev outcome_at : (text : List ℕ) → Result (Option Message) ReadFault
    outcome_at text = (reading_within limit text).outcome

    -- its policy passes over nothing, as `EndOnBadContent`, nobody can wake it, and it answers a wake
    pub passes_with_no_leave : SkipsNoContent passes → (P : SessionPart) (text : List ℕ) (first last : L)
        (before after : Option (List ℕ)) (result : Result SessionEnd SessionFault)
        → ThreadsTell passes limit (Both P TellsAWake) text first last before after result → ⊥
    passes_with_no_leave never P text first last before after result tells =
        refuses_a_wake P text before after result (none_passed false passes limit first last never (Both P TellsAWake)
        text before after result tells)

    -- nobody can wake it, a message comes next, and it answers a wake
    pub wakes_at_a_message : (text rest : List ℕ) (m : Message) (first : L) (new : List ℕ × L)
        → Begins limit text m rest
        → ReadsFrameOrWakes false passes limit (text, first) None new → ⊥
    wakes_at_a_message text rest m first new begins (inl others) = let e : false ≡ true = others.0 in cc (e)
    wakes_at_a_message text rest m first new begins (inr passes) =
        let e : Ok (Some m) ≡ Err passes.0 = sym (ap (λ (r : Reading Message). r.outcome) begins)
        ∙ ap (λ (r : Reading Message). r.outcome) passes.2 in
        cc (e)

    -- nobody can wake it, the text has ended, and it answers a wake
    pub wakes_at_the_end : (text : List ℕ) (first : L) (new : List ℕ × L) → outcome_at text ≡ Ok None
        → ReadsFrameOrWakes false passes limit (text, first) None new → ⊥
    wakes_at_the_end text first new ended (inl others) = let e : false ≡ true = others.0 in cc (e)
    wakes_at_the_end text first new ended (inr passes) =
        let e : Ok None ≡ Err passes.0 = sym ended ∙ ap (λ (r : Reading Message). r.outcome) passes.2 in
        cc (e)

    -- others wake it, and bytes are read; or no part is passed over, and its policy passes something
    pub wake_takes_nothing : (text : List ℕ) (first : L) (new : List ℕ × L) →
        ((fault : ReadFault) → is_bad_content fault
        ≡ true → outcome_at text ≡ Err fault → ⊥)
        → ReadsFrameOrWakes true passes limit (text, first) None new → new ≡ (text, first)
    wake_takes_nothing text first new no_bad_part (inl others) = others.1
    wake_takes_nothing text first new no_bad_part (inr passes) = absurd (no_bad_part passes.0 passes.1
        (ap (λ (r : Reading Message). r.outcome) passes.2))

    -- the policy passes something of a message
    pub hears_a_message : (wakeable : Bool) (text rest : List ℕ) (m : Message) (old new : L) → (new ≡ old → ⊥)
        → ReadsFrameOrWakes wakeable passes limit (text, old) (Some m) (rest, new) → ⊥
    hears_a_message wakeable text rest m old new other read = other read.1

    -- the policy passes more after the text has ended
    pub hears_on : (at : List ℕ × L) (last : L) → (last ≡ at.1 → ⊥) → HearsLast passes limit no_more at last → ⊥
    hears_on at last other policy = other policy
