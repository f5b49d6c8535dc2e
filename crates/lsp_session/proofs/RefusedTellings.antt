-- What no account of bytes tells: a message or the end of the input from nothing, and a frame that was not flushed.
use lib.Utf8.{encode}
use Rattle.lsp_message.specs.Frame.{body_means, content_of, reading_within}
use Rattle.lsp_message.specs.Message.{Message}
use Rattle.lsp_message.specs.Reading.{Reading}
use Rattle.lsp_message.specs.declared.frame.ReadFault.{ReadFault}
use Rattle.lsp_message.specs.declared.frame.ReadFault.TheVariants.{HeaderTooLong, LineEnd}
use Rattle.lsp_message.specs.declared.frame.limits.Limits.{Limits}
use Rattle.lsp_session.proofs.ActsNoted.{waited_in, Grows, grows_both, rest_grows, turns_grow, end_grows}
use Rattle.lsp_message.specs.declared.frame.WriteFault.{WriteFault}
use Rattle.lsp_session.specs.Account.{Act, gave, took, NotesReceive, NotesSend}
use Rattle.lsp_session.specs.ActBytes.{AreOf, SentParts, ToldSession}
use Rattle.lsp_session.specs.Event.{Event, timeout, closed}
use Rattle.lsp_session.specs.Prompt.{event_of, WaitsIn, AwaitsEnd, Meets, any_wait}
use Rattle.lsp_session.specs.Session.{Behavior, Exchange, Stop, decided, no_more, timed_out, refused, exhausted}
use Rattle.lsp_session.specs.Session.{Phase, starting, Stops, SessionOut}
use Rattle.lsp_session.specs.declared.lifecycle.SendFault.{SendFault}
use Rattle.std.specs.List.{FoldsTo}
use Rattle.lsp_session.specs.declared.loops.handler.SessionEnd.{SessionEnd}
use Rattle.lsp_session.specs.declared.loops.stream_session.SessionFault.{SessionFault}
use Rattle.std.proofs.Common.{arith, ◌≡◌, refl, sym, ◌∙◌, ap, subst, inl, inr, ◌⊎◌, ℕ, ◌+◌, Bool, true, false, cond}
use Rattle.std.proofs.Common.{nat_lt, drop, List, [], ◌∷◌, ◌++◌, length, map, Option, Some, None, Ok, Err}
use Rattle.std.specs.Prelude.{Result}
use Rattle.std.specs.Str.{is_utf8, chars}

-- what a text comes to within limits, if its header part comes to this
abbrev frame : Limits → List ℕ → Reading ℕ → Bool → Result (Option Message) ReadFault
frame limit text header above =
    let bounded = cond {A = Reading ℕ} above (record { outcome = Err HeaderTooLong; rest = text }) header in
    (content_of body_means limit.content bounded.outcome bounded.rest).outcome

-- a message needs bytes
pub no_message_from_nothing : (limit : Limits) (m : Message) → AreOf limit (Ok (Some m)) [] → ⊥
no_message_from_nothing limit m is = at limit.header (is [] tt).0
  where
    part : (t : Bool) (rest : List ℕ) → frame limit rest (record { outcome = Ok None; rest = [] }) t ≡ Ok (Some m) → ⊥
    part true rest is = let e : Err HeaderTooLong ≡ Ok (Some m) = is in cc (e)
    part false rest is = let e : Ok None ≡ Ok (Some m) = is in cc (e)

    at : (bound : Option ℕ) → (reading_within (record { header = bound; content = limit.content }) []).outcome
        ≡ Ok (Some m) → ⊥
    at None is = let e : Ok None ≡ Ok (Some m) = is in cc (e)
    at (Some bound) is = part (nat_lt bound 0) (drop (bound + 1) []) is

one_byte : (limit : Limits) → (reading_within limit (120 ∷ [])).outcome ≡ Ok None → ⊥
unfolding is_utf8 chars encode
one_byte limit is = at limit.header is
  where
    part : (t : Bool) (rest : List ℕ) → frame limit rest (record { outcome = Err LineEnd; rest = [] }) t ≡ Ok None → ⊥
    part true rest is = let e : Err HeaderTooLong ≡ Ok None = is in cc (e)
    part false rest is = let e : Err LineEnd ≡ Ok None = is in cc (e)

    at : (bound : Option ℕ) → (reading_within (record { header = bound; content = limit.content }) (120 ∷ [])).outcome
        ≡ Ok None → ⊥
    at None is = let e : Err LineEnd ≡ Ok None = is in cc (e)
    at (Some bound) is = part (nat_lt bound 1) (drop (bound + 1) (120 ∷ [])) is

-- the end of the input has to be shown
pub no_end_unshown : (limit : Limits) → AreOf limit (Ok None) [] → ⊥
no_end_unshown limit is = one_byte limit (is (120 ∷ []) (λ shown. absurd (cc (shown)))).0

append_none : (xs ys : List Act) → [] ≡ xs ++ ys → xs ≡ []
append_none [] ys none = refl
append_none (x ∷ xs) ys none = absurd (cc (none))

-- acts that begin with a wait
waited_some : (p : Phase) (event : Event) (old met new : List Act) → WaitsIn NotesReceive any_wait p old event met
    → Grows met new → [] ≡ new → ⊥
waited_some p event old met new waits more none =
    let w = waited_in p event old met waits in
    never old w.passed (sym w.are ∙ append_none met more.0 (none ∙ more.1))
  where
    some : (passed : List Event) → map gave (passed ++ event ∷ []) ≡ [] → ⊥
    some [] is = cc (is)
    some (e ∷ passed) is = cc (is)

    never : (front : List Act) (passed : List Event) → front ++ map gave (passed ++ event ∷ []) ≡ [] → ⊥
    never [] passed is = some passed is
    never (a ∷ front) passed is = cc (is)

turns_none : (passes : Bool) (xs : List Exchange) (old : Phase × List Act) (new : Phase × List Act) → FoldsTo
    (Meets NotesReceive any_wait NotesSend passes) old xs new → [] ≡ new.1 → xs ≡ []
turns_none passes [] old new run none = refl
turns_none passes (x ∷ xs) old new run none =
    absurd (waited_some old.0 (event_of x.came) old.1 run.1.met new.1 run.1.waited (grows_both run.1.met run.0.1 new.1
    (rest_grows passes x old run.0 run.1) (turns_grow passes xs run.0 new run.2)) none)

ends_none : (p : Phase) (count : ℕ) (stop : Stop) (old : List Act) → AwaitsEnd NotesReceive any_wait p count stop old []
    → count ≡ 0 → (old ≡ []) × ((stop ≡ decided) ⊎ ((fault : SendFault) × (stop ≡ refused fault)))
ends_none p count no_more old (inl waits) zero = absurd (waited_some p closed old [] [] waits ([], refl) refl)
ends_none p count no_more old (inr all) zero = let bad : ⊥ = omega (arith, all.0, zero) in absurd bad
ends_none p count timed_out old waits zero = absurd (waited_some p timeout old [] [] waits ([], refl) refl)
ends_none p count exhausted old waits zero = absurd (waited_some p (event_of waits.0) old [] [] waits.1 ([], refl) refl)
ends_none p count decided old same zero = (sym same, inl refl)
ends_none p count (refused fault) old same zero = (sym same, inr (fault, refl))

-- A session read something: a body that runs none, and answers as if it had, has no transcript for it.
pub no_session_from_nothing : {S : Type 0} (may : Behavior S) (s s' : S) (limit : Limits) (result : Result SessionEnd
    SessionFault)
    → ToldSession limit (SessionOut may s s') [] result → ⊥
no_session_from_nothing {S} may s s' limit result told =
    let h = told.in_order in
    let still = end_grows h.reached (length told.exchanges) told.stop h.mid [] h.ends in
    let mid : [] ≡ h.mid = sym (append_none h.mid still.0 still.1) in
    let none : told.exchanges ≡ [] = turns_none h.passes_late told.exchanges (starting, []) (h.reached, h.mid) h.turns
    mid in
    let ends = ends_none h.reached (length told.exchanges) told.stop h.mid h.ends (ap (λ (xs : List Exchange).
    length xs) none) in
    let out = subst (λ (xs : List Exchange). SessionOut may s s' xs told.stop told.answer) none told.part in
    let stops = subst (λ (a : Phase × S). Stops may a.0 a.1 told.stop told.answer s') (sym out.reached) out.stopped in
    elim ends.1 [
      | inl is ↦ subst (λ (stop : Stop). Stops may starting s stop told.answer s') is stops
      | inr is ↦ subst (λ (stop : Stop). Stops may starting s stop told.answer s') is.1 stops
    ]

-- A message was taken, and its bytes were written without a flush after them.
pub writes_unflushed : (m : Message) (byte : ℕ) (bytes : List ℕ) (new : Option WriteFault)
    → SentParts None (took m) new ((byte ∷ bytes) ∷ []) → ⊥
writes_unflushed m byte bytes new sent = cc (sent.1)
