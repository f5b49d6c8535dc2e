-- The bytes of a session's acts: those that were taken are frames of the messages that came, and those that were given
-- are frames of the messages that were sent.
use Rattle.lsp_message.specs.Frame.{Begins, reading_within}
use Rattle.lsp_message.specs.Told.{Parts}
use Rattle.lsp_message.specs.Written.{AreFramesOf}
use Rattle.lsp_message.specs.declared.frame.ReadFault.{ReadFault}
use Rattle.lsp_message.specs.declared.frame.ReadFault.TheVariants.{Memory as NoMemoryToRead}
use Rattle.lsp_message.specs.declared.frame.WriteFault.{WriteFault}
use Rattle.lsp_message.specs.declared.frame.WriteFault.TheVariants.{Output, Memory as NoMemory}
use Rattle.lsp_message.specs.declared.frame.limits.Limits.{Limits}
use Rattle.lsp_session.proofs.WellNoted.{came_at, offered_at, lost_at, closed_at}
use Rattle.lsp_session.specs.Account.{gave, took, lost}
use Rattle.lsp_session.specs.ActBytes.{Note, EventParts, SkipsNothing, SentParts, TellsActs, acts_in}
use Rattle.lsp_session.specs.ActBytes.{bytes_taken, bytes_given}
use Rattle.lsp_session.specs.EndsWell.{taken_at, given_at}
use Rattle.lsp_session.specs.Event.{Event, message, timeout, closed, woken}
use Rattle.lsp_session.specs.Session.{SessionAnswer}
use Rattle.lsp_session.specs.SessionFault.{session_answer}
use Rattle.lsp_session.specs.Transcripts.{note_view}
use Rattle.lsp_session.specs.declared.loops.ReadEnd.{ReadEnd}
use Rattle.lsp_session.specs.declared.loops.ReadEnd.TheVariants.{Exit, End, Fault, Closed as Gone, Memory as NoRoom}
use Rattle.lsp_session.specs.declared.loops.handler.SessionEnd.{SessionEnd}
use Rattle.lsp_session.specs.declared.loops.session_outcome.StopReason.{StopReason}
use Rattle.lsp_session.specs.declared.loops.session_outcome.StopReason.TheVariants.{Decided, NoMore, TimedOut, Refused}
use Rattle.lsp_session.specs.declared.loops.session_outcome.StopReason.TheVariants.{Exhausted}
use Rattle.lsp_session.specs.declared.loops.stream_session.SessionFault.{SessionFault}
use Rattle.lsp_session.specs.declared.loops.transcript.Noted.{Noted}
use Rattle.lsp_session.specs.declared.loops.transcript.Noted.TheVariants.{Gave, Came, Took, Lost, TookText, LostText}
use Rattle.std.proofs.Common.{◌≡◌, refl, sym, ◌∙◌, ap, subst, inl, inr, ◌⊎◌, ℕ, List, [], ◌∷◌, ◌++◌, map}
use Rattle.std.proofs.Common.{Option, Some, None}
use Rattle.std.specs.List.{FoldsTo, flat_map, concat}
use Rattle.std.specs.Prelude.{Result, Ok, Err}

-- the bytes of a transcript's acts
pub same_taken : (acts : List Noted) → flat_map taken_at acts ≡ bytes_taken (map note_view acts)
same_taken [] = refl
same_taken (Gave event taken ∷ acts) = ap (λ l. concat taken.parts ++ l) (same_taken acts)
same_taken (Came arrival taken ∷ acts) = ap (λ l. concat taken.parts ++ l) (same_taken acts)
same_taken (Took m given ∷ acts) = same_taken acts
same_taken (Lost m given ∷ acts) = same_taken acts
same_taken (TookText id text given ∷ acts) = same_taken acts
same_taken (LostText id text given ∷ acts) = same_taken acts

pub same_given : (acts : List Noted) → flat_map given_at acts ≡ bytes_given (map note_view acts)
same_given [] = refl
same_given (Gave event taken ∷ acts) = same_given acts
same_given (Came arrival taken ∷ acts) = same_given acts
same_given (Took m given ∷ acts) = ap (λ l. concat given.parts ++ l) (same_given acts)
same_given (Lost m given ∷ acts) = ap (λ l. concat given.parts ++ l) (same_given acts)
same_given (TookText id text given ∷ acts) = ap (λ l. concat given.parts ++ l) (same_given acts)
same_given (LostText id text given ∷ acts) = ap (λ l. concat given.parts ++ l) (same_given acts)

-- ---- what a session that ended well did not meet

abbrev pub NoFaultAt : StopReason → Option ReadEnd → Type 0
NoFaultAt NoMore (Some (Fault fault)) = ⊥
NoFaultAt reason end = Unit {0}

pub ok_answer : (reason : StopReason) (answer : SessionAnswer) (end : Option ReadEnd) (fault : Option WriteFault)
    (e : SessionEnd) → ◌≡◌ {A = Result SessionEnd SessionFault} (Ok e) (session_answer reason answer end fault)
    → (fault ≡ None) × (answer ≡ Ok e) × NoFaultAt reason end
ok_answer reason answer end (Some (Output kind)) e is = absurd (cc (is))
ok_answer reason answer end (Some NoMemory) e is = absurd (cc (is))
ok_answer Exhausted answer end None e is = absurd (cc (is))
ok_answer NoMore answer None None e is = absurd (cc (is))
ok_answer NoMore answer (Some (Fault NoMemoryToRead)) None e is = absurd (cc (is))
ok_answer NoMore answer (Some (Fault fault)) None e is = absurd (cc (is))
ok_answer NoMore (Ok end) (Some Exit) None e is = (refl, cc (is), tt)
ok_answer NoMore (Err fault) (Some Exit) None e is = absurd (cc (is))
ok_answer NoMore (Ok end) (Some End) None e is = (refl, cc (is), tt)
ok_answer NoMore (Err fault) (Some End) None e is = absurd (cc (is))
ok_answer NoMore (Ok end) (Some Gone) None e is = (refl, cc (is), tt)
ok_answer NoMore (Err fault) (Some Gone) None e is = absurd (cc (is))
ok_answer NoMore (Ok end) (Some NoRoom) None e is = (refl, cc (is), tt)
ok_answer NoMore (Err fault) (Some NoRoom) None e is = absurd (cc (is))
ok_answer Decided (Ok end) read None e is = (refl, cc (is), tt)
ok_answer Decided (Err fault) read None e is = absurd (cc (is))
ok_answer TimedOut (Ok end) read None e is = (refl, cc (is), tt)
ok_answer TimedOut (Err fault) read None e is = absurd (cc (is))
ok_answer Refused (Ok end) read None e is = (refl, cc (is), tt)
ok_answer Refused (Err fault) read None e is = absurd (cc (is))

module _ (limit : Limits) where
  -- ---- the bytes that were given

  fault_stays : (ns : List Note) (e e' : Option ReadEnd) (g : WriteFault) (f' : Option WriteFault)
      → TellsActs limit (e, Some g) ns (e', f') → f' ≡ Some g
  fault_stays [] e e' g f' told = ap (λ (p : Option ReadEnd × Option WriteFault). p.1) told
  fault_stays ((gave event, parts) ∷ ns) e e' g f' told = fault_stays ns told.0 e' g f' told.3
  fault_stays ((took m, parts) ∷ ns) e e' g f' told = absurd told.1
  fault_stays ((lost m, parts) ∷ ns) e e' g f' told =
      fault_stays ns e e' g f' (subst (λ (f : Option WriteFault). TellsActs limit (e, f) ns (e', f')) told.1.1 told.2)

  pub written : (ns : List Note) (e e' : Option ReadEnd) → TellsActs limit (e, None) ns (e', None)
      → AreFramesOf (flat_map offered_at (acts_in ns)) (bytes_given ns) × (flat_map lost_at (acts_in ns) ≡ [])
  written [] e e' told = (refl, refl)
  written ((gave event, parts) ∷ ns) e e' told = written ns told.0 e' told.3
  written ((took m, parts) ∷ ns) e e' told =
      let rest = written ns e e' (subst (λ (f : Option WriteFault). TellsActs limit (e, f) ns (e', None)) told.1.2
      told.2) in (
        (concat parts, bytes_given ns, told.1.0, rest.0, refl),
        rest.1,
      )
  written ((lost m, parts) ∷ ns) e e' told = at told.0 told.1 told.2
    where
      at : (f : Option WriteFault) → SentParts None (lost m) f parts → TellsActs limit (e, f) ns (e', None)
          → AreFramesOf (flat_map offered_at (acts_in ((lost m, parts) ∷ ns))) (bytes_given ((lost m, parts) ∷ ns))
          × (flat_map lost_at (acts_in ((lost m, parts) ∷ ns)) ≡ [])
      at None sent rest = absurd sent
      at (Some g) sent rest = let e : None ≡ Some g = fault_stays ns e e' g None rest in absurd (cc (e))

  -- ---- the bytes that were taken

  nothing_after : (ns : List Note) (x : ReadEnd) (e' : Option ReadEnd) (f f' : Option WriteFault)
      → TellsActs limit (Some x, f) ns (e', f') → (bytes_taken ns ≡ []) × (flat_map came_at (acts_in ns) ≡ [])
      × (e' ≡ Some x)
  nothing_after [] x e' f f' told = (refl, refl, ap (λ (p : Option ReadEnd × Option WriteFault). p.0) told)
  nothing_after ((gave event, parts) ∷ ns) x e' f f' told =
      let rest = nothing_after ns x e' f f' (subst (λ (e : Option ReadEnd). TellsActs limit (e, f) ns (e', f'))
      told.2 told.3) in (
        ap (λ (ps : Parts). concat ps ++ bytes_taken ns) told.1.1 ∙ rest.0,
        ap (λ (ev : Event). came_at (gave ev) ++ flat_map came_at (acts_in ns)) told.1.0 ∙ rest.1,
        rest.2,
      )
  nothing_after ((took m, parts) ∷ ns) x e' f f' told = nothing_after ns x e' told.0 f' told.2
  nothing_after ((lost m, parts) ∷ ns) x e' f f' told = nothing_after ns x e' told.0 f' told.2

  -- the bytes after the last message: none; or, if the messages were closed, the end of the input, or a fault
  abbrev pub RestIs : Option ReadEnd → List Event → List ℕ → Type 0
  RestIs end closings rest = (rest ≡ [])
      ⊎ ((closings ≡ [] → ⊥) × ((reading_within limit rest ≡ record { outcome = Ok None; rest = [] })
      ⊎ ((fault : ReadFault) × (end ≡ Some (Fault fault)))))

  pub read : (ns : List Note) (e e' : Option ReadEnd) (f f' : Option WriteFault) → SkipsNothing ns
      → TellsActs limit (e, f) ns (e', f')
      → (rest : List ℕ) × FoldsTo (Begins limit) (bytes_taken ns) (flat_map came_at (acts_in ns)) rest
      × RestIs e' (flat_map closed_at (acts_in ns)) rest
  read [] e e' f f' none told = ([], refl, inl refl)
  read ((took m, parts) ∷ ns) e e' f f' none told = read ns e e' told.0 f' none told.2
  read ((lost m, parts) ∷ ns) e e' f f' none told = read ns e e' told.0 f' none told.2
  read ((gave woken, parts) ∷ ns) e e' f f' none told = absurd none
  read ((gave (message m), parts) ∷ ns) (Some x) e' f f' none told = absurd (cc (told.1.0))
  read ((gave timeout, parts) ∷ ns) (Some x) e' f f' none told = absurd (cc (told.1.0))
  read ((gave timeout, parts) ∷ ns) None e' f f' none told = absurd told.1
  read ((gave closed, parts) ∷ ns) (Some x) e' f f' none told =
      let after = nothing_after ((gave closed, parts) ∷ ns) x e' f f' told in
      ([], rw (after.0, after.1) refl, inl refl)
  read ((gave (message m), parts) ∷ ns) None e' f f' none told =
      let later = read ns told.0 e' f f' none told.3 in
      let is = told.1 (bytes_taken ns) tt in
      let left : bytes_taken ns ≡ (reading_within limit (concat parts ++ bytes_taken ns)).rest = cc (is.1) in (
        later.0,
        (
          bytes_taken ns,
          λ i. record { outcome = is.0 i; rest = sym left i },
          later.1,
        ),
        later.2,
      )
  read ((gave closed, parts) ∷ ns) None e' f f' none told = at told.0 told.1 told.3
    where
      never : ◌≡◌ {A = List Event} (closed ∷ flat_map closed_at (acts_in ns)) [] → ⊥
      never e = cc (e)

      at : (x : Option ReadEnd) → EventParts limit None closed x parts → TellsActs limit (x, f) ns (e', f')
          → (rest : List ℕ) × FoldsTo (Begins limit) (concat parts ++ bytes_taken ns) (flat_map came_at (acts_in ns))
          rest × RestIs e' (closed ∷ flat_map closed_at (acts_in ns)) rest
      at None parted rest = absurd parted
      at (Some Exit) parted rest = absurd parted
      at (Some Gone) parted rest = absurd parted
      at (Some NoRoom) parted rest = absurd parted
      at (Some End) parted rest =
          let after = nothing_after ns End e' f f' rest in
          let is = parted [] (λ shown. refl) in
          let left : [] ≡ (reading_within limit (concat parts ++ [])).rest = cc (is.1) in (
            concat parts ++ [],
            rw (after.0, after.1) refl,
            inr (never, inl (λ i. record { outcome = is.0 i; rest = sym left i })),
          )
      at (Some (Fault fault)) parted rest =
          let after = nothing_after ns (Fault fault) e' f f' rest in (
            concat parts ++ [],
            rw (after.0, after.1) refl,
            inr (never, inr (fault, after.2)),
          )
