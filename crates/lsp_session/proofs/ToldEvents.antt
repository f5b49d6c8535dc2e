-- The bytes that were taken for an event.
use Rattle.lsp_message.specs.Failures.{Kinds, AreInterrupted, FailsFor, ReaderFails}
use Rattle.lsp_message.specs.Frame.{reading_within}
use Rattle.lsp_message.specs.Told.{Parts, IsOfParts, Told}
use Rattle.lsp_message.specs.Message.{Message}
use Rattle.lsp_message.specs.declared.frame.ReadFault.{ReadFault}
use Rattle.lsp_message.specs.declared.frame.ReadFault.TheVariants.{BodyNotText, NoJson, NoMessage, Batch}
use Rattle.lsp_message.specs.declared.frame.byte_trace.ByteTrace.{ByteTrace}
use Rattle.lsp_message.specs.declared.frame.limits.Limits.{Limits}
use Rattle.lsp_message.proofs.Failures.{never}
use Rattle.lsp_session.specs.ActBytes.{ReadParts, EventParts, TakenFor}
use Rattle.lsp_session.specs.Event.{closed}
use Rattle.lsp_session.specs.Passing.{is_bad_content}
use Rattle.lsp_session.specs.SessionFailures.{fault_of, FailsInWait}
use Rattle.lsp_session.specs.declared.loops.ReadEnd.{ReadEnd}
use Rattle.lsp_session.specs.declared.loops.ReadEnd.TheVariants.{Fault}
use Rattle.std.proofs.Common.{◌≡◌, refl, sym, subst, ℕ, true, false, List, [], append-nil, Option, Some, None}
use Rattle.std.specs.List.{concat}
use Rattle.std.specs.Prelude.{Ok, length, is_some}

-- no more come
pub closed_parts : {X : Type 0} (view : X → Message) (limit : Limits) (old new : Option ReadEnd) (parts : Parts)
    → ReadParts limit view old (Ok None) new parts → EventParts limit old closed new parts
closed_parts view limit None new parts told = subst (λ end. EventParts limit None closed end parts) (sym told.0) told.1
closed_parts view limit (Some end) new parts told = (refl, told.2)

-- and the policy is as it was
pub told_closed : {X L : Type 0} (view : X → Message) (passes : L → ReadFault → L → Type 0) (limit : Limits)
    (old new : Option ReadEnd) (policy after : L) (t u : Parts) (a b : Option (List ℕ)) → after ≡ policy
    → Told (ReadParts limit view old (Ok None) new) t u a b
    → Told (TakenFor limit passes (old, policy) closed (new, after)) t u a b
told_closed view passes limit old new policy after t u a b same told = (
  told.0,
  told.1,
  (closed_parts view limit old new told.0 told.2, same),
)

-- a message
pub told_next : {X : Type 0} (view : X → Message) (limit : Limits) (before after : Option ReadEnd) (x : X) (t u : Parts)
    (a b : Option (List ℕ)) → is_some before ≡ false
    → Told (IsOfParts view (reading_within limit) (Ok (Some x))) t u a b
    → Told (ReadParts limit view before (Ok (Some x)) after) t u a b
told_next view limit None after x t u a b none told = told
told_next view limit (Some end) after x t u a b none told = absurd (cc (none))

-- ---- how the reader failed

-- nothing was read
pub fails_at_none : (end : Option ReadEnd) (a : ByteTrace) → FailsInWait end end a a
fails_at_none None a = ([], [], sym (append-nil a.parts), sym (append-nil a.failed), never)
fails_at_none (Some end) a = ([], [], sym (append-nil a.parts), sym (append-nil a.failed), (refl, refl))

-- a message was read, or the end
pub fails_at_next : (before after : Option ReadEnd) (a b : ByteTrace) → is_some before ≡ false
    → fault_of after ≡ None → ReaderFails None a b → FailsInWait before after a b
fails_at_next None after a b none ends (parts, kinds, taken, failed, fits) = (
  parts,
  kinds,
  taken,
  failed,
  subst (λ (f : Option ReadFault). FailsFor f (length (concat parts)) kinds) (sym ends) fits,
)
fails_at_next (Some end) after a b none ends fails = absurd (cc (none))

-- what had not ended the messages
pub unended : (before : Option ReadEnd) → is_some before ≡ false → fault_of before ≡ None
unended None none = refl
unended (Some end) none = absurd (cc (none))

none_is : (before : Option ReadEnd) → is_some before ≡ false → before ≡ None
none_is None none = refl
none_is (Some end) none = absurd (cc (none))

-- a read that failed
pub fails_at_fault : (before : Option ReadEnd) (fault : ReadFault) (a b : ByteTrace) → is_some before ≡ false
    → ReaderFails (Some fault) a b → (before ≡ None) × ReaderFails (Some fault) a b
fails_at_fault before fault a b none fails = (none_is before none, fails)

-- the fault ends the messages
pub fails_at_end : (before : Option ReadEnd) (fault : ReadFault) (a b : ByteTrace) → before ≡ None
    → ReaderFails (Some fault) a b → FailsInWait before (Some (Fault fault)) a b
fails_at_end before fault a b none fails = subst (λ (e : Option ReadEnd). FailsInWait e (Some (Fault fault)) a b)
    (sym none) fails

-- a content part that is no message
reads_whole : (fault : ReadFault) (bytes : ℕ) (kinds : Kinds) → is_bad_content fault ≡ true
    → FailsFor (Some fault) bytes kinds → AreInterrupted kinds
reads_whole BodyNotText bytes kinds bad fits = fits
reads_whole NoJson bytes kinds bad fits = fits
reads_whole NoMessage bytes kinds bad fits = fits
reads_whole Batch bytes kinds bad fits = fits
reads_whole fault bytes kinds bad fits = absurd (cc (bad))

-- it is skipped
pub fails_at_skip : (before after : Option ReadEnd) (fault : ReadFault) (a b : ByteTrace) → before ≡ None → after ≡ None
    → is_bad_content fault ≡ true → ReaderFails (Some fault) a b → FailsInWait before after a b
fails_at_skip before after fault a b none still bad (parts, kinds, taken, failed, fits) =
    subst (λ (e : Option ReadEnd). FailsInWait e after a b) (sym none)
    (subst (λ (e : Option ReadEnd). FailsInWait None e a b) (sym still) (
      parts,
      kinds,
      taken,
      failed,
      reads_whole fault (length (concat parts)) kinds bad fits,
    ))
