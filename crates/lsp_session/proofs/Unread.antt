-- The bytes that a session between bytes has not read.
use Rattle.std.proofs.Common.{◌≡◌, refl, sym, ap, ◌∙◌, ◌++◌, ℕ, List, []}
use Rattle.std.specs.List.{concat}
use Rattle.lsp_message.specs.declared.frame.byte_trace.ByteTrace.{ByteTrace}
use Rattle.lsp_message.specs.declared.frame.input.FrameInput.{FrameInput}
use Rattle.lsp_session.specs.ByteSessions.{unread, unread_in}
use Rattle.lsp_session.specs.Event.{Event}
use Rattle.lsp_session.specs.Machine.{IsAwaited}
use Rattle.lsp_session.specs.TransportTurn.{IsOver}
use Rattle.lsp_session.specs.declared.loops.byte_session.ByteSession.{ByteSession}
use Rattle.lsp_session.specs.declared.loops.machine.Stage.{Stage}
use Rattle.lsp_session.specs.declared.loops.machine.Stage.TheVariants.{Starting, Replied, Serving, Asked, Ended}

-- a session that has not ended refused nothing
pub unread_open : (stage : Stage) (refused seen : List ℕ) → (IsOver stage → ⊥) → unread_in stage refused seen ≡ seen
unread_open (Ended outcome) refused seen waits = absurd (waits tt)
unread_open Starting refused seen waits = refl
unread_open Replied refused seen waits = refl
unread_open Serving refused seen waits = refl
unread_open (Asked id) refused seen waits = refl

-- nothing was refused
pub unread_none : (stage : Stage) (refused seen : List ℕ) → refused ≡ [] → unread_in stage refused seen ≡ seen
unread_none (Ended outcome) refused seen none = ap (λ l. l ++ seen) none
unread_none Starting refused seen none = refl
unread_none Replied refused seen none = refl
unread_none Serving refused seen none = refl
unread_none (Asked id) refused seen none = refl

-- these bytes were refused
pub unread_over : (stage : Stage) (refused seen : List ℕ) → IsOver stage → unread_in stage refused seen
    ≡ refused ++ seen
unread_over (Ended outcome) refused seen over = refl
unread_over Starting refused seen over = absurd over
unread_over Replied refused seen over = absurd over
unread_over Serving refused seen over = absurd over
unread_over (Asked id) refused seen over = absurd over

-- a session that takes an event has not ended
pub awaited_waits : (stage : Stage) (event : Event) → IsAwaited stage event → IsOver stage → ⊥
awaited_waits (Ended outcome) event awaited over = awaited
awaited_waits Starting event awaited over = over
awaited_waits Replied event awaited over = over
awaited_waits Serving event awaited over = over
awaited_waits (Asked id) event awaited over = over

module _ {S : Type 0} (new old : ByteSession S) where
  pub same_limits : new.input ≡ old.input → new.input.limits ≡ old.input.limits
  same_limits same = ap (λ (i : FrameInput). i.limits) same

  same_seen : new.input ≡ old.input → concat new.input.seen.parts ≡ concat old.input.seen.parts
  same_seen same = ap (λ (i : FrameInput). concat i.seen.parts) same

  -- an event was taken
  pub unread_stays : (refused : ByteTrace) (event : Event) → IsAwaited old.core.stage event
      → refused.parts ≡ [] → new.refused ≡ refused → new.input ≡ old.input → unread new ≡ unread old
  unread_stays refused event awaited none is same =
      unread_none new.core.stage (concat new.refused.parts) (concat new.input.seen.parts)
      (ap (λ (t : ByteTrace). concat t.parts) is ∙ ap concat none) ∙ same_seen same
      ∙ sym (unread_open old.core.stage (concat old.refused.parts) (concat old.input.seen.parts)
      (awaited_waits old.core.stage event awaited))

  -- the session ended, and refused these bytes
  pub unread_refused : (refused : ByteTrace) → IsOver new.core.stage → new.refused ≡ refused → new.input ≡ old.input
      → unread new ≡ concat refused.parts ++ concat old.input.seen.parts
  unread_refused refused over is same =
      unread_over new.core.stage (concat new.refused.parts) (concat new.input.seen.parts) over
      ∙ ap (λ (t : ByteTrace). concat t.parts ++ concat new.input.seen.parts) is
      ∙ ap (λ l. concat refused.parts ++ l) (same_seen same)

-- what is unread of a session that has not ended
pub unread_seen : {S : Type 0} (b : ByteSession S) → (IsOver b.core.stage → ⊥) → unread b ≡ concat b.input.seen.parts
unread_seen b waits = unread_open b.core.stage (concat b.refused.parts) (concat b.input.seen.parts) waits
