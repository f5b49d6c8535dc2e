-- A session between bytes that has served each message that came whole.
use Rattle.std.proofs.Common.{◌≡◌, List, ℕ, sym, subst, inl, inr}
use Rattle.lsp_message.specs.FrameInput.{AwaitsMore}
use Rattle.lsp_message.specs.declared.frame.limits.Limits.{Limits}
use Rattle.lsp_session.specs.ByteSession.{Comes}
use Rattle.lsp_session.specs.ByteSessions.{standing, unread, HasServed}
use Rattle.lsp_session.specs.Event.{Event}
use Rattle.lsp_session.specs.Session.{Behavior}
use Rattle.lsp_session.specs.declared.loops.byte_session.ByteSession.{ByteSession}
use Rattle.lsp_session.proofs.ByteHistory.{over_stays}

-- the bytes that are unread are those of a frame that is not whole
pub served_after : {S : Type 0} (new : ByteSession S) (limits : Limits) (text : List ℕ) → new.input.limits ≡ limits
    → unread new ≡ text → AwaitsMore limits text → HasServed new
served_after new limits text same bytes waits = inr (subst (λ (l : Limits). AwaitsMore l (unread new)) (sym same)
    (subst (λ (t : List ℕ). AwaitsMore limits t) (sym bytes) waits))

-- an event without bytes keeps it so
pub served_still : {S : Type 0} (may : Behavior S) (old new : ByteSession S) (event : Event)
    → Comes {S = S} may (standing old) event (standing new) → new.input.limits ≡ old.input.limits
    → unread new ≡ unread old → HasServed old → HasServed new
served_still may old new event comes same bytes (inl over) =
    inl (over_stays old.input.limits old.most_pending may (standing old) (standing new) event comes over)
served_still may old new event comes same bytes (inr waits) =
    served_after new old.input.limits (unread old) same bytes waits
