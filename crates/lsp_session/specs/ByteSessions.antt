-- A session between bytes and bytes, as contracts see it.
use Rattle.std.specs.List.{concat}
use Rattle.std.specs.Prelude.{◌≡◌, ◌⊎◌, ◌<◌, ◌++◌, ℕ, List, [], length, Option, Some, None}
use Rattle.lsp_message.specs.FrameInput.{AwaitsMore}
use Rattle.lsp_message.specs.declared.frame.limits.Limits.{Limits}
use Rattle.lsp_session.specs.ByteSession.{IsEndOf, Standing, StopsOtherwise}
use Rattle.lsp_session.specs.PendingOutput.{waiting}
use Rattle.lsp_session.specs.TransportTurn.{IsOver}
use Rattle.lsp_session.specs.declared.loops.ReadEnd.{ReadEnd}
use Rattle.lsp_session.specs.declared.loops.byte_session.ByteSession.{ByteSession}
use Rattle.lsp_session.specs.declared.loops.machine.Stage.{Stage}
use Rattle.lsp_session.specs.declared.loops.machine.Stage.TheVariants.{Ended}

-- Of a session in this stage, with these bytes unread: this ended the messages, and the session with them, or nothing
-- did.
abbrev pub EndIsKnown : Limits → List ℕ → Stage → Option ReadEnd → Type 0
EndIsKnown limits text stage None = StopsOtherwise stage
EndIsKnown limits text stage (Some end) = IsOver stage × IsEndOf limits text end

-- what is unread in this stage, if these bytes were refused and these seen behind them
abbrev pub unread_in : Stage → List ℕ → List ℕ → List ℕ
unread_in (Ended outcome) refused seen = refused ++ seen
unread_in stage refused seen = seen

module _ {S : Type 0} where
  -- where the session stands
  abbrev pub standing : ByteSession S → Standing S
  standing b = record { stage = b.core.stage; service = b.service; pending = waiting b.output }

  -- the bytes that came and belong to no message: those of a frame that is not whole; or those of a frame that was
  -- refused, which ended the session
  abbrev pub unread : ByteSession S → List ℕ
  unread b = unread_in b.core.stage (concat b.refused.parts) (concat b.input.seen.parts)

  -- The session has ended, or no message is whole in the bytes that are unread. So it has served each message that
  -- came whole.
  abbrev pub HasServed : ByteSession S → Type 0
  HasServed b = IsOver b.core.stage ⊎ AwaitsMore b.input.limits (unread b)

  -- What the session reports as the end of its messages is that of the unread bytes. If it reports none, it goes on, or
  -- it ended for another reason.
  abbrev pub KnowsEnd : ByteSession S → Type 0
  KnowsEnd b = EndIsKnown b.input.limits (unread b) b.core.stage b.end

  -- If the session has ended, the fault of the unread bytes ended it, or there are none: the last message that it
  -- served was the last that it took bytes of.
  abbrev pub EndsAtFrame : ByteSession S → Type 0
  EndsAtFrame b = IsOver b.core.stage → b.end ≡ None → unread b ≡ []

  -- While more bytes are pending than the bound allows, no byte is unread: the session takes none after the frame of a
  -- message for which it has to send so much.
  abbrev pub PausesAtFrame : ByteSession S → Type 0
  PausesAtFrame b = b.most_pending < length (standing b).pending → unread b ≡ []

  -- the bounds stay
  abbrev pub KeepsBounds : ByteSession S → ByteSession S → Type 0
  KeepsBounds old new = (new.input.limits ≡ old.input.limits) × (new.most_pending ≡ old.most_pending)
