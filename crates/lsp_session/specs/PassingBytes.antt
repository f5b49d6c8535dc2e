-- A session that asks a policy at content parts which are no messages: bytes in to bytes out (LSP 3.17, "Base
-- Protocol" and "Server lifecycle").
use Rattle.std.specs.Prelude.{◌≡◌, ◌⊎◌, ℕ, true, List, Option, Some, None, Result, Err}
use Rattle.lsp_message.specs.Frame.{Begins, reading_within}
use Rattle.lsp_message.specs.Message.{Message}
use Rattle.lsp_message.specs.declared.frame.ReadFault.{ReadFault}
use Rattle.lsp_message.specs.declared.frame.limits.Limits.{Limits}
use Rattle.lsp_session.specs.Session.{SessionPart, Stop, exhausted}
use Rattle.lsp_session.specs.SessionBytes.{SessionOver, Ends, Wrote}
use Rattle.lsp_session.specs.declared.loops.handler.SessionEnd.{SessionEnd}
use Rattle.lsp_session.specs.declared.loops.stream_session.SessionFault.{SessionFault}
use Rattle.lsp_session.specs.Passing.{is_bad_content}

-- a policy with this clause never skips anything
abbrev pub SkipsNoContent : {L : Type 0} → (L → ReadFault → L → Type 0) → Type 0
SkipsNoContent {L} passes = (old : L) (fault : ReadFault) (new : L) → passes old fault new → ⊥

-- of a text and a policy, if content parts have at most so many bytes
module _ {L : Type 0} (passes : L → ReadFault → L → Type 0) (limit : Limits) where
  -- The text begins with a content part that is no message. The policy passes its fault, and what follows it is left.
  abbrev pub PassesOver : List ℕ × L → List ℕ × L → Type 0
  PassesOver old new =
      (fault : ReadFault) × (is_bad_content fault ≡ true)
      × (reading_within limit old.0 ≡ record { outcome = Err fault; rest = new.0 })
      × passes old.1 fault new.1

  -- The first frame of the text is this message, and the policy allows nothing to be skipped; or the frame is skipped,
  -- and the session is woken.
  abbrev pub ReadsFrame : List ℕ × L → Option Message → List ℕ × L → Type 0
  ReadsFrame old (Some m) new = Begins limit old.0 m new.0 × (new.1 ≡ old.1)
  ReadsFrame old None new = PassesOver old new

  -- The policy allows nothing further to be skipped, except perhaps the frame at which an allocation failed.
  abbrev pub HearsLast : Stop → List ℕ × L → L → Type 0
  HearsLast exhausted now last = (last ≡ now.1) ⊎ ((rest : List ℕ) × PassesOver now (rest, last))
  HearsLast stop now last = last ≡ now.1

  -- A session whose messages and wake-ups are the first frames of a text. About its end, the rest of the text and the
  -- bytes that were written, it says the same as about a session that skips nothing.
  abbrev pub GivesAndTells : SessionPart → List ℕ → Option (List ℕ) → L → L → Option (List ℕ)
      → Option (List ℕ) → Result SessionEnd SessionFault → Type 0
  GivesAndTells P text left first last before after result =
      SessionOver ReadsFrame P (text, first) (λ answer stop at.
      Ends limit left result answer stop at.0
      × HearsLast stop at last) (Wrote before after result)
