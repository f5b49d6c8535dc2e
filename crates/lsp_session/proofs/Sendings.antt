-- A message that an outbox over a writer sent, of which no write had failed.
use Rattle.std.proofs.Common.{◌≡◌, refl, sym, ◌∙◌, ℕ, List, [], ◌∷◌, append-nil, false, Option, Some, None}
use Rattle.std.specs.Io.KnownBytes.{Keeps}
use Rattle.std.specs.Prelude.{Ok, MatchOption, is_some}
use Rattle.lsp_message.specs.Failures.{WriterFails}
use Rattle.lsp_message.specs.Message.{Message}
use Rattle.lsp_message.specs.Told.{Parts, Given, WritesParts}
use Rattle.lsp_message.specs.Written.{Writes}
use Rattle.lsp_message.specs.declared.frame.WriteFault.{WriteFault}
use Rattle.lsp_message.specs.declared.frame.WriteFault.TheVariants.{Output, Memory}
use Rattle.lsp_message.specs.declared.frame.byte_trace.ByteTrace.{ByteTrace}
use Rattle.lsp_session.specs.Account.{took}
use Rattle.lsp_session.specs.ActBytes.{SentParts}
use Rattle.lsp_session.specs.FrameBoxes.{kept_write, Told}
use Rattle.lsp_session.specs.SessionFailures.{FailsInSend}

module _ (m : Message) (a b : Option (List ℕ)) where
  -- what the writer holds
  pub written : (fault : Option WriteFault) → is_some fault ≡ false → Writes m a (Ok tt) b
      → MatchOption fault (Writes m a (kept_write fault) b × Told (Ok tt) fault) (λ kept. ⊥ × (fault ≡ Some kept)
      × Keeps a b)
  written None none writes = (writes, tt)
  written (Some fault) none writes = absurd (cc (none))

  -- the parts that were given: a frame, and it was flushed
  pub sent_whole : (fault : Option WriteFault) (t u : Parts) → is_some fault ≡ false
      → Given (WritesParts m (Ok tt)) t u a b → Given (SentParts fault (took m) fault) t u a b
  sent_whole None t u none (parts, gives, is) = (parts, gives, (is.0, is.1, refl))
  sent_whole (Some fault) t u none given = absurd (cc (none))

-- ---- how the writer failed

-- nothing was written
pub fails_at_kept : (fault : Option WriteFault) (a : ByteTrace) → FailsInSend fault fault a a
fails_at_kept None a = ([], sym (append-nil a.failed), refl)
fails_at_kept (Some fault) a = ([], sym (append-nil a.failed), (refl, refl))

-- a frame was written
pub fails_at_sent : (fault : Option WriteFault) (a b : ByteTrace) → is_some fault ≡ false → WriterFails None a b
    → FailsInSend fault fault a b
fails_at_sent None a b none same = ([], same ∙ sym (append-nil a.failed), refl)
fails_at_sent (Some fault) a b none same = absurd (cc (none))

-- a write that failed
pub fails_at_lost : (before : Option WriteFault) (fault : WriteFault) (a b : ByteTrace) → is_some before ≡ false
    → WriterFails (Some fault) a b → FailsInSend before (Some fault) a b
fails_at_lost None (Output kind) a b none is = (kind ∷ [], is, refl)
fails_at_lost None Memory a b none is = ([], is ∙ sym (append-nil a.failed), refl)
fails_at_lost (Some kept) fault a b none is = absurd (cc (none))
