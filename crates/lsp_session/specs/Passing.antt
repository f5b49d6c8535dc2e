-- Content parts that are no messages, and an inbox that skips them (LSP 3.17, "Base Protocol").
use Rattle.std.specs.Prelude.{◌≡◌, Bool, true, false, Option, Some, None, Err}
use Rattle.lsp_message.specs.declared.frame.ReadFault.{ReadFault}
use Rattle.lsp_message.specs.declared.frame.ReadFault.TheVariants.{BodyNotText, NoJson, NoMessage, Batch}
use Rattle.lsp_message.specs.declared.frame.limits.Limits.{Limits}
use Rattle.lsp_session.specs.Event.{Event, woken}
use Rattle.lsp_session.specs.Streams.{Stream, StreamGives, Reads}
use Rattle.lsp_session.specs.declared.loops.ReadEnd.{ReadEnd}
use Rattle.lsp_session.specs.declared.loops.ReadEnd.TheVariants.{Fault}

-- The content part was read to its end and is no message: it is not UTF-8, no JSON, another tree, or a batch.
abbrev pub is_bad_content : ReadFault → Bool
is_bad_content BodyNotText = true
is_bad_content NoJson = true
is_bad_content NoMessage = true
is_bad_content Batch = true
is_bad_content fault = false

-- such a content part ended the messages
abbrev pub ended_at_content : Option ReadEnd → Bool
ended_at_content (Some (Fault fault)) = is_bad_content fault
ended_at_content end = false

module _ {L : Type 0} (passes : L → ReadFault → L → Type 0) (limit : Limits) where
  -- What one receive returns. For a wake-up the bytes begin with a content part that is no message, the policy allows
  -- its fault to be skipped, and the bytes after it are left. Each other event is that of an inbox which skips nothing,
  -- and the policy allows nothing.
  abbrev pub TolerantGives : Stream × L → Event → Stream × L → Type 0
  TolerantGives old woken new =
      (fault : ReadFault) × (is_bad_content fault ≡ true)
      × Reads limit old.0.remaining (Err fault) new.0.remaining × passes old.1 fault new.1
      × (old.0.end ≡ None) × (new.0.end ≡ None)
  TolerantGives old event new = StreamGives limit old.0 event new.0 × (new.1 ≡ old.1)
