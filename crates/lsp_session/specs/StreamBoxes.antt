-- An inbox over a reader, as contracts see it.
use Rattle.std.specs.Prelude.{◌≡◌, ℕ, List, Option}
use Rattle.lsp_session.specs.Event.{Event}
use Rattle.lsp_session.specs.Streams.{Stream, StreamGives}
use Rattle.lsp_session.specs.declared.loops.stream_inbox.StreamInbox.{StreamInbox}

module _ {R : Type 0} (remaining : R → Option (List ℕ)) where
  -- what is seen of the inbox
  abbrev pub stream_of : StreamInbox R → Stream
  stream_of inbox = record { remaining = remaining inbox.reader.now; end = inbox.end }

  -- one receive, which keeps the reader that the inbox was lent, and its limit
  abbrev pub StreamInboxGives : StreamInbox R → Event → StreamInbox R → Type 0
  StreamInboxGives old event new =
      StreamGives old.limits (stream_of old) event (stream_of new)
      × (new.reader.ghost_name ≡ old.reader.ghost_name) × (new.limits ≡ old.limits)
