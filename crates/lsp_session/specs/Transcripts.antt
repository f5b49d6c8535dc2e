-- What a transport did, as its transcript has it.
use Rattle.serde_json.specs.View.{view}
use Rattle.lsp_message.specs.Failures.{Kinds}
use Rattle.lsp_message.specs.Message.{response}
use Rattle.lsp_message.specs.View.{message_view}
use Rattle.lsp_session.specs.Account.{gave, took, lost}
use Rattle.lsp_session.specs.ActBytes.{Note}
use Rattle.lsp_session.specs.Event.{event_view, arrival_view}
use Rattle.lsp_session.specs.declared.loops.transcript.Noted.{Noted}
use Rattle.lsp_session.specs.declared.loops.transcript.Transcript.{Transcript}
use Rattle.std.specs.List.{flat_map}
use Rattle.std.specs.Prelude.{List, [], map, Ok}
use Rattle.lsp_session.specs.declared.loops.transcript.Noted.TheVariants.{Gave, Came, Took, Lost, TookText, LostText}

-- an act, and the parts that passed in it
abbrev pub note_view : Noted → Note
note_view (Gave event taken) = (gave (event_view event.value), taken.parts)
note_view (Came arrival taken) = (gave (arrival_view arrival.value), taken.parts)
note_view (Took m given) = (took (message_view m.value), given.parts)
note_view (Lost m given) = (lost (message_view m.value), given.parts)
note_view (TookText id text given) = (took (response id.value (Ok (view text.value))), given.parts)
note_view (LostText id text given) = (lost (response id.value (Ok (view text.value))), given.parts)

-- the acts of a transcript, each with its bytes
abbrev pub notes_of : Transcript → List Note
notes_of t = map note_view t.acts

-- the failures of the reader in an act
abbrev pub reader_failed : Noted → Kinds
reader_failed (Gave event taken) = taken.failed
reader_failed (Came arrival taken) = taken.failed
reader_failed act = []

-- the failures of the writer in an act
abbrev pub writer_failed : Noted → Kinds
writer_failed (Gave event taken) = []
writer_failed (Came arrival taken) = []
writer_failed (Took m given) = given.failed
writer_failed (Lost m given) = given.failed
writer_failed (TookText id text given) = given.failed
writer_failed (LostText id text given) = given.failed

-- all failures of the reader, in order
abbrev pub reads_failed : Transcript → Kinds
reads_failed t = flat_map reader_failed t.acts

-- all failures of the writer, in order
abbrev pub writes_failed : Transcript → Kinds
writes_failed t = flat_map writer_failed t.acts
