-- The acts of a transcript that grew.
use Rattle.lsp_message.specs.Failures.{Kinds}
use Rattle.lsp_message.specs.Told.{Parts}
use Rattle.lsp_message.specs.declared.frame.WriteFault.{WriteFault}
use Rattle.lsp_message.specs.declared.frame.byte_trace.ByteTrace.{ByteTrace}
use Rattle.lsp_session.specs.Account.{Act, gave}
use Rattle.lsp_session.specs.ActBytes.{Note, acts_in}
use Rattle.lsp_session.specs.Event.{Event}
use Rattle.lsp_session.specs.SessionFailures.{FailsInWait, FailsInSend, AddsReads, AddsWrites}
use Rattle.lsp_session.specs.Transcripts.{notes_of, reader_failed, reads_failed, writer_failed, writes_failed}
use Rattle.lsp_session.specs.declared.loops.ReadEnd.{ReadEnd}
use Rattle.lsp_session.specs.declared.loops.transcript.Noted.{Noted}
use Rattle.lsp_session.specs.declared.loops.transcript.Transcript.{Transcript}
use Rattle.std.proofs.Common.{◌≡◌, refl, sym, ◌∙◌, ap, List, [], ◌∷◌, ◌++◌, append_assoc, append-nil, Option}
use Rattle.std.specs.List.{flat_map}

pub acts_append : (ns ms : List Note) → acts_in (ns ++ ms) ≡ acts_in ns ++ acts_in ms
acts_append [] ms = refl
acts_append (n ∷ ns) ms = ap (λ l. n.0 ∷ l) (acts_append ns ms)

pub acts_grown : (old new : List Note) (note : Note) → new ≡ old ++ note ∷ [] → acts_in new ≡ acts_in old ++ note.0 ∷ []
acts_grown old new note grown = ap (λ notes. acts_in notes) grown ∙ acts_append old (note ∷ [])

-- a send, as it is added to a transcript
pub sent_noted : (old new : List Note) (act : Act) (note : Note) (given parts : Parts) → new ≡ old ++ note ∷ [] → note
    ≡ (act, given) → given ≡ parts → new ≡ old ++ (act, parts) ∷ []
sent_noted old new act note given parts grown is added = grown ∙ ap (λ (n : Note). old ++ n ∷ []) (is
    ∙ ap (λ (p : Parts). (act, p)) added)

-- ---- failures

-- one more act
pub failed_more : (failed : Noted → Kinds) (acts : List Noted) (act : Noted) → flat_map failed (acts ++ act ∷ [])
    ≡ flat_map failed acts ++ failed act
failed_more failed [] act = append-nil (failed act)
failed_more failed (first ∷ acts) act = ap (λ l. failed first ++ l) (failed_more failed acts act)
    ∙ sym (append_assoc (failed first) (flat_map failed acts) (failed act))

-- a send
pub adds_writes : (before after : Option WriteFault) (a b : ByteTrace) (old new : Transcript) (noted : Noted)
    → a.failed ≡ [] → FailsInSend before after a b → reads_failed new ≡ reads_failed old ++ reader_failed noted
    → writes_failed new ≡ writes_failed old ++ writer_failed noted → reader_failed noted ≡ []
    → writer_failed noted ≡ b.failed → AddsWrites before after old new
adds_writes before after a b old new noted fresh (kinds, failed, fails) reads writes unread written = (
  kinds,
  writes ∙ ap (λ l. writes_failed old ++ l) (written ∙ failed ∙ ap (λ l. l ++ kinds) fresh),
  reads ∙ ap (λ l. reads_failed old ++ l) unread ∙ append-nil (reads_failed old),
  fails,
)

-- a wait
pub adds_reads : (event : Event) (before after : Option ReadEnd) (a b : ByteTrace) (old new : Transcript) → a.parts ≡ []
    → a.failed ≡ [] → FailsInWait before after a b → notes_of new ≡ notes_of old ++ (gave event, b.parts) ∷ []
    → reads_failed new ≡ reads_failed old ++ b.failed → writes_failed new ≡ writes_failed old ++ []
    → AddsReads event before after old new
adds_reads event before after a b old new none fresh (parts, kinds, taken, failed, fails) notes reads writes = (
  parts,
  kinds,
  notes ∙ ap (λ (ps : Parts). notes_of old ++ (gave event, ps) ∷ []) (taken ∙ ap (λ l. l ++ parts) none),
  reads ∙ ap (λ l. reads_failed old ++ l) (failed ∙ ap (λ l. l ++ kinds) fresh),
  writes ∙ append-nil (writes_failed old),
  fails,
)
