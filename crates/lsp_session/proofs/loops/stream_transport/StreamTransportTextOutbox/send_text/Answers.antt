use Rattle.std.proofs.Common.{refl}
use Rattle.lsp_session.proofs.Noting.{adds_writes, sent_noted}
use Rattle.lsp_session.proofs.loops.stream_transport.StreamTransportTextOutbox.send_text.Goals as goal

pub returns-clause-sends : goal.returns-clause-sends
returns-clause-sends g c =
    let sends = rw (c.resumed-outbox.ensures.resumed.0, c.resumed-outbox.ensures.unwritten) at
    c.send_text_traced-outcome.ensures.sends in
    let told = c.send_text_traced-outcome.ensures.told in
    let noted = rw (c.of-reply.ensures, c.of-sent.ensures) at c.of_text.ensures.note in
    let added = rw (c.new-given.ensures.parts) at told.1.added in
    let appended = rw (c.resumed-outbox.ensures.unwritten) at told.1.appended in
    let bytes = rw (c.resumed-outbox.ensures.resumed.0) at told.2 in
    rw (c.fault-self.ensures) (
      (sends.0, refl),
      refl,
      refl,
      (
        told.0,
        sent_noted _ _ _ _ _ _ c.add.ensures.notes noted added,
        record { added = refl; appended = appended },
        bytes,
      ),
      adds_writes c.args.self.now.fault c.send_text_traced-outcome.new.self.fault c.new-given.result
          c.send_text_traced-outcome.new.given
          c.args.self.now.transcript.now c.add.new.self c.of_text.result c.new-given.ensures.failed
          (rw (c.resumed-outbox.ensures.resumed.0) at c.send_text_traced-outcome.ensures.failed) c.add.ensures.reads
          c.add.ensures.writes c.of_text.ensures.reader
          c.of_text.ensures.writer,
    )
