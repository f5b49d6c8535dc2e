use Rattle.std.specs.Prelude.{◌≡◌, [], string_bytes}
use Rattle.lsp_relay.specs.Relay.{IsOpen}
use Rattle.lsp_session.specs.SessionFailures.{write_failures}
use Rattle.lsp_threads.proofs.Frames.{Unwritten}
use Rattle.lsp_threads.specs.Framing.{parcel_bytes}
use Rattle.lsp_threads.specs.Passing.{GivesMore, IsFlushed, IsFlushedUnless, noted}
use Rattle.lsp_threads.proofs.Writes.{HeldMark}
use Rattle.lsp_threads.specs.Writes.{AllWrites, EndsAtMark, marks_of}
use Rattle.lsp_threads.proofs.frame_batch.write_texts.Given as goal

-- texts were taken, and written so far but for the last ones
abbrev pub invariant-loop : goal.invariant-loop
invariant-loop g l = record {
  relay : l.rx.relay ≡ l.fn.rx.relay;
  still_open : IsOpen l.rx.taken;
  unwritten : Unwritten (parcel_bytes l.rx.taken) (string_bytes l.pending) l.fault (noted l.fn.given) (noted l.given);
  given : GivesMore l.fn.given.parts l.given.parts (g.W.Write.contents l.fn.writer) (g.W.Write.contents l.writer);
  flushed : IsFlushed l.fn.given.parts → IsFlushedUnless l.fault l.given.parts;
  failed : l.fn.given.failed ≡ [] → l.given.failed ≡ write_failures l.fault;
  order : l.fn.given.parts ≡ [] → l.fn.order ≡ [] → AllWrites (EndsAtMark (marks_of l.rx.taken)) l.order l.given.parts;
  last : HeldMark (string_bytes l.pending) l.last.parts (parcel_bytes l.rx.taken) (marks_of l.rx.taken);
}
