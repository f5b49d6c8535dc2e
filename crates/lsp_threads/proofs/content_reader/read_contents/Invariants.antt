use Rattle.std.specs.Prelude.{◌≡◌, []}
use Rattle.lsp_message.specs.Failures.{AreInterrupted}
use Rattle.lsp_message.specs.Told.{Takes}
use Rattle.lsp_threads.specs.Contents.{AreContents}
use Rattle.lsp_threads.proofs.content_reader.read_contents.Given as goal

-- the content parts so far were added, and are what was taken
abbrev pub invariant-loop : goal.invariant-loop
invariant-loop g l = record {
  are : AreContents l.limits l.taken.parts l.outbox.contents;
  taken : Takes l.taken.parts [] l.taken.parts (g.S.Read.remaining l.fn.reader.inner) (g.S.Read.remaining
      l.reader.inner);
  failed : AreInterrupted l.taken.failed;
  relay : l.outbox.relay ≡ l.fn.outbox.relay;
  wakeable : l.outbox.wakeable ≡ l.fn.outbox.wakeable;
}
