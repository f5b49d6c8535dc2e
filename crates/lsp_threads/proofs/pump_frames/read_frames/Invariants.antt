use Rattle.std.specs.Prelude.{◌≡◌, ℕ, List, [], ◌++◌, Some}
use Rattle.std.specs.List.{concat}
use Rattle.lsp_message.specs.Failures.{AreInterrupted}
use Rattle.lsp_message.specs.Told.{Takes}
use Rattle.lsp_session.proofs.Handing.{Handed}
use Rattle.lsp_threads.specs.Framing.{FramingSends}
use Rattle.lsp_threads.proofs.pump_frames.read_frames.Given as goal

-- frames of the messages so far were added, which are what was taken
abbrev pub invariant-loop : goal.invariant-loop
invariant-loop g l = record {
  handed : (at : List ℕ) → Handed l.limits FramingSends (Some (concat l.taken.parts ++ at)) (Some at)
      l.fn.outbox.framing l.outbox.framing;
  taken : Takes l.taken.parts [] l.taken.parts (g.S.Read.remaining l.fn.reader.inner) (g.S.Read.remaining
      l.reader.inner);
  failed : AreInterrupted l.taken.failed;
  relay : l.outbox.framing.relay ≡ l.fn.outbox.framing.relay;
}
