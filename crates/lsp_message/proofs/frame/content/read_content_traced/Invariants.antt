use Rattle.std.proofs.Common.{◌≡◌, ◌+◌, ◌≤◌, None}
use Rattle.std.specs.List.{concat}
use Rattle.lsp_message.specs.Failures.{ReaderFails}
use Rattle.lsp_message.specs.FrameInput.{AwaitsMore}
use Rattle.lsp_message.specs.Told.{Told}
use Rattle.lsp_message.specs.FrameLooks.{noted}
use Rattle.lsp_message.proofs.frame.content.read_content_traced.Given as goal

abbrev pub invariant-loop-look : goal.invariant-loop-look
invariant-loop-look g l = record {
  limits : l.input.limits ≡ l.fn.limits;
  told : Told (λ parts. concat parts ≡ concat l.input.seen.parts) l.initial.taken.parts l.taken.parts
      (g.R.Read.remaining l.initial.reader) (g.R.Read.remaining l.reader);
  awaits : AwaitsMore l.input.limits (concat l.input.seen.parts);
  failed : ReaderFails None l.initial.taken l.taken;
  tried : noted l.initial.taken + l._look ≤ noted l.taken;
}
