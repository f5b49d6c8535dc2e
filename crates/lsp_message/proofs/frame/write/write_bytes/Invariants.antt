use Rattle.std.proofs.Common.{◌≡◌, ◌++◌, length}
use Rattle.std.specs.List.{concat}
use Rattle.lsp_message.specs.Told.{Given}
use Rattle.lsp_message.proofs.frame.write.write_bytes.Given as goal

abbrev pub invariant-loop-rest : goal.invariant-loop-rest
invariant-loop-rest g l = record {
  told : Given (λ parts. l.bytes ≡ concat parts ++ l.rest) l.initial.given.parts l.given.parts (g.W.Write.contents
      l.initial.writer) (g.W.Write.contents l.writer);
  failed : l.given.failed ≡ l.initial.given.failed;
}

abbrev pub decreases-loop-rest : goal.decreases-loop-rest
decreases-loop-rest g l = length l.rest
