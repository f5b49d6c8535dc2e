use Rattle.std.proofs.Common.{[], ◌∷◌, ◌++◌}
use Rattle.std.proofs.lemmas.Fn.{FoldsTo-push}
use Rattle.lsp_testing.proofs.OutputRead.{begins}
use Rattle.lsp_testing.specs.Traffic.{Reads}
use Rattle.lsp_testing.proofs.traffic.Traffic.read.Goals as goal

pub loop-preserved : goal.loop-preserved
loop-preserved c =
    let m = c.in-Some.message in
    let before = c.loop.invariant in
    let front = begins c.loop.rest.now c.read.new.reader.now c.in_ok-message.field-0 m c.in-Some.is
    c.in_ok-message.ensures.exact in (
      before.0 ++ m ∷ [],
      FoldsTo-push Reads _ before.0 (c.loop.rest.now, c.loop.self) m _ before.1
          (front, c.in_ok-add_arrived-in-Some.ensures),
    )
