use Rattle.lsp_proxy.proofs.Carried.{wrote_from, wrote_kept}
use Rattle.lsp_proxy.proofs.passing.write_piece.Goals as goal
use Rattle.lsp_proxy.proofs.passing.write_piece.Goals.{in-Ok-write, in-Err-write}

pub loop-preserved : goal.loop-preserved
loop-preserved g c = elim c.match-write.branch [
  | in-Ok-write w ↦ rw w.rest-is (wrote_from _ _ _ _ _ _ c.loop.invariant
      (rw w.in-Ok-write.is at c.write.ensures.bytes))
  | in-Err-write w ↦ rw w.rest-is (wrote_kept _ _ _ _ _ c.loop.invariant
      (rw w.in-Err-write.is at c.write.ensures.bytes))
]
