use Rattle.lsp_proxy.proofs.Carried.{Wrote}
use Rattle.lsp_proxy.proofs.passing.write_piece.Given as goal

-- the first bytes of the piece were written, and the rest is left
abbrev pub invariant-loop : goal.invariant-loop
invariant-loop g l = Wrote (g.W.Write.contents l.initial.writer) (g.W.Write.contents l.writer) l.piece l.rest
