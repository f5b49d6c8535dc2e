use Rattle.lsp_proxy.specs.Passing.{Carries}
use Rattle.lsp_proxy.proofs.passing.pass_on.Given as goal

-- what was read so far was written
abbrev pub invariant-loop : goal.invariant-loop
invariant-loop g l = Carries (g.R.Read.remaining l.initial.reader) (g.R.Read.remaining l.reader)
    (g.W.Write.contents l.initial.writer) (g.W.Write.contents l.writer)
