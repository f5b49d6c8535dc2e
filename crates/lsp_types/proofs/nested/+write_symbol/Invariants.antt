use Rattle.lsp_types.specs.Written.{document_symbol}
use Rattle.lsp_types.proofs.WriteLemmas.{HasFirst}
use Rattle.lsp_types.proofs.nested.+write_symbol.Given as goal

abbrev pub invariant-loop-child : goal.invariant-loop-child
invariant-loop-child g l =
    HasFirst g.S.JsonSink.holds document_symbol l.child-items l.child-index l.initial.out l.out
