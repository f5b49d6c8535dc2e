use Rattle.std.proofs.Common.{◌≡◌, length}
use Rattle.lsp_model.specs.Lines.{has_lone_return}
use Rattle.lsp_model.proofs.lines.has_lone_return.Given as goal

abbrev pub decreases-loop-rest : goal.decreases-loop-rest
decreases-loop-rest l = length l.rest

-- what is left has a lone carriage return if the text has one
abbrev pub invariant-loop-rest : goal.invariant-loop-rest
invariant-loop-rest l = has_lone_return l.fn.text ≡ has_lone_return l.rest
