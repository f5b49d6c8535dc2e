use Rattle.lsp_judge.proofs.Decided.{decided}
use Rattle.lsp_judge.proofs.laws.a_decided_breach_is_in_each_order.Goals as goal

pub returns : goal.returns
returns c = decided c.a_sure_breach_is_in_each_order.ensures c.a_late_breach_is_in_each_order.ensures.breach
