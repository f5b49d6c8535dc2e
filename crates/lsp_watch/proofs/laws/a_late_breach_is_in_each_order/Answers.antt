use Rattle.lsp_watch.proofs.LateBreach.{late_in_each_order, same_left}
use Rattle.lsp_watch.proofs.laws.a_late_breach_is_in_each_order.Goals as goal

pub returns-clause-breach : goal.returns-clause-breach
returns-clause-breach c = late_in_each_order

pub returns-clause-left : goal.returns-clause-left
returns-clause-left c = same_left
