use Rattle.lsp_watch.proofs.EachOrder.{in_each_order}
use Rattle.lsp_watch.proofs.laws.a_sure_breach_is_in_each_order.Goals as goal

pub returns : goal.returns
returns c = in_each_order
