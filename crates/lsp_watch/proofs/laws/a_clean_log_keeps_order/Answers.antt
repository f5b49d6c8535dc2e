use Rattle.lsp_watch.proofs.CleanReplies.{replies_once}
use Rattle.lsp_watch.proofs.CleanOrder.{keeps_order}
use Rattle.lsp_watch.proofs.laws.a_clean_log_keeps_order.Goals as goal

pub returns-clause-replies : goal.returns-clause-replies
returns-clause-replies c = replies_once

pub returns-clause-order : goal.returns-clause-order
returns-clause-order c = keeps_order
