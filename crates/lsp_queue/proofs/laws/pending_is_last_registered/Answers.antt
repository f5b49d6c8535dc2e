use Rattle.lsp_queue.proofs.QueueRuns.{get-after_all}
use Rattle.lsp_queue.proofs.laws.pending_is_last_registered.Goals as goal

pub returns : goal.returns
returns g c = get-after_all
