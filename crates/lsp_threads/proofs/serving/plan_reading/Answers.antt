use Rattle.lsp_threads.proofs.ContentReads.{may_send_nothing}
use Rattle.lsp_threads.proofs.serving.plan_reading.Goals as goal

pub plan-requires-clause-begins : goal.plan-requires-clause-begins
plan-requires-clause-begins g c = may_send_nothing g.W.Source.source
