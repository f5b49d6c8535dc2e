use Rattle.std.proofs.Common.{arith}
use Rattle.lsp_documents.proofs.NoticeLemmas.{deciding_all}
use Rattle.lsp_documents.proofs.changes.since_whole.Goals as goal

pub loop-index-init : goal.loop-index-init
loop-index-init c = record { within = omega arith; decides = deciding_all c.args.changes.now }
