use Rattle.lsp_server.proofs.Gathering.{fails_after}
use Rattle.lsp_server.proofs.writing.fail_behind.Goals as goal

pub returns-in-Err-clause-written : goal.returns-in-Err-clause-written
returns-in-Err-clause-written g c = fails_after _ _ _ _ c.in-Err.ensures.fault c.in-Err.ensures.begun
