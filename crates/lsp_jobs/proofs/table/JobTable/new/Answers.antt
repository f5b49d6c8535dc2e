use Rattle.std.proofs.Common.{ap, length, []}
use Rattle.lsp_jobs.proofs.PendingLemmas.{pending_empty}
use Rattle.lsp_jobs.proofs.Tables.{known_all, none_wait}
use Rattle.lsp_jobs.specs.Waiting.{job_of}
use Rattle.lsp_jobs.proofs.table.JobTable.new.Goals as goal

pub invariant_of-result : goal.invariant_of-result
invariant_of-result g c =
    let ends = c.in_ok-sender.ensures.ends in
    let all = known_all _ [] c.in_ok-sender.ensures.none in
    record { known = (ends.0, ends.1, all.0, ap length all.1, none_wait _ _ c.new.ensures) }

pub returns : goal.returns
returns g c = pending_empty job_of _ c.new.ensures
