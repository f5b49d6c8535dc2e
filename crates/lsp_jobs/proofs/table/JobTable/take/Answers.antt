use Rattle.std.proofs.Common.{◌∙◌, ap}
use Rattle.crossbeam_channel.specs.Claims.{view as knows}
use Rattle.lsp_jobs.proofs.Tables.{said_by}
use Rattle.lsp_jobs.specs.Outcomes.{all_jobs}
use Rattle.lsp_jobs.specs.Waiting.{entry_of}
use Rattle.lsp_jobs.proofs.table.JobTable.take.Goals as goal

pub returns-then-is_awaited-clause-said : goal.returns-then-is_awaited-clause-said
returns-then-is_awaited-clause-said g c =
    let table = c.take_item.new.self in
    let awaited = c.is_awaited.ensures c.if-is_awaited.true in
    said_by g.J.Job (all_jobs (knows table.pass)) (entry_of table.jobs) (entry_of c.args.self.now.jobs)
    c.in_ok-item.item awaited.0 (ap entry_of (c.in_ok-item.ensures.same ∙ c.loop.invariant)) table.known.4
    c.in_ok-item.ensures.said awaited.1 awaited.2

pub returns-then-is_awaited-clause-same : goal.returns-then-is_awaited-clause-same
returns-then-is_awaited-clause-same g c = c.in_ok-item.ensures.same ∙ c.loop.invariant

pub returns-in_err-item-clause-same : goal.returns-in_err-item-clause-same
returns-in_err-item-clause-same g c = c.in_err-item.ensures.same ∙ c.loop.invariant

pub loop-preserved : goal.loop-preserved
loop-preserved g c = c.in_ok-item.ensures.same ∙ c.loop.invariant
