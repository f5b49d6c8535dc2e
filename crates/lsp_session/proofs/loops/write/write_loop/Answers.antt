use Rattle.lsp_session.proofs.Handing.{carries_more, writes_until_closed, writes_until_fault}
use Rattle.lsp_session.proofs.loops.write.write_loop.Goals as goal

pub returns-in-Closed : goal.returns-in-Closed
returns-in-Closed g c = writes_until_closed _ _ _ _ _ _ c.loop-count.invariant c.in-Closed.ensures.receives

pub returns-in-Err : goal.returns-in-Err
returns-in-Err g c =
    writes_until_fault _ _ _ _ _ _ c.loop-count.invariant _ _ c.in-Message.ensures.receives c.in-Err.ensures.written
    c.write_and_offer.ensures.offered

pub loop-count-preserved : goal.loop-count-preserved
loop-count-preserved g c =
    carries_more _ _ _ _ _ _ c.loop-count.invariant _ c.in-Message.ensures.receives c.in-Ok.ensures.written
    c.write_and_offer.ensures.offered
