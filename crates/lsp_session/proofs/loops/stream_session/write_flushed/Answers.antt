use Rattle.lsp_session.proofs.Driver.{wrote_more}
use Rattle.lsp_session.proofs.loops.stream_session.write_flushed.Goals as goal

pub loop-rest-preserved : goal.loop-rest-preserved
loop-rest-preserved g c = wrote_more _ _ _ _ _ _ _ c.loop-rest.invariant.1 c.loop-rest.invariant.2 c.in-Ok.ensures.bytes
