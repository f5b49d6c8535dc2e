use Rattle.std.proofs.Common.{◌∙◌}
use Rattle.lsp_message.proofs.ToldWrites.{given_more}
use Rattle.lsp_message.proofs.frame.write.write_bytes.Goals as goal

pub loop-rest-preserved : goal.loop-rest-preserved
loop-rest-preserved g c = record {
  told = given_more _ _ _ _ _ _ _ _ c.in-Ok.count c.add.ensures.parts c.loop-rest.invariant.told c.in-Ok.ensures.bytes;
  failed = c.add.ensures.failed ∙ c.loop-rest.invariant.failed;
}
