use Rattle.std.proofs.Common.{◌∙◌}
use Rattle.lsp_message.proofs.ToldWrites.{given_flushed}
use Rattle.lsp_message.proofs.frame.write.write_frames_traced.Goals as goal

pub returns-in-Ok-clause-told : goal.returns-in-Ok-clause-told
returns-in-Ok-clause-told g c = given_flushed _ _ _ _ _ _ _ _ c.as_bytes.ensures.value c.add.ensures.parts
    c.in_ok-write_bytes.ensures.told c.in-Ok.ensures.bytes

pub returns-in-Ok-clause-failed : goal.returns-in-Ok-clause-failed
returns-in-Ok-clause-failed g c = c.add.ensures.failed ∙ c.in_ok-write_bytes.ensures.failed
