use Rattle.std.proofs.Common.{refl, inr}
use Rattle.lsp_session.proofs.lifecycle.initialized.finish.Goals as goal

pub returns-in-Err : goal.returns-in-Err
returns-in-Err g c = rw (c.from.ensures, ← c.ok_reply.ensures) (inr (
  c.in-Err.fault,
  c.in-Err.ensures.sends,
  refl,
  refl,
))
