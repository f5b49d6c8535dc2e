use Rattle.std.proofs.Common.{refl, inr}
use Rattle.lsp_session.proofs.lifecycle.initialized.finish_within.Goals as goal

pub returns-in-Err-clause-finishes : goal.returns-in-Err-clause-finishes
returns-in-Err-clause-finishes g c = rw (c.from.ensures, ← c.ok_reply.ensures) (inr (
  c.in-Err.fault,
  c.in-Err.ensures.sends,
  refl,
  refl,
  refl,
))
