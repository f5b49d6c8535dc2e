use Rattle.std.proofs.Common.{refl}
use Rattle.lsp_threads.proofs.thread_ends.ThreadEndsTextOutbox.send_text.Goals as goal

pub returns-clause-sends : goal.returns-clause-sends
returns-clause-sends g c = (
  c.send_text.ensures.sends,
  refl,
  (rw c.so_far-taken.ensures.account at c.send_text.ensures.marks, c.so_far-taken.ensures.learned),
  (refl, refl, refl),
)
