use Rattle.std.proofs.Common.{[], ◌∷◌, pos}
use Rattle.lsp_message.specs.Id.{number}
use Rattle.lsp_queue.specs.QueueRun.{registers, completes}
use Rattle.test_laws.proofs.queues.data_of_last.Goals as goal

pub returns : goal.returns
returns c =
    rw (
      c.complete-4.ensures.value,
      c.from-5.ensures,
      c.complete-2.ensures.removed,
      c.from-4.ensures,
      c.in_ok-register-3.ensures.ok,
      c.from-3.ensures,
      c.in_ok-register-2.ensures.ok,
      c.from-2.ensures,
      c.in_ok-register.ensures.ok,
      c.from.ensures,
      c.requires,
    ) (c.pending_is_last_registered.ensures (registers (number (pos 1)) 10 ∷ registers (number (pos 2)) 20
    ∷ registers (number (pos 1)) 30 ∷ completes (number (pos 2)) ∷ []) (number (pos 1)))
