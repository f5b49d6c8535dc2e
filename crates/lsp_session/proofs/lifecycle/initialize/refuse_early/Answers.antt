use Rattle.std.proofs.Common.{[], ◌∷◌}
use Rattle.lsp_session.proofs.Handshake.{passes_request, refuses_request}
use Rattle.lsp_session.proofs.lifecycle.initialize.refuse_early.Goals as goal

pub returns-in-Ok-send : goal.returns-in-Ok-send
returns-in-Ok-send g c = (_ ∷ [], passes_request _ _ _ _ _ _ _ c.requires c.in-Ok.ensures c.in-Ok-send.ensures.sends)

pub returns-in-Err : goal.returns-in-Err
returns-in-Err g c = rw c.from.ensures (refuses_request _ _ _ _ _ _ _ c.requires c.in-Ok.ensures _
    c.in-Err.ensures.sends)
