use Rattle.std.proofs.Common.{ℕ, List, ap, inr, subst, sym}
use Rattle.std.specs.List.{concat}
use Rattle.lsp_message.specs.FrameInput.{AwaitsMore}
use Rattle.lsp_session.proofs.Unread.{unread_none}
use Rattle.lsp_session.proofs.loops.byte_session.ByteSession.new.Goals as goal

pub returns-clause-served : goal.returns-clause-served
returns-clause-served g c =
    let input = c.new-2.result in
    inr (subst (λ (l : List ℕ). AwaitsMore input.limits l) (sym (unread_none c.new.result.stage
    (concat c.new-3.result.parts) (concat input.seen.parts) (ap concat c.new-3.ensures.parts))) c.new-2.ensures.awaits)
