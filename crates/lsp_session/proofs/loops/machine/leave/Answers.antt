use Rattle.std.proofs.Common.{rules, ◌≡◌, refl, inl, true, false, ◌&&◌}
use Rattle.std.proofs.lemmas.Result.{err_from_is_err_and}
use Rattle.lsp_message.specs.View.{message_view}
use Rattle.lsp_session.proofs.MachineRows.{late_row, leave_fails, leave_row}
use Rattle.lsp_session.specs.Session.{is_reply}
use Rattle.lsp_session.proofs.loops.machine.leave.Goals as goal

pub returns-then-is_passed_over : goal.returns-then-is_passed_over
returns-then-is_passed_over g c =
    let passes : (g.S.Service.behavior.passes_late && is_reply (message_view c.args.message)) ≡ true = search rules in
    rw c.silent.ensures (inl (late_row g.S.Service.behavior _ _ _ passes), refl)

pub returns-in_err-shutdown_on : goal.returns-in_err-shutdown_on
returns-in_err-shutdown_on g c =
    let p = err_from_is_err_and c.from_residual.result c.from_residual.ensures.1 in
    let other : (g.S.Service.behavior.passes_late && is_reply (message_view c.args.message)) ≡ false = search rules in
    rw (p.1, p.2) (leave_fails g.S.Service.behavior _ _ _ _ other c.in_err-shutdown_on.ensures)

pub returns : goal.returns
returns g c = rw (c.silent-2.ensures, c.shut_down.ensures) (
  inl (leave_row g.S.Service.behavior _ _ _ _ c.in_ok-shutdown_on.ensures),
  refl,
)
