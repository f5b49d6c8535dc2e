use Rattle.std.proofs.Common.{rules, ◌≡◌, refl, false}
use Rattle.lsp_message.specs.Methods.{is_early}
use Rattle.lsp_message.specs.View.{message_view}
use Rattle.lsp_session.proofs.MachineRows.{start_fails}
use Rattle.lsp_session.proofs.loops.machine.start.Goals as goal

pub returns-else-ne : goal.returns-else-ne
returns-else-ne g c =
    let late : is_early (message_view c.args.message) ≡ false = search rules in
    rw c.in-Notification.is (start_fails g.S.Service.behavior _ _ _ tt (rw c.in-Notification.is at late)
    c.unexpected.ensures)

pub returns-in-Response : goal.returns-in-Response
returns-in-Response g c = rw c.in-Response.is (start_fails g.S.Service.behavior _ _ _ tt refl
    c.unexpected-in-Response.ensures)
