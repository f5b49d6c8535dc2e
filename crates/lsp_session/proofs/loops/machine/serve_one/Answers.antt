use Rattle.std.proofs.Common.{rules, ◌≡◌, refl, inl, true}
use Rattle.lsp_message.specs.Methods.{is_exit}
use Rattle.lsp_message.specs.View.{message_view}
use Rattle.lsp_session.proofs.MachineRows.{exit_row}
use Rattle.lsp_session.proofs.loops.machine.serve_one.Goals as goal

pub returns-then-is_exit : goal.returns-then-is_exit
returns-then-is_exit g c =
    let exits : is_exit (message_view c.args.message) ≡ true = search rules in
    rw (c.silent.ensures, c.closed.ensures) (inl (exit_row g.S.Service.behavior _ _ exits), refl)
