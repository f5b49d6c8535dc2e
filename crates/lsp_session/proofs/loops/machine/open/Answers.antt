use Rattle.std.proofs.lemmas.Result.{err_from_is_err_and}
use Rattle.lsp_session.proofs.MachineRows.{open_fails}
use Rattle.lsp_session.proofs.loops.machine.open.Goals as goal

pub returns-in_err-finished : goal.returns-in_err-finished
returns-in_err-finished g c =
    let p = err_from_is_err_and c.from_residual.result c.from_residual.ensures.1 in
    rw (p.1, p.2) (open_fails g.S.Service.behavior _ _ _ c.in_err-finished.ensures)
