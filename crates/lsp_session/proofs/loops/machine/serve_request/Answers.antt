use Rattle.std.proofs.Common.{rules, ◌≡◌, inl, ap, true, Some, codes}
use Rattle.std.specs.Prelude.{string_bytes}
use Rattle.std.specs.Str.{bytes_eq}
use Rattle.lsp_session.proofs.MachineRows.{shutdown_row}
use Rattle.lsp_session.proofs.loops.machine.serve_request.Goals as goal

pub returns : goal.returns
returns g c =
    let asks : bytes_eq (string_bytes c.args.request.method) (codes "shutdown") ≡ true = search rules in (
      inl (shutdown_row g.S.Service.behavior _ _ _ _ _ _ _ c.in_ok-clone.ensures asks c.in_ok-output.ensures),
      ap (λ x. Some x) c.in_ok-clone.ensures,
    )
