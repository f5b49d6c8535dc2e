use Rattle.lsp_session.proofs.Knowing.{knows_service}
use Rattle.lsp_session.proofs.Lending.{talks_as}
use Rattle.lsp_session.proofs.loops.application.serve_application.Goals as goal

pub returns : goal.returns
returns g c =
    let new = c.serve_transport.new.service in
    talks_as _ _ (λ xs stop answer both.
    let known = knows_service g.A.Service.behavior c.begin.new.self new _ xs stop answer both in (
      c.begin.ensures new xs stop answer known.0,
      known.1,
    )) _ _ _ _ _ _ _ c.serve_transport.ensures
