use Rattle.lsp_session.proofs.Lending.{talks_as}
use Rattle.test_laws.proofs.watched.serve_keeper.Goals as goal

pub returns : goal.returns
returns g c = talks_as _ _ (λ xs stop answer both.
    let laws = (c.server_keeps_laws.ensures.lawful _ _ xs stop answer both.0).1 in
    record {
      in_log = λ log is. c.server_keeps_lifecycle.ensures _ _ xs stop answer log laws.order is;
      as_seen = λ log seen ids. (
        c.recorded_server_is_clean.ensures _ _ _ xs stop answer log laws seen ids,
        c.server_replies_fit.ensures xs log laws.never_more seen ids,
      );
    }) _ _ _ _ _ _ _ c.serve_application.ensures
