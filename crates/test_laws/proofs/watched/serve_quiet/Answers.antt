use Rattle.lsp_session.proofs.Lending.{talks_as}
use Rattle.test_laws.proofs.watched.serve_quiet.Goals as goal

pub returns : goal.returns
returns g c = talks_as _ _ (λ xs stop answer both.
    let kept = c.session_answers_requests.ensures _ _ _ xs stop answer both.0 in
    record {
      in_log = λ log is. (
        c.server_of_replies_is_clean.ensures xs stop answer log kept.0 is,
        c.server_keeps_lifecycle.ensures _ _ xs stop answer log kept.1 is,
        c.a_session_is_recorded.ensures xs log is,
      );
      as_seen = λ log seen ids. (
        c.recorded_server_of_replies_is_clean.ensures xs stop answer log kept.0 seen ids,
        c.recorded_server_keeps_lifecycle.ensures _ _ xs stop answer log kept.1 seen ids,
      );
    }) _ _ _ _ _ _ _ c.serve_application.ensures
