use Rattle.lsp_session.proofs.Lending.{talks_as}
use Rattle.lsp_acts.specs.ServerApplication.{ServerSession, held_by}
use Rattle.test_laws.proofs.acts.serve_keeper.Goals as goal

pub returns : goal.returns
returns g c = talks_as _ _ (λ xs stop answer both.
    let session = c.server_application_runs_its_server.ensures c.new-application.result
    c.serve_transport-outcome.new.service c.args.keeper xs stop answer c.new-application.ensures.queues both.0 in
    let laws = c.server_keeps_laws.ensures.exchanges _ _ xs stop answer session in
    record {
      session = session;
      laws = laws;
      gone = λ more gone id. c.lost_client_is_owed_what_is_held.ensures id laws.all stop _ answer gone
          (laws.once more id);
      closed = λ more got id. c.shutdown_leaves_nobody_waiting.ensures id laws.all stop _ answer (laws.none_held got)
          (laws.once more id);
      once = λ more whole id one. c.id_used_once_is_answered_once.ensures id xs laws.all stop _ answer laws.to_send
          whole (laws.never_more id) (laws.once more id) one;
    }) _ _ _ _ _ _ _ c.serve_transport-outcome.ensures
