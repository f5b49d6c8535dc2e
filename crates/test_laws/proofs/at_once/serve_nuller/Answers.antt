use Rattle.std.proofs.Common.{refl, subst, sym}
use Rattle.lsp_acts.specs.AtOnce.{AnswersEach}
use Rattle.lsp_session.proofs.Lending.{talks_as}
use Rattle.test_laws.proofs.at_once.serve_nuller.Goals as goal

pub returns : goal.returns
returns g c = talks_as _ _ (λ xs stop answer both.
    let session = c.server_application_runs_its_server.ensures c.new-application.result
    c.serve_transport.new.service c.args.nuller xs stop answer c.new-application.ensures.queues both.0 in
    c.server_that_answers_at_once_leaves_none.ensures c.args.nuller _ xs stop answer (λ old id method params acts new
    did.
    subst (λ all. AnswersEach all id) (sym did.1) (refl, tt)) session) _ _ _ _ _ _ _ c.serve_transport.ensures
