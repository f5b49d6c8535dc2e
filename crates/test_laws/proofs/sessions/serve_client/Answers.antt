use Rattle.std.proofs.Common.{◌≡◌, [], ◌++◌, ap, subst, sym, ◌∙◌}
use Rattle.serde_json.specs.View.{view}
use Rattle.lsp_session.proofs.Lending.{talks_as}
use Rattle.lsp_session.proofs.TellsBytes.{serves_as}
use Rattle.lsp_session.proofs.TransportInOrder.{keeps_account}
use Rattle.lsp_session.specs.ActBytes.{acts_in}
use Rattle.lsp_session.specs.Answered.{AnswersRequests}
use Rattle.lsp_session.specs.Dialog.{NeverBothWait}
use Rattle.lsp_session.specs.Session.{SessionOut}
use Rattle.lsp_session.specs.StreamTransports.{account_of}
use Rattle.test_laws.proofs.sessions.serve_client.Goals as goal

pub returns-clause-told : goal.returns-clause-told
returns-clause-told g c =
    let old = c.args.service.now in
    let new = c.serve_transport.new.service in
    serves_as _ _ _ (λ xs stop answer out. (
      c.handler_service_runs_its_handler.ensures old new xs stop answer out,
      record {
        order = c.session_keeps_order.ensures old new xs stop answer out;
        answers = (c.session_answers_requests.ensures _ _ _ xs stop answer
            (c.handler_service_runs_its_handler.ensures old new xs stop answer out)).0;
        replies_first = λ before more sent is no. c.only_replies_come_first.ensures _ _ xs stop answer before more sent
            (c.session_keeps_order.ensures old new xs stop answer out) is no;
        refused_last = λ fault is. c.nothing_follows_a_refusal.ensures old new xs fault answer
            (rw is at out);
        answered = λ fault is gone. c.lost_client_was_answered.ensures xs stop fault gone
            (subst (λ a. AnswersRequests xs stop a) is (c.session_answers_requests.ensures _ _ _ xs stop answer
            (c.handler_service_runs_its_handler.ensures old new xs stop answer out)).0);
      },
    )) _ _ _ (c.transport_tells_its_bytes.ensures old new _ _ _ _ c.requires c.serve_transport.ensures).0

pub returns-clause-passed : goal.returns-clause-passed
returns-clause-passed g c =
    (c.transport_tells_its_bytes.ensures _ _ _ _ _ _ c.requires c.serve_transport.ensures).1

pub returns-clause-known : goal.returns-clause-known
returns-clause-known g c = (c.transport_gives_in_order.ensures _ _ _ _ _ _ c.requires c.serve_transport.ensures).0

pub returns-clause-ends : goal.returns-clause-ends
returns-clause-ends g c = (c.transport_gives_in_order.ensures _ _ _ _ _ _ c.requires c.serve_transport.ensures).1

pub returns-clause-reads_on : goal.returns-clause-reads_on
returns-clause-reads_on g c = (
  c.serve_transport.ensures,
  c.transport_reads_on.ensures _ _ _ _ _ _ (λ policy fault ends. ends) c.requires c.serve_transport.ensures,
)

pub returns-clause-waits : goal.returns-clause-waits
returns-clause-waits g c = λ goes_on only.
    let old = c.args.service.now in
    let new = c.serve_transport.new.service in
    let t = c.session_acts_in_order.ensures (λ t. account_of t) old new _ _ _ (keeps_account _ _ _)
    (talks_as _ _ (λ xs stop answer both. both.0) _ _ _ _ _ _ _ c.serve_transport.ensures) in
    let is : account_of c.serve_transport.new.transport ≡ t.0 = t.1 ∙ ap (λ notes. acts_in notes ++ t.0) c.requires.2 in
    subst (λ acts. NeverBothWait goes_on [] [] acts) (sym is)
    (c.client_is_never_kept_waiting.ensures.replies _ goes_on t.0 old.handler.now new.handler.now t.2.exchanges
    t.2.stop _ only
    (c.handler_service_runs_its_handler.ensures old new t.2.exchanges t.2.stop _ t.2.part.0, t.2.part.1))
