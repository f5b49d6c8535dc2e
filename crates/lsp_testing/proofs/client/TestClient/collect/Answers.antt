use Rattle.std.proofs.Common.{◌≡◌, ◌∙◌, ap, subst, sym, None, Some, rules}
use Rattle.lsp_session.specs.ByteSession.{Standing}
use Rattle.lsp_session.specs.ByteSessions.{standing}
use Rattle.lsp_session.specs.Machine.{outcome_of}
use Rattle.lsp_session.specs.SessionFault.{session_answer}
use Rattle.lsp_session.specs.TransportTurn.{IsOver}
use Rattle.lsp_session.specs.declared.loops.machine.Stage.{Stage}
use Rattle.lsp_testing.specs.Client.{Holds}
use Rattle.lsp_testing.proofs.client.TestClient.collect.Goals as goal

pub returns-else-failed-clause-holds : goal.returns-else-failed-clause-holds
returns-else-failed-clause-holds g c =
    let after = c.sent.new.self in
    let same : (standing after).stage ≡ (standing c.args.session).stage =
    ap (λ (s : Standing _). s.stage) c.sent.ensures.sent in
    let over : IsOver (standing after).stage = search rules in
    subst (λ kept. Holds c.args.session kept (Some c.into_parts-end.result.0)) (sym c.requires.taken) (
      subst IsOver same over,
      (
        after.end,
        c.into_parts-end.ensures.answer ∙ ap (λ (stage : Stage). session_answer (outcome_of stage).stop
            (outcome_of stage).answer after.end None) same,
      ),
    )
