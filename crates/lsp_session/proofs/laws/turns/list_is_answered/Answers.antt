use Rattle.lsp_session.proofs.Waiting.{start_decides, wait_decides, finish_decides}
use Rattle.lsp_session.proofs.laws.turns.list_is_answered.Goals as goal

pub returns-clause-start : goal.returns-clause-start
returns-clause-start g c = λ limit old new answer starts more. start_decides g.G.Gate.asks limit g.O.Outbox.sends old
    new answer starts more

pub returns-clause-wait : goal.returns-clause-wait
returns-clause-wait g c = λ limit old new answer awaits more. wait_decides g.G.Gate.asks limit old new answer
    awaits more

pub returns-clause-finish : goal.returns-clause-finish
returns-clause-finish g c = λ limit reply old new answer finishes more. finish_decides g.G.Gate.asks limit
    g.O.Outbox.sends old new reply answer finishes more
