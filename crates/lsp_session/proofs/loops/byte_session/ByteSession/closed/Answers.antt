use Rattle.lsp_session.proofs.ByteHistory.{closed_over}
use Rattle.lsp_session.proofs.MessagesEnd.{end_now, known_now}
use Rattle.lsp_session.proofs.Unread.{same_limits}
use Rattle.lsp_session.specs.ByteSessions.{standing, unread}
use Rattle.lsp_session.proofs.loops.byte_session.ByteSession.closed.Goals as goal

pub returns-clause-over : goal.returns-clause-over
returns-clause-over g c = closed_over c.args.self.now.input.limits c.args.self.now.most_pending g.S.Service.behavior
    (standing c.args.self.now) (standing c.come.new.self) c.come.ensures.comes

pub returns-clause-known : goal.returns-clause-known
returns-clause-known g c = λ known.
    let old = c.args.self.now in
    let new = c.come.new.self in
    known_now new c.end_of_input.result old.input.limits (unread old) c.come.ensures.end
    (same_limits new old c.come.ensures.input) c.come.ensures.unread
    (closed_over old.input.limits old.most_pending g.S.Service.behavior (standing old) (standing new)
    c.come.ensures.comes) c.end_of_input.ensures

pub returns-clause-end : goal.returns-clause-end
returns-clause-end g c = λ waits. end_now c.args.self.now.input.limits (unread c.args.self.now)
    c.end_of_input.result c.come.new.self.end c.come.ensures.end c.end_of_input.ensures
