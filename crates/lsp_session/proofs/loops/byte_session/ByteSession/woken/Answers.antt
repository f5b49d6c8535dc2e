use Rattle.lsp_session.specs.Event.{woken}
use Rattle.lsp_session.proofs.MessagesEnd.{knows_still}
use Rattle.lsp_session.proofs.Served.{served_still}
use Rattle.lsp_session.proofs.Unread.{same_limits}
use Rattle.lsp_session.proofs.loops.byte_session.ByteSession.woken.Goals as goal

pub returns-clause-served : goal.returns-clause-served
returns-clause-served g c =
    let old = c.args.self.now in
    let new = c.come.new.self in
    served_still g.S.Service.behavior old new woken c.come.ensures.comes (same_limits new old c.come.ensures.input)
    c.come.ensures.unread

pub returns-clause-known : goal.returns-clause-known
returns-clause-known g c =
    let old = c.args.self.now in
    let new = c.come.new.self in
    knows_still g.S.Service.behavior old new woken (λ e. cc (e)) c.come.ensures.comes (same_limits new old
    c.come.ensures.input) c.come.ensures.unread c.come.ensures.end
