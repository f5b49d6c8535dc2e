use Rattle.std.proofs.Common.{[], ◌∷◌, subst}
use Rattle.std.proofs.lemmas.Result.{err_from_is_err_and}
use Rattle.lsp_message.specs.View.{message_view}
use Rattle.lsp_session.proofs.PendingFrames.{adds_all, adds_then, adds_some_with}
use Rattle.lsp_session.specs.Machine.{sends_of}
use Rattle.lsp_session.specs.PendingOutput.{waiting, AddsFrames}
use Rattle.lsp_session.specs.ProtocolError.{ProtocolFault}
use Rattle.lsp_session.specs.Replies.{null_reply}
use Rattle.lsp_session.proofs.loops.pending_output.PendingOutput.add_turn.Goals as goal

pub returns-in_err-send_turn : goal.returns-in_err-send_turn
returns-in_err-send_turn g c =
    let p = err_from_is_err_and c.from_residual.result c.from_residual.ensures.1 in
    let sent = sends_of g.T.Sendable.shows c.args.turn.output in
    rw p.1 (adds_some_with (waiting c.args.self.now) (waiting c.send_turn.new.outbox) sent c.args.turn.reply
    (subst (λ r. AddsFrames {E = ProtocolFault} (waiting c.args.self.now) sent r (waiting c.send_turn.new.outbox))
    c.in_err-send_turn.was (adds_all c.args.self.now sent c.send_turn.result c.send_turn.new.outbox
    c.send_turn.ensures)))

pub returns-in-Some : goal.returns-in-Some
returns-in-Some g c =
    let sent = sends_of g.T.Sendable.shows c.args.turn.output in
    let first = subst (λ r. AddsFrames {E = ProtocolFault} (waiting c.args.self.now) sent r
    (waiting c.send_turn.new.outbox)) c.in_ok-send_turn.was (adds_all c.args.self.now sent c.send_turn.result
    c.send_turn.new.outbox c.send_turn.ensures) in
    let last = subst (λ m. AddsFrames {E = ProtocolFault} (waiting c.send_turn.new.outbox) (m ∷ [])
    c.send_message.result (waiting c.send_message.new.outbox)) c.null_response.ensures (adds_all c.send_turn.new.outbox
    (message_view c.null_response.result ∷ []) c.send_message.result c.send_message.new.outbox c.send_message.ensures)
    in
    rw c.in-Some.is (adds_then (waiting c.args.self.now) (waiting c.send_turn.new.outbox)
    (waiting c.send_message.new.outbox) sent (null_reply c.in-Some.id ∷ []) c.send_message.result first last)

pub returns-in-None : goal.returns-in-None
returns-in-None g c =
    let sent = sends_of g.T.Sendable.shows c.args.turn.output in
    rw c.in-None.is (subst (λ r. AddsFrames {E = ProtocolFault} (waiting c.args.self.now) sent r
    (waiting c.send_turn.new.outbox)) c.in_ok-send_turn.was (adds_all c.args.self.now sent c.send_turn.result
    c.send_turn.new.outbox c.send_turn.ensures))
