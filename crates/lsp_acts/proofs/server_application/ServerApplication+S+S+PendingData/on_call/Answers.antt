use Rattle.std.proofs.Common.{◌≡◌, false, map, rules}
use Rattle.lsp_session.specs.OutputView.{sent_view}
use Rattle.lsp_acts.specs.Calls.{ActsAtCall, is_cancellation}
use Rattle.lsp_acts.specs.View.{act_view, queues_of}
use Rattle.lsp_acts.proofs.Calling.{sends_at_call}
use Rattle.lsp_acts.proofs.server_application.«ServerApplication+S+S+PendingData».on_call.Goals as goal

pub returns-in_ok-perform_for-in-Some : goal.returns-in_ok-perform_for-in-Some
returns-in_ok-perform_for-in-Some g c =
    let start = c.args.self.now in
    let end = c.perform_for.new.self in
    let done = c.in_ok-perform_for-in-Some.ensures in
    let acts = map (act_view g.S.PendingData.PartialEq.eq) c.in-Some.acts.items in
    let other : is_cancellation c.args.call.now ≡ false = search rules in
    let at : ActsAtCall g.S.Server.request_post g.S.Server.notification_post start.server c.args.call.now acts
    c.call.new.self = rw c.in-Some.is at c.in_ok-acts.ensures in
    sends_at_call g.S.Server c.args.call.now start.server c.call.new.self end.server (queues_of start.queues)
    (queues_of end.queues) (sent_view c.in_ok-perform_for-in-Some.field-0.items) acts other at done.back done.sent
    done.queues
