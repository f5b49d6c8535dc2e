use Rattle.lsp_session.specs.Event.{event_view}
use Rattle.lsp_threads.proofs.ThreadEnds.{ends_give}
use Rattle.lsp_threads.proofs.thread_ends.ThreadEndsInbox.receive_for.Goals as goal

pub returns : goal.returns
returns g c =
    let ready = c.make_ready.ensures in
    ends_give c.args.self.now c.make_ready.new.self c.next_event.new.self (event_view c.next_event.result) ready.untaken
    ready.unsent ready.marks ready.ready ready.lent g.L.BadContentPolicy.passes c.next_event.ensures
