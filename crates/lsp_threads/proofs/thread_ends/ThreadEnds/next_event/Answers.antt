use Rattle.std.proofs.Common.{refl, ◌∙◌, ap}
use Rattle.lsp_message.specs.View.{message_view}
use Rattle.lsp_threads.specs.Replies.{Gathered}
use Rattle.lsp_threads.specs.ThreadEnds.{seen_of}
use Rattle.lsp_threads.proofs.ContentWaits.{passes_none, passes_wake, message_after, closed_after, fault_after}
use Rattle.lsp_threads.proofs.ContentWaits.{none_waited}
use Rattle.lsp_threads.proofs.ThreadEnds.{left_on}
use Rattle.lsp_threads.proofs.thread_ends.ThreadEnds.next_event.Goals as goal

pub loop-init : goal.loop-init
loop-init g c = (passes_none (seen_of c.args.self.now), (refl, (refl, refl, refl)))

pub read_next-requires : goal.read_next-requires
read_next-requires g c =
    let passed = c.loop.invariant.0 in
    λ none. ap (λ (b : Gathered). b.held) c.loop.invariant.1.0 ∙ c.requires (none_waited (seen_of c.args.self.now)
    (seen_of c.loop.self) (seen_of c.loop.self) passed none)

pub loop-preserved : goal.loop-preserved
loop-preserved g c =
    let comes = rw (c.in-Ok-Woken.is, c.in-Ok-Woken.field-0-is) at c.read_next.ensures.reads in (
      passes_wake (seen_of c.args.self.now) (seen_of c.loop.self) (seen_of c.read_next.new.self) c.loop.invariant.0
          comes.0,
      left_on c.args.self.now c.loop.self c.read_next.new.self c.loop.invariant.1 comes.1,
    )

pub returns-in-Ok-Message : goal.returns-in-Ok-Message
returns-in-Ok-Message g c =
    let comes = rw (c.in-Ok-Message.is, c.in-Ok-Message.field-0-is) at c.read_next.ensures.reads in (
      message_after (seen_of c.args.self.now) (seen_of c.loop.self) (seen_of c.read_next.new.self) c.loop.invariant.0
          g.L.BadContentPolicy.passes (message_view c.in-Ok-Message.message) comes.0,
      left_on c.args.self.now c.loop.self c.read_next.new.self c.loop.invariant.1 comes.1,
    )

pub returns-in-Ok-Closed : goal.returns-in-Ok-Closed
returns-in-Ok-Closed g c =
    let comes = rw (c.in-Ok-Closed.is, c.in-Ok-Closed.field-0-is) at c.read_next.ensures.reads in (
      closed_after (seen_of c.args.self.now) (seen_of c.loop.self) (seen_of c.read_next.new.self) c.loop.invariant.0
          g.L.BadContentPolicy.passes comes.0,
      left_on c.args.self.now c.loop.self c.read_next.new.self c.loop.invariant.1 comes.1,
    )

pub returns-in-Err : goal.returns-in-Err
returns-in-Err g c =
    let comes = rw c.in-Err.is at c.read_next.ensures.reads in (
      fault_after (seen_of c.args.self.now) (seen_of c.loop.self) (seen_of c.read_next.new.self) c.loop.invariant.0
          g.L.BadContentPolicy.passes c.in-Err.fault comes.0,
      left_on c.args.self.now c.loop.self c.read_next.new.self c.loop.invariant.1 comes.1,
    )
