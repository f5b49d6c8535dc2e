use Rattle.lsp_threads.proofs.ContentWaits.{PassesWakes}
use Rattle.lsp_threads.specs.ThreadEnds.{LeavesOutbox, seen_of}
use Rattle.lsp_threads.proofs.thread_ends.ThreadEnds.next_event.Given as goal

-- wakes of the relay were passed over
abbrev pub invariant-loop : goal.invariant-loop
invariant-loop g l = PassesWakes (seen_of l.fn.self) (seen_of l.self) × LeavesOutbox l.fn.self l.self
