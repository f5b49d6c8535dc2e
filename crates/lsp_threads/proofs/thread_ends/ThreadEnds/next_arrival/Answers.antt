use Rattle.lsp_threads.specs.ThreadEnds.{seen_of}
use Rattle.lsp_threads.proofs.ContentWaits.{fault_after, passes_none}
use Rattle.lsp_threads.proofs.thread_ends.ThreadEnds.next_arrival.Goals.{
  else-is_bad_content-via-then-is_bad_content+else-skips,
  else-is_bad_content-via-else-is_bad_content,
}
use Rattle.lsp_threads.proofs.thread_ends.ThreadEnds.next_arrival.Goals as goal

pub returns-else-is_bad_content-clause-gives : goal.returns-else-is_bad_content-clause-gives
returns-else-is_bad_content-clause-gives g c =
    let comes = rw c.in-Err.is at c.read_next.ensures.reads in
    let old = seen_of c.args.self.now in
    let gives = fault_after old old (seen_of c.read_next.new.self) (passes_none old) g.L.BadContentPolicy.passes
    c.in-Err.fault comes.0 in
    elim c.else-is_bad_content.branch [
      | else-is_bad_content-via-then-is_bad_content+else-skips w ↦
          rw (w.self-is, (rw w.if-skips.false at w.skips.ensures).1) (gives, comes.1)
      | else-is_bad_content-via-else-is_bad_content w ↦ rw w.self-is (gives, comes.1)
    ]
