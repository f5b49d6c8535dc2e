use Rattle.lsp_session.proofs.Lending.{over_as}
use Rattle.lsp_threads.proofs.Taken.{told_known}
use Rattle.lsp_threads.proofs.run.run_in_threads_over.Goals as goal

pub returns-in-Ok-clause-session : goal.returns-in-Ok-clause-session
returns-in-Ok-clause-session g c =
    let ran = c.serve_between.ensures in
    let told = rw (c.in-Ok.ensures.reading.3, c.in-Ok.ensures.reading.4, c.in-Ok.ensures.reading.5) at ran.told in
    let read = rw c.in-Ok.ensures.reading.3 at ran.taken in
    let written = rw c.in-Ok.ensures.writing.2 at ran.given in
    record {
      session = told_known _ _ _ _ _ _ _ _ _ c.serve_between.result.given _ _ (λ rest ends. over_as _ _
          (λ xs stop answer both. both.0.0) _ _ _ _ (told rest ends)) read written;
      read = read;
      written = written;
      told = told;
      flushed = ran.flushed;
      writer = ran.writer;
    }
