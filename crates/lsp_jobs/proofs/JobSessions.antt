-- A session of a server with its pool, put beside its queues and taken out again.
use Rattle.std.proofs.Common.{◌≡◌, List, Option}
use Rattle.lsp_message.specs.Message.{Message}
use Rattle.lsp_session.specs.Session.{Exchange, SessionAnswer, Stop}
use Rattle.lsp_session.specs.SessionLaws.{Implies}
use Rattle.lsp_acts.proofs.Taking.{keeps_laws}
use Rattle.lsp_acts.specs.ServerApplication.{ServerSession}
use Rattle.lsp_acts.specs.declared.server.Server.{Ghosts as Plain}
use Rattle.lsp_jobs.proofs.SessionTurns.{answers_by_jobs}
use Rattle.lsp_jobs.specs.JobLaw.{LawfulJobSession}
use Rattle.lsp_jobs.specs.JobSession.{JobSession, seen_with_jobs}
use Rattle.lsp_jobs.specs.Seen.{seen}
use Rattle.lsp_jobs.specs.PendingJobs.{no_jobs}
use Rattle.lsp_jobs.specs.Stated.{StatedJobs}
use Rattle.lsp_jobs.specs.declared.pooled_server.PooledServer.{PooledServer}

module _ (T : Type 0) {S J F P : Type 0} (plain : Plain S P) (may : StatedJobs S J F P) where
  pub job_session : (old new : PooledServer T S J F) (first last : S) → seen old ≡ (first, no_jobs) → last ≡ new.server
      → Implies (ServerSession (seen_with_jobs T plain may) old new) (JobSession T plain may first last)
  job_session old new first last began left xs stop answer session = record {
    old = old;
    new = new;
    from_first = began;
    to_last = left;
    session = session;
  }

  pub lawful_jobs : (first last : S) (xs : List Exchange) (stop : Stop)
      (answer : SessionAnswer)
      → JobSession T plain may first last xs stop answer → LawfulJobSession T plain may
      first last xs stop answer
  lawful_jobs first last xs stop answer session = record {
    session = session;
    laws = keeps_laws (seen_with_jobs T plain may) session.old session.new xs stop answer
        session.session;
    jobs = answers_by_jobs T plain may first last xs stop answer session;
  }
