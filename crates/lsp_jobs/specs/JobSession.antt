-- A session of a server with jobs.
use Rattle.std.specs.Prelude.{◌≡◌, List, Option}
use Rattle.lsp_message.specs.Message.{Message}
use Rattle.lsp_session.specs.Session.{Exchange, SessionAnswer, Stop}
use Rattle.lsp_acts.specs.ServerApplication.{ServerSession}
use Rattle.lsp_acts.specs.declared.server.Server.{Ghosts as Plain}
use Rattle.lsp_jobs.specs.Pooled.{with_jobs}
use Rattle.lsp_jobs.specs.Seen.{seen}
use Rattle.lsp_jobs.specs.PendingJobs.{no_jobs}
use Rattle.lsp_jobs.specs.declared.asking.RequestOrigin.{RequestOrigin}
use Rattle.lsp_jobs.specs.Stated.{StatedJobs}
use Rattle.lsp_jobs.specs.declared.pooled_server.PooledServer.{PooledServer}

module _ (T : Type 0) {S J F P : Type 0} (plain : Plain S P) (may : StatedJobs S J F P) where
  -- `with_jobs`, of what is seen of a server with its pool
  abbrev pub seen_with_jobs : Plain (PooledServer T S J F) (RequestOrigin P)
  seen_with_jobs =
      let w = with_jobs may plain in record {
        initialize_post = λ old params outcome new. w.initialize_post (seen old) params outcome (seen new);
        initialized_post = λ old acts new. w.initialized_post (seen old) acts (seen new);
        request_post = λ old id method params acts new.
            w.request_post (seen old) id method params acts (seen new);
        notification_post = λ old method params acts new.
            w.notification_post (seen old) method params acts (seen new);
        response_post = λ old asked outcome acts new.
            w.response_post (seen old) asked outcome acts (seen new);
        woken_post = λ old acts new. w.woken_post (seen old) acts (seen new);
        shutdown_post = λ old acts new. w.shutdown_post (seen old) acts (seen new);
        ids_exhausted_post = λ old asked new. w.ids_exhausted_post (seen old) asked (seen new);
      }

  -- It is a session of the server with its jobs. No job is pending at first.
  pub record JobSession (first last : S) (exchanges : List Exchange) (stop : Stop)
      (answer : SessionAnswer) : Type 0 where
    pub old : PooledServer T S J F
    pub new : PooledServer T S J F
    pub from_first : seen old ≡ (first, no_jobs)
    pub to_last : last ≡ new.server
    pub session : ServerSession seen_with_jobs old new exchanges stop answer
