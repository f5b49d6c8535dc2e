-- A session whose server breaks no rule: in the log of the session, and in what a recorder sees that stands between the
-- client and the server.
use Rattle.lsp_session.specs.Session.{Exchange, SessionAnswer, Stop}
use Rattle.lsp_watch.specs.Log.{Log}
use Rattle.lsp_watched.specs.Recorded.{IsRecorded}
use Rattle.lsp_watched.specs.Sessions.{ClientKeepsIds, IsLogOfSession, ServerIsClean, ServerKeepsLifecycle}
use Rattle.lsp_watched.specs.Sessions.{ServerRepliesFit}
use Rattle.std.specs.Prelude.{List}

-- a server that only answers
pub record AnswersCleanly (exchanges : List Exchange) (stop : Stop) (answer : SessionAnswer) : Type 0 where
  -- the server breaks no rule of ids or of the lifecycle, and a recorder may see this log
  pub in_log : (log : Log) → IsLogOfSession exchanges log
      → ServerIsClean log × ServerKeepsLifecycle log × IsRecorded exchanges log
  -- the same in what a recorder sees, if the client reuses no id before its reply
  pub as_seen : (log : Log) → IsRecorded exchanges log → ClientKeepsIds log
      → ServerIsClean log × ServerKeepsLifecycle log

-- a server that also speaks first, and may answer later
pub record SpeaksCleanly (exchanges : List Exchange) (stop : Stop) (answer : SessionAnswer) : Type 0 where
  -- the server breaks no rule of the lifecycle
  pub in_log : (log : Log) → IsLogOfSession exchanges log → ServerKeepsLifecycle log
  -- it breaks no rule of ids either, as a recorder sees it, if the client reuses no id before its reply
  pub as_seen : (log : Log) → IsRecorded exchanges log → ClientKeepsIds log
      → ServerIsClean log × ServerRepliesFit log
