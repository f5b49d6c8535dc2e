-- A session of a server that keeps the laws, and which replies it leaves.
use Rattle.std.specs.Prelude.{◌≡◌, ◌≢◌, List}
use Rattle.lsp_message.specs.Id.{Id}
use Rattle.lsp_acts.specs.Law.{AnswersLastInFull, GetsShutdownReply, IsGone, IsOwedWhatIsHeld, IsWhole, KeepsLaws}
use Rattle.lsp_acts.specs.Law.{OnceOrEnded, how_many, is_request_under}
use Rattle.lsp_acts.specs.ServerApplication.{ServerSession, held_by}
use Rattle.lsp_acts.specs.declared.server.Server.{Ghosts as Stated}
use Rattle.lsp_session.specs.Session.{Exchange, SessionAnswer, Stop, exhausted, messages_of}

pub record Owed {S P : Type 0} (may : Stated S P) (first last : S) (exchanges : List Exchange) (stop : Stop)
    (answer : SessionAnswer) : Type 0 where
  pub session : ServerSession may first last exchanges stop answer
  pub laws : KeepsLaws may first last (held_by may session) exchanges stop answer
  -- where the client is gone, each last request has its reply or is held
  pub gone : stop ≢ exhausted → IsGone answer → (id : Id) → IsOwedWhatIsHeld id laws.all (held_by may session)
  -- once `shutdown` got its reply, each has its reply, but one that ended the session
  pub closed : stop ≢ exhausted → GetsShutdownReply laws.all → (id : Id) → AnswersLastInFull id laws.all stop answer
  -- a request whose id was used once has one reply, or is held, or ended the session
  pub once : stop ≢ exhausted → IsWhole stop → (id : Id) → how_many (is_request_under id) (messages_of exchanges) ≡ 1
      → OnceOrEnded id exchanges stop (held_by may session) answer
