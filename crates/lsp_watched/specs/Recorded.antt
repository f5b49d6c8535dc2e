-- What a recorder sees that stands between a client and a session.
use Rattle.std.specs.Prelude.{◌≡◌, false, List, [], ◌∷◌, ◌++◌, if◌then◌else◌}
use Rattle.lsp_message.specs.Message.{Message}
use Rattle.lsp_session.specs.Session.{Exchange, offered, messages_of, sends_of}
use Rattle.lsp_watch.specs.CleanLog.{AtEach}
use Rattle.lsp_watch.specs.Log.{Log, from_client, same_direction}
use Rattle.lsp_watch.specs.declared.direction.Direction.{Direction}
use Rattle.lsp_watch.specs.declared.direction.Direction.TheVariants.{ToServer, ToClient}

-- the messages that went in this direction, in order
abbrev pub gone : Direction → Log → List Message
gone direction [] = []
gone direction (p ∷ before) = if same_direction direction p.direction then gone direction before ++ p.message ∷ []
    else gone direction before

-- The session sends this message when these have passed: all that it sent before, and of the client's messages those
-- that it took. More of the client's may have passed, which it takes later.
pub record IsSentAt (exchanges : List Exchange) (before : Log) (m : Message) : Type 0 where
  pub earlier : List Exchange
  pub exchange : Exchange
  pub later : List Exchange
  pub cut : exchanges ≡ earlier ++ exchange ∷ later
  pub first : List Message
  pub rest : List Message
  pub sends : offered exchange ≡ first ++ m ∷ rest
  pub sent : gone ToClient before ≡ sends_of earlier ++ first
  pub ahead : List Message
  pub took : gone ToServer before ≡ messages_of (earlier ++ exchange ∷ []) ++ ahead

-- A recorder sees each message of the client before the session takes it, and each of the session's once it was sent.
abbrev pub IsRecorded : List Exchange → Log → Type 0
IsRecorded exchanges log = AtEach (λ before p. from_client p.direction ≡ false → IsSentAt exchanges before p.message)
    log
