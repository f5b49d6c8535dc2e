-- What a session of a server that only answers keeps, and what its client may rest on.
use Rattle.std.specs.Prelude.{◌≡◌, true, false, List, [], ◌∷◌, ◌++◌, None, IsSome, Err}
use Rattle.lsp_message.specs.Message.{Message}
use Rattle.lsp_session.specs.Answered.{AllReplied, AnswersRequests}
use Rattle.lsp_session.specs.ProtocolError.{ProtocolFault, is_disconnected}
use Rattle.lsp_session.specs.Session.{Exchange, SessionAnswer, Stop, refused, sends_of}
use Rattle.lsp_session.specs.SessionBytes.{lost_of}
use Rattle.lsp_session.specs.SessionLaws.{KeepsOrder, OpenedBy, is_reply}
use Rattle.lsp_session.specs.declared.lifecycle.SendFault.{SendFault}

pub record Kept (exchanges : List Exchange) (stop : Stop) (answer : SessionAnswer) : Type 0 where
  -- the order of the lifecycle
  pub order : KeepsOrder false true exchanges stop answer
  -- each request has one reply
  pub answers : AnswersRequests exchanges stop answer
  -- what is no reply is sent after the handshake only
  pub replies_first : (before more : List Message) (sent : Message) → sends_of exchanges ≡ before ++ sent ∷ more
      → is_reply sent ≡ false → OpenedBy exchanges before
  -- the message that was refused is the last one
  pub refused_last : (fault : SendFault) → stop ≡ refused fault → (earlier : List Exchange) × (last : Exchange)
      × (exchanges ≡ earlier ++ last ∷ []) × IsSome last.not_sent × (lost_of earlier ≡ None)
  -- where the client is gone, each request that was read has its reply
  pub answered : (fault : ProtocolFault) → answer ≡ Err fault → is_disconnected fault ≡ true → AllReplied exchanges
