-- Which requests of a session get which replies (JSON-RPC 2.0, section 5).
use Rattle.serde_json.specs.Data.{Data}
use Rattle.std.specs.List.{AllZip, filter_map}
use Rattle.std.specs.Prelude.{◌≡◌, ◌⊎◌, ℕ, List, [], ◌∷◌, ◌++◌, Some, None, Result, IsErrAnd}
use Rattle.lsp_message.specs.Id.{Id}
use Rattle.lsp_message.specs.Message.{Message, ErrorObject, request, response}
use Rattle.lsp_message.specs.Methods.{request_id}
use Rattle.lsp_session.specs.ProtocolError.{ShowsUnallowed}
use Rattle.lsp_session.specs.Session.{Exchange, messages_of, offered, SessionAnswer, SessionPart, Stop, decided}

-- the message is a reply under this id
abbrev pub RepliesTo : Id → Message → Type 0
RepliesTo i m = (outcome : Result Data ErrorObject) × (m ≡ response i outcome)

-- one reply to each of these, in order, and nothing else
abbrev pub RepliesToEach : List Id → List Message → Type 0
RepliesToEach = AllZip RepliesTo

abbrev pub requests_of : List Message → List Id
requests_of messages = filter_map request_id messages

-- for this message, if it is a request, one reply is sent, and nothing else; nothing for a wake
abbrev pub IsReplied : Exchange → Type 0
IsReplied x = RepliesToEach (requests_of (messages_of (x ∷ []))) (offered x)

-- the same for each of these messages
abbrev pub AllReplied : List Exchange → Type 0
AllReplied [] = Unit {0}
AllReplied (x ∷ xs) = IsReplied x × AllReplied xs

-- The last message is a request that the lifecycle does not allow, as the fault says, and nothing is sent for it.
pub record LastUnanswered (exchanges : List Exchange) (stop : Stop) (answer : SessionAnswer) :
    Type 0 where
  pub before : List Exchange
  pub id : Id
  pub method : List ℕ
  pub params : Data
  pub cut : exchanges ≡ before ++ record { came = Some (request id method params); sent = []; not_sent = None } ∷ []
  pub replied : AllReplied before
  pub decides : stop ≡ decided
  pub unallowed : IsErrAnd answer ShowsUnallowed

-- Each request gets exactly one reply, under its id, and nothing else is sent, but that a last request may be
-- unanswered.
abbrev pub AnswersRequests : SessionPart
AnswersRequests exchanges stop answer = AllReplied exchanges
    ⊎ LastUnanswered exchanges stop answer
