-- A server that answers each request at once, and that leaves none without a reply.
use Rattle.serde_json.specs.Data.{Data}
use Rattle.std.specs.Prelude.{◌≡◌, ◌≢◌, ◌⊎◌, ℕ, List, [], ◌∷◌}
use Rattle.lsp_message.specs.Id.{Id}
use Rattle.lsp_session.specs.Session.{Exchange, SessionAnswer, Stop, exhausted, messages_of, sends_of}
use Rattle.lsp_acts.specs.Acts.{Act, replies}
use Rattle.lsp_acts.specs.Law.{EndsAtRequest, IsWhole, SinceLast, WasToSend, how_many, is_reply_under, is_request_under}
use Rattle.lsp_acts.specs.declared.server.Server.{Ghosts as Stated}

module _ {P : Type 0} where
  -- None of these acts is a reply.
  abbrev pub HasNoReply : List (Act P) → Type 0
  HasNoReply [] = Unit {0}
  HasNoReply (replies id outcome ∷ acts) = ⊥
  HasNoReply (act ∷ acts) = HasNoReply acts

  -- Exactly one of these acts is a reply, and it is to the request with this id.
  abbrev pub AnswersEach : List (Act P) → Id → Type 0
  AnswersEach [] id = ⊥
  AnswersEach (replies i outcome ∷ acts) id = (i ≡ id) × HasNoReply acts
  AnswersEach (act ∷ acts) id = AnswersEach acts id

-- The server states that it answers each request at once.
abbrev pub AnswersAllAtOnce : {S P : Type 0} → Stated S P → Type 0
AnswersAllAtOnce {S} {P} may = (old : S) (id : Id) (method : List ℕ) (params : Data) (acts : List (Act P)) (new : S)
    → may.request_post old id method params acts new → AnswersEach acts id

-- Exactly one reply was sent under this id. Or none was, and the session ended at the request, since the lifecycle does
-- not allow it.
abbrev pub IsAnswered : Id → List Exchange → Stop → SessionAnswer → Type 0
IsAnswered id exchanges stop answer = (how_many (is_reply_under id) (sends_of exchanges) ≡ 1)
    ⊎ ((how_many (is_reply_under id) (sends_of exchanges) ≡ 0) × EndsAtRequest id exchanges stop answer)

-- Of all that was to be sent: since the last request under an id came, it was answered. If memory ran out, nothing is
-- said. A request whose id was used once was answered, if the outbox refused no message too.
pub record LeavesNone (exchanges : List Exchange) (stop : Stop) (answer : SessionAnswer) : Type 0 where
  pub all : List Exchange
  pub to_send : WasToSend stop exchanges all
  pub last : stop ≢ exhausted → (id : Id) → SinceLast id (λ since. IsAnswered id since stop answer) all
  pub once : IsWhole stop → (id : Id) → how_many (is_request_under id) (messages_of exchanges) ≡ 1
      → IsAnswered id exchanges stop answer
