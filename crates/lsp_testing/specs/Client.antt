-- What a test client does with its session.
use Rattle.serde_json.specs.View.{view}
use Rattle.serde_json.specs.declared.value.Value.{Value}
use Rattle.std.specs.List.{AllWithin, HoldsAt, FoldsTo}
use Rattle.std.specs.Prelude.{◌≡◌, ◌<◌, ◌⊎◌, ℕ, List, [], ◌∷◌, ◌++◌, length, take, Option, Some, None, Result, Bool}
use Rattle.std.specs.Prelude.{true, false}
use Rattle.lsp_message.specs.Id.{Id, number, same_id}
use Rattle.lsp_message.specs.Message.{Message, request}
use Rattle.lsp_message.specs.Written.{IsFrameOf}
use Rattle.lsp_message.specs.declared.msg.Message as msg
use Rattle.lsp_message.specs.declared.msg.Message.TheVariants.{Request, Response, Notification}
use Rattle.lsp_message.specs.declared.msg.Response as resp
use Rattle.lsp_message.specs.declared.msg.ResponseError.{ResponseError}
use Rattle.lsp_session.specs.ByteSession.{Comes, Goes}
use Rattle.lsp_session.specs.ByteSessions.{standing, unread}
use Rattle.lsp_session.specs.Event.{woken}
use Rattle.lsp_session.specs.Machine.{outcome_of}
use Rattle.lsp_session.specs.Session.{Behavior}
use Rattle.lsp_session.specs.SessionFault.{session_answer}
use Rattle.lsp_session.specs.TransportTurn.{IsOver}
use Rattle.lsp_session.specs.declared.loops.ReadEnd.{ReadEnd}
use Rattle.lsp_session.specs.declared.loops.byte_session.ByteSession.{ByteSession}
use Rattle.lsp_session.specs.declared.loops.handler.SessionEnd.{SessionEnd}
use Rattle.lsp_session.specs.declared.loops.stream_session.SessionFault.{SessionFault}
use Rattle.lsp_testing.specs.Traffic.{AddsLine, Reads, from_client}
use Rattle.lsp_testing.specs.declared.client.TestClient.{TestClient}
use Rattle.lsp_testing.specs.declared.traffic.Traffic.{Traffic}

-- the line of a message that the client sends; a wake has none
abbrev pub Notes : Option Message → Traffic → Traffic → Type 0
Notes (Some m) old new = AddsLine from_client m old new × (new.own ≡ old.own)
Notes None old new = new ≡ old

-- All output of the session is read as these messages, and they arrive one after another.
abbrev pub AllArrive : List ℕ → Traffic → Traffic → Type 0
AllArrive output old new = (came : List msg.Message) × FoldsTo Reads (output, old) came ([], new)

-- how the session ended
abbrev pub EndsWith : {S : Type 0} → ByteSession S → Result SessionEnd SessionFault → Type 0
EndsWith s end = IsOver (standing s).stage × ((reads : Option ReadEnd)
    × (end ≡ session_answer (outcome_of (standing s).stage).stop (outcome_of (standing s).stage).answer reads None))

-- The client holds the session, all output of which was sent. Or the session has ended, and the client knows how.
abbrev pub Holds : {S : Type 0} → ByteSession S → Option (ByteSession S) → Option (Result SessionEnd SessionFault)
    → Type 0
Holds s (Some held) end = (standing held ≡ record (standing s) { pending = [] }) × (unread held ≡ unread s)
Holds s None (Some end) = EndsWith s end
Holds s None None = ⊥

module _ {S : Type 0} (may : Behavior S) where
  -- The session gets the bytes of the message's frame: all of them, unless it ends or it has too much output. Or it is
  -- woken.
  abbrev pub Gets : ByteSession S → Option Message → ByteSession S → Type 0
  Gets old (Some m) new = (frame : List ℕ) × (count : ℕ) × IsFrameOf m frame
      × Goes old.input.limits old.most_pending may (standing old) (unread old) old.end (take count frame)
      (standing new) (unread new) new.end
      × ((count ≡ length frame) ⊎ IsOver (standing new).stage ⊎ (new.most_pending < length (standing new).pending))
  Gets old None new = Comes may (standing old) woken (standing new) × (unread new ≡ unread old)

  -- The client sends a message, or wakes the service, and takes what the session writes.
  pub record Exchanges (held : Option (ByteSession S)) (old : Traffic) (step : Option Message)
      (left : Option (ByteSession S)) (end : Option (Result SessionEnd SessionFault)) (new : Traffic) : Type 0 where
    pub before : ByteSession S
    pub after : ByteSession S
    pub noted : Traffic
    pub held_before : held ≡ Some before
    pub gets : Gets before step after
    pub notes : Notes step old noted
    pub arrive : AllArrive (standing after).pending noted new
    pub holds : Holds after left end

  abbrev pub Passes : TestClient S → Option Message → TestClient S → Type 0
  Passes old step new = Exchanges old.session old.traffic step new.session new.end new.traffic

-- whether a message is the reply to the request with this id
abbrev pub is_reply_to : Id → msg.Message → Bool
is_reply_to id (Response reply) = same_id reply.id id
is_reply_to id (Request asked) = false
is_reply_to id (Notification note) = false

-- the place of the first reply to the request, or there is none
abbrev pub FindsReply : Id → List msg.Message → Option ℕ → Type 0
FindsReply id ms (Some place) = (place < length ms) × HoldsAt (λ m. is_reply_to id m ≡ true) ms place
    × AllWithin (λ m. is_reply_to id m ≡ false) ms 0 place
FindsReply id ms None = AllWithin (λ m. is_reply_to id m ≡ false) ms 0 (length ms)

-- A reply to the request is taken out of the messages, and the others stay in their order. Or there is none.
abbrev pub TakesReply : Id → List msg.Message → Option (Result Value ResponseError) → List msg.Message → Type 0
TakesReply id old (Some outcome) new = (before after : List msg.Message) × (reply : resp.Response)
    × (old ≡ before ++ Response reply ∷ after) × (new ≡ before ++ after) × (reply.id ≡ id)
    × (reply.response_result ≡ outcome)
TakesReply id old None new = (new ≡ old) × FindsReply id old None

module _ {S : Type 0} (may : Behavior S) where
  -- the client sends a request under its next id, and takes the reply with this id
  abbrev pub Asks : TestClient S → List ℕ → Value → Result Value ResponseError → TestClient S → Type 0
  Asks old method params outcome new = (mid : TestClient S)
      × Passes may old (Some (request (number old.next_id) method (view params))) mid
      × TakesReply (number old.next_id) mid.traffic.own.items (Some outcome) new.traffic.own.items
      × (new ≡ record mid { traffic = record mid.traffic { own = new.traffic.own } })
