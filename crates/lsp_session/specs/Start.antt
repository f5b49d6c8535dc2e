-- Waiting for the request `initialize` (LSP 3.17, "Server lifecycle"): another request before it is answered with code
-- -32002, and a notification other than `exit` is dropped.
use Rattle.serde_json.specs.Data.{Data}
use Rattle.serde_json.specs.View.{view}
use Rattle.serde_json.specs.declared.value.Value.{Value}
use Rattle.std.specs.List.{FoldsTo, AllZip, list_all, filter_map}
use Rattle.std.specs.Prelude.{◌≡◌, ◌≤◌, length, IsNone, ℕ, Bool, true, false, List, [], ◌∷◌, ◌++◌, Option, Some, None}
use Rattle.std.specs.Prelude.{Result, Ok, Err, ◌⊎◌, codes, MatchOption, IsErrAnd}
use Rattle.std.specs.Str.{bytes_eq}
use Rattle.lsp_message.specs.Id.{Id}
use Rattle.lsp_message.specs.Message.{Message, request, notification, response}
use Rattle.lsp_message.specs.Methods.{request_id, is_shown}
pub use Rattle.lsp_message.specs.Methods.{is_early}
use Rattle.lsp_session.specs.Boxes.{Sends, Receives, Takes}
use Rattle.lsp_session.specs.Event.{message, timeout, closed}
use Rattle.lsp_session.specs.ProtocolError.{ProtocolFault, disconnected, expected_initialize, aborted, out_of_memory}
use Rattle.lsp_session.specs.ProtocolError.{Shows}
pub use Rattle.lsp_session.specs.ProtocolError.{fault_of_refusal}
pub use Rattle.lsp_session.specs.Replies.{IsEarlyReply}
use Rattle.lsp_session.specs.Turns.{Turn, stopped, got, TakesTurn}
use Rattle.lsp_session.specs.declared.lifecycle.SendFault.{SendFault}

-- what the handshake answers: the id and the params of `initialize`, or why there is none
abbrev pub StartAnswer : Type 0
StartAnswer = Result (Id × Data) ProtocolFault

abbrev pub start_view : Result (Id × Value) ProtocolFault → StartAnswer
start_view (Ok found) = Ok (found.0, view found.1)
start_view (Err fault) = Err fault

-- the turn leaves the handshake undecided
abbrev pub is_undecided : Turn → Bool
is_undecided (got timeout) = true
is_undecided (got (message m)) = is_early m
is_undecided turn = false

-- the answer of a message that decides
abbrev pub MessageDecides : Message → StartAnswer → Type 0
MessageDecides (request i method params) answer = (bytes_eq method (codes "initialize") ≡ true)
    × (answer ≡ Ok (i, params))
MessageDecides (notification method params) answer = (bytes_eq method (codes "exit") ≡ true)
    × IsErrAnd answer (Shows expected_initialize)
MessageDecides (response i outcome) answer = IsErrAnd answer (Shows expected_initialize)

-- the answer of a turn that decides
abbrev pub Decides : Turn → StartAnswer → Type 0
Decides stopped answer = answer ≡ Err aborted
Decides (got closed) answer = answer ≡ Err disconnected
Decides (got (message m)) answer = MessageDecides m answer
Decides turn answer = ⊥

-- the id of the request that a turn brings, where it brings one
abbrev pub request_of : Turn → Option Id
request_of (got (message m)) = request_id m
request_of turn = None

module _ {O : Type 0} (sends : Sends O) where
  -- These turns leave the handshake undecided. The requests among them, in order, give the replies that the outbox
  -- takes.
  pub record PassesOver (old : O) (turns : List Turn) (replies : List Message)
      (new : O) : Type 0 where
    pub undecided : list_all is_undecided turns ≡ true
    pub each_replied : AllZip IsEarlyReply (filter_map request_of turns) replies
    pub taken : FoldsTo (Takes sends) old replies new

  -- The outbox refuses the reply to the early request that this turn brings.
  pub record RefusesReply (old : O) (turn : Turn) (fault : SendFault) (new : O) : Type 0 where
    pub id : Id
    pub brings : request_of turn ≡ Some id
    pub undecided : is_undecided turn ≡ true
    pub reply : Message
    pub replies : IsEarlyReply id reply
    pub refuses : sends old reply (Err fault) new

  -- A turn ends the handshake. It decides; or the outbox refuses the reply to it; or an allocation failed in the place
  -- of the text that shows its message.
  abbrev pub Ends : O → Turn → StartAnswer → O → Type 0
  Ends old turn answer new =
      (Decides turn answer × (new ≡ old))
      ⊎ ((fault : SendFault) × RefusesReply old turn fault new
      × (answer ≡ Err (fault_of_refusal fault)))
      ⊎ ((m : Message) × (turn ≡ got (message m)) × (is_shown m ≡ true)
      × (answer ≡ Err out_of_memory) × (new ≡ old))

  -- The first turn that ends the handshake gives the answer. With none, there is no answer.
  pub record Starts (old : O) (turns : List Turn) (answer : Option StartAnswer)
      (replies : List Message) (new : O) : Type 0 where
    pub before : List Turn
    pub mid : O
    pub passed : PassesOver old before replies mid
    pub end : MatchOption answer ((turns ≡ before) × (new ≡ mid)) (λ a. (last : Turn)
        × (turns ≡ before ++ last ∷ []) × Ends mid last a new)

module _ {G I O : Type 0} (asks : G → Bool → G
    → Type 0) (receives : Receives I) (sends : Sends O) where
  -- At most so many turns took the contents of the boxes from old to new, and gave this answer. None comes only after
  -- all of them.
  pub record StartsWithin (limit : ℕ) (old : G × I × O) (answer : Option StartAnswer) (new : G × I
      × O) : Type 0 where
    pub turns : List Turn
    pub taken : FoldsTo (TakesTurn asks receives) (old.0, old.1) turns (new.0, new.1)
    pub few : length turns ≤ limit
    pub none_after_all : IsNone answer → length turns ≡ limit
    pub replies : List Message
    pub starts : Starts sends old.2 turns answer replies new.2
