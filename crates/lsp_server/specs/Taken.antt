-- What was taken from the channel of a connection. For private clauses.
use Rattle.std.specs.Prelude.{◌≡◌, List, [], ◌∷◌, ◌++◌, map, Bool, true, false}
use Rattle.lsp_message.specs.Message.{Message}
use Rattle.lsp_message.specs.View.{message_view}
use Rattle.lsp_server.specs.declared.outgoing.TakenMessages.{TakenMessages}

-- messages, oldest first, and whether the channel then told that no more come
pub record Taken : Type 0 where
  pub messages : List Message
  pub is_closed : Bool

-- what an account has
abbrev pub taken_of : TakenMessages → Taken
taken_of taken = record { messages = map message_view taken.account.messages; is_closed = taken.is_closed }

abbrev pub untaken : Taken
untaken = record { messages = []; is_closed = false }

-- one message more was taken
abbrev pub takes : Taken → Message → Taken
takes before m = record { messages = before.messages ++ m ∷ []; is_closed = before.is_closed }

-- no more come
abbrev pub closed : Taken → Taken
closed before = record { messages = before.messages; is_closed = true }

-- so many messages more were taken
abbrev pub TakesMore : Taken → List Message → Taken → Type 0
TakesMore before ms after = after ≡ record { messages = before.messages ++ ms; is_closed = before.is_closed }
