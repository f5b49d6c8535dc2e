-- What holds of a log in which no message breaks a rule (JSON-RPC 2.0, sections 4 and 5; LSP 3.17, "Server lifecycle").
use Rattle.std.specs.List.{list_any}
use Rattle.std.specs.Prelude.{◌≡◌, ◌⊎◌, Bool, true, false, ◌||◌, ◌∷◌, ◌++◌, None, MatchBool, codes}
use Rattle.lsp_message.specs.Id.{Id}
use Rattle.lsp_message.specs.Message.{Message, request, notification, response}
use Rattle.lsp_watch.specs.Log.{Log, Passed, asks, tells, is_success, from_client, is_request, is_reply}
use Rattle.lsp_watch.specs.Log.{is_initialize, answers_initialize}
use Rattle.lsp_watch.specs.Rules.{session_finding, client_tells, client_asks, is_early, tells_opening}
use Rattle.lsp_watch.specs.declared.direction.Direction.{Direction}

-- at each place of a log this holds of what passed before it, and the message
abbrev pub AtEach : (Log → Passed → Type 0) → Log → Type 0
AtEach P log = (later before : Log) (p : Passed) → log ≡ later ++ p ∷ before → P before p

-- no message breaks a rule of the lifecycle or of ids
abbrev pub IsClean : Log → Type 0
IsClean log = AtEach (λ before p. session_finding before p.direction p.message ≡ None) log

-- A request of this direction and id passed, and since then no reply to the id and no other request under it.
pub record IsAsked (before : Log) (direction : Direction) (id : Id) : Type 0 where
  pub earlier : Log
  pub asked : Passed
  pub since : Log
  pub place : before ≡ since ++ asked ∷ earlier
  pub asks : is_request direction id asked ≡ true
  pub unanswered : list_any (is_reply direction id) since ≡ false
  pub alone : list_any (is_request direction id) since ≡ false

-- Each reply answers one request that passed before it in the other direction. That one has no other reply before it,
-- so each request has at most one.
abbrev pub RepliesOnce : Log → Type 0
RepliesOnce log = (direction : Direction) (id : Id)
    → AtEach (λ before p. is_reply direction id p ≡ true → IsAsked before direction id)
    log

-- `initialize` got its result in these messages
pub record HasResult (before : Log) : Type 0 where
  pub earlier : Log
  pub reply : Passed
  pub since : Log
  pub place : before ≡ since ++ reply ∷ earlier
  pub answers : answers_initialize earlier reply ≡ true
  pub succeeds : is_success reply.message ≡ true

-- a request or a notification: whoever is asked may always reply
abbrev pub is_call : Message → Bool
is_call (request i method params) = true
is_call (notification method params) = true
is_call (response i outcome) = false

-- A call of the client comes after no `exit`; after no `shutdown`, unless it is `exit`; after the result of
-- `initialize`, unless it is `initialize` or `exit`; and after `initialized`, unless it is one of these three.
-- `initialized` comes once, and `initialize` after no result.
pub record ClientKeepsOrder (before : Log) (m : Message) : Type 0 where
  pub unended : list_any (client_tells (codes "exit")) before ≡ false
  pub serving : (tells (codes "exit") m ≡ true) ⊎ (list_any (client_asks (codes "shutdown")) before ≡ false)
  pub opened : (tells (codes "exit") m || asks (codes "initialize") m) ≡ false → HasResult before
  pub invited : (tells (codes "exit") m || asks (codes "initialize") m) ≡ false → tells (codes "initialized") m ≡ false
      → list_any (client_tells (codes "initialized")) before ≡ true
  pub once : tells (codes "initialized") m ≡ true → list_any (client_tells (codes "initialized")) before ≡ false
  pub first : asks (codes "initialize") m ≡ true → HasResult before → ⊥

-- A call of the server comes after the result of `initialize`; or, after `initialize`, it is one that may come before,
-- or progress under the token of an `initialize` that waits.
abbrev pub ServerKeepsOrder : Log → Message → Type 0
ServerKeepsOrder before m = HasResult before
    ⊎ (((tells_opening before m || is_early m) ≡ true) × (list_any is_initialize before ≡ true))

abbrev pub KeepsOrder : Log → Type 0
KeepsOrder log = AtEach (λ before p. is_call p.message ≡ true
    → MatchBool (from_client p.direction) (ClientKeepsOrder before p.message) (ServerKeepsOrder before p.message)) log
