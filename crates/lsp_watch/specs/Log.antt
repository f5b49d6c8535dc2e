-- What passed between a client and a server, and which request is open (JSON-RPC 2.0, sections 4 and 5).
use Rattle.std.specs.Prelude.{ℕ, Bool, true, false, ◌&&◌, List, [], ◌∷◌, ◌++◌, Option, Some, None, Ok}
use Rattle.std.specs.Prelude.{option_and_then, if◌then◌else◌, codes, find}
use Rattle.std.specs.Str.{bytes_eq}
use Rattle.serde_json.specs.Data.{Data}
use Rattle.lsp_message.specs.Id.{Id, same_id}
use Rattle.lsp_message.specs.Message.{Message, request, notification, response}
use Rattle.lsp_message.specs.Methods.{request_id}
use Rattle.lsp_watch.specs.Keys.{key_in}
use Rattle.lsp_watch.specs.declared.rule.Rule.{Rule}
use Rattle.lsp_watch.specs.declared.direction.Direction.{Direction}
use Rattle.lsp_watch.specs.declared.direction.Direction.TheVariants.{ToServer, ToClient}

-- a message that passed, its direction, and its place: the number by which a person finds it again
pub record Passed : Type 0 where
  pub direction : Direction
  pub place : ℕ
  pub message : Message

abbrev pub passed : Direction → ℕ → Message → Passed
passed direction place message = record { direction = direction; place = place; message = message }

-- What passed, the last message first: behind each message in the list stand those that passed before it.
abbrev pub Log : Type 0
Log = List Passed

-- ---- what a message is

-- a request of this method
abbrev pub asks : List ℕ → Message → Bool
asks method (request i m params) = bytes_eq m method
asks method (notification m params) = false
asks method (response i outcome) = false

-- a notification of this method
abbrev pub tells : List ℕ → Message → Bool
tells method (request i m params) = false
tells method (notification m params) = bytes_eq m method
tells method (response i outcome) = false

-- the id of the request that it replies to
abbrev pub reply_id : Message → Option Id
reply_id (request i m params) = None
reply_id (notification m params) = None
reply_id (response i outcome) = Some i

-- a reply with a result
abbrev pub is_success : Message → Bool
is_success (response i (Ok value)) = true
is_success m = false

abbrev pub from_client : Direction → Bool
from_client ToServer = true
from_client ToClient = false

abbrev pub other : Direction → Direction
other ToServer = ToClient
other ToClient = ToServer

abbrev pub same_direction : Direction → Direction → Bool
same_direction ToServer direction = from_client direction
same_direction ToClient direction = from_client (other direction)

abbrev pub is_id : Id → Option Id → Bool
is_id id None = false
is_id id (Some i) = same_id id i

-- a request under this id that goes in this direction
abbrev pub is_request : Direction → Id → Passed → Bool
is_request direction id p = same_direction direction p.direction && is_id id (request_id p.message)

-- a reply to such a request: it goes in the other direction
abbrev pub is_reply : Direction → Id → Passed → Bool
is_reply direction id p = same_direction (other direction) p.direction && is_id id (reply_id p.message)

-- the token under which a message tells progress
abbrev pub progress_token : Message → Option Id
progress_token (notification method params) = if bytes_eq method (codes "$/progress") then key_in (codes "token") params
    else None
progress_token (request i method params) = None
progress_token (response i outcome) = None

-- a rule that a message breaks, and the place of the message that it goes against
abbrev pub Finding : Type 0
Finding = Rule × Option ℕ

-- ---- what is open

-- A request that has no reply yet: its direction, its place, its id and its method; the tokens of its params under
-- which progress may be told; and the one that it creates.
pub record Open : Type 0 where
  pub direction : Direction
  pub place : ℕ
  pub id : Id
  pub method : List ℕ
  pub work : Option Id
  pub part : Option Id
  pub created : Option Id

-- the token under which a server asks the client to show progress
abbrev pub created_name : Direction → List ℕ → Data → Option Id
created_name ToServer method params = None
created_name ToClient method params = if bytes_eq method (codes "window/workDoneProgress/create")
    then key_in (codes "token") params else None

abbrev pub request_of : Direction → ℕ → Id → List ℕ → Data → Open
request_of direction place i method params = record {
  direction = direction;
  place = place;
  id = i;
  method = method;
  work = key_in (codes "workDoneToken") params;
  part = key_in (codes "partialResultToken") params;
  created = created_name direction method params;
}

abbrev pub is_for : Direction → Id → Open → Bool
is_for direction id o = same_direction direction o.direction && same_id id o.id

-- without the first that is such
abbrev pub without_first : {A : Type 0} → (A → Bool) → List A → List A
without_first such [] = []
without_first such (x ∷ xs) = if such x then xs else x ∷ without_first such xs

-- a reply answers the first request of the other direction that has its id and no reply yet
abbrev pub answered : Direction → Id → List Open → List Open
answered direction id asked = without_first (is_for (other direction) id) asked

-- the requests that have no reply, after one more message
abbrev pub open_after : Direction → ℕ → Message → List Open → List Open
open_after direction place (request i method params) asked = asked ++ request_of direction place i method params ∷ []
open_after direction place (notification method params) asked = asked
open_after direction place (response i outcome) asked = answered direction i asked

-- the requests that have no reply, in the order in which they passed
abbrev pub open_of : Log → List Open
open_of [] = []
open_of (p ∷ before) = open_after p.direction p.place p.message (open_of before)

-- the request of this direction and id that the next reply to it answers
abbrev pub waiting : Direction → Id → Log → Option Open
waiting direction id log = find (is_for direction id) (open_of log)

-- the request that a message replies to
abbrev pub answered_by : Log → Passed → Option Open
answered_by before p = option_and_then (λ id. waiting (other p.direction) id before) (reply_id p.message)

-- the client sends `initialize`
abbrev pub is_initialize : Passed → Bool
is_initialize p = from_client p.direction && asks (codes "initialize") p.message

-- an `initialize` that has no reply
abbrev pub opens_session : Open → Bool
opens_session o = from_client o.direction && bytes_eq o.method (codes "initialize")

abbrev pub is_some_such : {A : Type 0} → (A → Bool) → Option A → Bool
is_some_such such None = false
is_some_such such (Some x) = such x

-- a message replies to `initialize`
abbrev pub answers_initialize : Log → Passed → Bool
answers_initialize before p = is_some_such opens_session (answered_by before p)
