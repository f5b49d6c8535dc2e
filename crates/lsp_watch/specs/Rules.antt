-- What a message breaks, by all that passed before it (JSON-RPC 2.0, sections 4 and 5; LSP 3.17, "Server lifecycle").
use Rattle.std.specs.List.{list_any}
use Rattle.std.specs.Option.{option_or}
use Rattle.std.specs.Prelude.{ℕ, Bool, ◌&&◌, ◌||◌, List, [], ◌∷◌, Option, Some, None, is_some}
use Rattle.std.specs.Prelude.{option_map, if◌then◌else◌, find, codes}
use Rattle.lsp_message.specs.Id.{Id}
use Rattle.lsp_message.specs.Message.{Message, request, notification, response}
use Rattle.lsp_watch.specs.Log.{Log, Passed, Open, Finding, asks, tells, is_success, from_client, other, is_id}
use Rattle.lsp_watch.specs.Log.{open_of, waiting, answers_initialize, opens_session, is_some_such, progress_token}
use Rattle.lsp_watch.specs.declared.rule.Rule.{Rule}
use Rattle.lsp_watch.specs.declared.rule.Rule.TheVariants.{NobodyAsked, IdStillOpen, BeforeResult, BeforeInitialized}
use Rattle.lsp_watch.specs.declared.rule.Rule.TheVariants.{SentAgain, AfterShutdown, AfterExit}
use Rattle.lsp_watch.specs.declared.direction.Direction.{Direction}
use Rattle.lsp_watch.specs.declared.direction.Direction.TheVariants.{ToServer, ToClient}
use Rattle.lsp_watch.specs.declared.lifecycle.Lifecycle.{Lifecycle}

-- ---- where the lifecycle stands: the place of the last message that is such

abbrev pub place_of : (Passed → Bool) → Log → Option ℕ
place_of such [] = None
place_of such (p ∷ before) = if such p then Some p.place else place_of such before

abbrev pub client_tells : List ℕ → Passed → Bool
client_tells method p = from_client p.direction && tells method p.message

abbrev pub client_asks : List ℕ → Passed → Bool
client_asks method p = from_client p.direction && asks method p.message

-- the first `initialize` that has no reply
abbrev pub initializing : Log → Option ℕ
initializing log = option_map (λ o. o.place) (find opens_session (open_of log))

-- the last reply that gave `initialize` its result
abbrev pub initialize_result : Log → Option ℕ
initialize_result [] = None
initialize_result (p ∷ before) = if answers_initialize before p && is_success p.message then Some p.place
    else initialize_result before

abbrev pub lifecycle_of : Log → Lifecycle
lifecycle_of log = record {
  result = initialize_result log;
  initialized = place_of (client_tells (codes "initialized")) log;
  shutdown = place_of (client_asks (codes "shutdown")) log;
  exit = place_of (client_tells (codes "exit")) log;
}

-- ---- the rules of the lifecycle, for requests and notifications: whoever is asked may always reply

-- the rule is broken if such a message passed
abbrev pub broken_by : Rule → Option ℕ → Option Finding
broken_by rule at = option_map (λ place. (rule, Some place)) at

-- what a server may send while `initialize` waits, beside progress under the token of the `initialize`
abbrev pub is_early : Message → Bool
is_early m = tells (codes "window/showMessage") m || tells (codes "window/logMessage") m
    || tells (codes "telemetry/event") m || asks (codes "window/showMessageRequest") m

-- the token of an `initialize` that waits
abbrev pub opens_under : Id → Open → Bool
opens_under name o = opens_session o && is_id name o.work

-- progress under such a token
abbrev pub tells_opening : Log → Message → Bool
tells_opening before m = is_some_such (λ name. list_any (opens_under name) (open_of before)) (progress_token m)

-- where the lifecycle stands, and the place of the `initialize` that waits
module _ (stands : Lifecycle) (waits : Option ℕ) where
  -- A server sends nothing before the result of `initialize`, but what may go with it.
  abbrev pub server_finding : Bool → Message → Option Finding
  server_finding may_tell m = if is_some stands.result || (is_some waits && (may_tell || is_early m)) then None
      else Some (BeforeResult, waits)

  -- after the result: `initialized` comes first, and once
  abbrev pub opened_finding : Option ℕ → Message → Option Finding
  opened_finding None m = Some (BeforeResult, waits)
  opened_finding (Some place) m = if tells (codes "initialized") m then broken_by SentAgain stands.initialized
      else if is_some stands.initialized then None else Some (BeforeInitialized, Some place)

  -- a client sends `initialize` first, again only where it got an error, and nothing else before the result
  abbrev pub opening_finding : Message → Option Finding
  opening_finding m = if asks (codes "initialize") m
      then option_or (broken_by SentAgain stands.result) (broken_by BeforeResult waits)
      else opened_finding stands.result m

  -- `exit` may come at any time, once; after `shutdown` nothing else may
  abbrev pub client_finding : Message → Option Finding
  client_finding m = if tells (codes "exit") m then broken_by AfterExit stands.exit
      else option_or (option_or (broken_by AfterExit stands.exit) (broken_by AfterShutdown stands.shutdown))
      (opening_finding m)

abbrev pub lifecycle_finding : Log → Direction → Message → Option Finding
lifecycle_finding before direction (response i outcome) = None
lifecycle_finding before ToServer m = client_finding (lifecycle_of before) (initializing before) m
lifecycle_finding before ToClient m =
    server_finding (lifecycle_of before) (initializing before) (tells_opening before m) m

-- ---- the rules of ids

-- a reply needs a request that waits for it
abbrev pub reply_finding : Option Open → Option Finding
reply_finding None = Some (NobodyAsked, None)
reply_finding (Some asked) = None

-- a request needs an id under which none waits
abbrev pub id_finding : Log → Direction → Message → Option Finding
id_finding before direction (request i method params) =
    option_map (λ asked. (IdStillOpen, Some asked.place)) (waiting direction i before)
id_finding before direction (notification method params) = None
id_finding before direction (response i outcome) = reply_finding (waiting (other direction) i before)

-- ---- what a message breaks

-- the rule of the lifecycle or of ids that a message breaks
abbrev pub session_finding : Log → Direction → Message → Option Finding
session_finding before direction m = option_or (lifecycle_finding before direction m) (id_finding before direction m)
