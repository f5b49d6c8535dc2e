-- What passes in a session, and that the server breaks no rule of ids or of the lifecycle (JSON-RPC 2.0, section 5;
-- LSP 3.17, "Server lifecycle").
use Rattle.std.specs.Prelude.{◌≡◌, true, false, List, [], ◌∷◌, None, option_to_list}
use Rattle.lsp_message.specs.Message.{Message, request}
use Rattle.lsp_session.specs.Session.{Exchange, offered}
use Rattle.lsp_watch.specs.CleanLog.{AtEach, is_call}
use Rattle.lsp_watch.specs.Log.{Log, from_client, waiting}
use Rattle.lsp_watch.specs.Rules.{session_finding, lifecycle_finding}
use Rattle.lsp_watch.specs.declared.direction.Direction.TheVariants.{ToServer, ToClient}
use Rattle.lsp_watched.specs.Passing.{Pass}

-- at each exchange the message passes that comes, and then what is sent for it
abbrev pub PassSession : List Exchange → Log → Log → Type 0
PassSession [] old new = new ≡ old
PassSession (x ∷ xs) old new = (came : Log) × (mid : Log) × Pass ToServer (option_to_list x.came) old came
    × Pass ToClient (offered x) came mid × PassSession xs mid new

-- the log of a session
abbrev pub IsLogOfSession : List Exchange → Log → Type 0
IsLogOfSession exchanges log = PassSession exchanges [] log

-- each request of the client comes under an id under which none of its requests waits (JSON-RPC 2.0, section 4)
abbrev pub AsksAnew : Log → Message → Type 0
AsksAnew before (request id method params) = waiting ToServer id before ≡ None
AsksAnew before m = Unit {0}

abbrev pub ClientKeepsIds : Log → Type 0
ClientKeepsIds log = AtEach (λ before p. from_client p.direction ≡ true → AsksAnew before p.message) log

-- no reply of the server breaks a rule of ids
abbrev pub ServerRepliesFit : Log → Type 0
ServerRepliesFit log = AtEach (λ before p. from_client p.direction ≡ false → is_call p.message ≡ false
    → session_finding before p.direction p.message ≡ None) log

-- no message of the server breaks a rule of ids or of the lifecycle, whatever the client's do
abbrev pub ServerIsClean : Log → Type 0
ServerIsClean log = AtEach (λ before p. from_client p.direction ≡ false → session_finding before p.direction p.message
    ≡ None) log

-- none breaks a rule of the lifecycle
abbrev pub ServerKeepsLifecycle : Log → Type 0
ServerKeepsLifecycle log = AtEach (λ before p. from_client p.direction ≡ false
    → lifecycle_finding before p.direction p.message ≡ None) log
