-- What a client and a server announce to each other, and what goes against it (LSP 3.17, "Initialize Request",
-- "Register Capability" and "PublishDiagnostics Notification").
use Rattle.std.specs.Prelude.{ℕ, ℤ, negsuc, Bool, true, false, not, ◌&&◌, ◌||◌, ◌==◌, List, [], ◌∷◌, Option, Some, None}
use Rattle.std.specs.Prelude.{Ok, option_and_then, unwrap_or, if◌then◌else◌, codes}
use Rattle.std.specs.List.{list_any}
use Rattle.std.specs.Ordering.{int_eq}
use Rattle.std.specs.Str.{bytes_eq}
use Rattle.serde_json.specs.Data.{Data, null}
use Rattle.serde_json.specs.Find.{get, as_number, as_i64, pointer}
use Rattle.lsp_message.specs.Message.{Message, request, notification, response}
use Rattle.lsp_watch.specs.Documents.{params_in, text_in, is_text}
use Rattle.lsp_watch.specs.Log.{Log, Open, Finding, tells, from_client, is_success, is_initialize, waiting}
use Rattle.lsp_watch.specs.Log.{answers_initialize, is_some_such}
use Rattle.lsp_watch.specs.declared.direction.Direction.{Direction}
use Rattle.lsp_watch.specs.declared.direction.Direction.TheVariants.{ToServer, ToClient}
use Rattle.lsp_watch.specs.declared.rule.Rule.TheVariants.{NotAnnounced, AnnouncedUnknown, ClientCannot, NeverOpened}
use Rattle.lsp_capabilities.specs.Methods.{provider, needed}
use Rattle.lsp_capabilities.specs.Registrations.{is_offered, any_item, items_of, lists, registers_method}
use Rattle.lsp_capabilities.specs.Registrations.{registers_command, is_registered, is_unconfirmed}

-- ---- what a tree says

-- the capabilities in the params of `initialize`, and in its result
abbrev pub capabilities_in : Data → Data
capabilities_in d = unwrap_or (get (codes "capabilities") d) null

-- the code of an error
abbrev pub code_in : Data → Option ℤ
code_in d = option_and_then as_i64 (option_and_then as_number (option_and_then (get (codes "code"))
    (get (codes "error") d)))

abbrev pub is_code : ℤ → Option ℤ → Bool
is_code code None = false
is_code code (Some z) = int_eq z code

-- the receiver does not know the method (JSON-RPC 2.0, section 5.1)
abbrev pub says_unknown : Data → Bool
says_unknown d = is_code (negsuc 32600) (code_in d)

-- ---- what was announced

abbrev pub result_in : Message → Data
result_in (response i (Ok value)) = value
result_in m = null

-- the server's capabilities: those of the last result of `initialize`
abbrev pub server_capabilities : Log → Data
server_capabilities [] = null
server_capabilities (p ∷ before) = if answers_initialize before p && is_success p.message
    then capabilities_in (result_in p.message) else server_capabilities before

-- the client's capabilities: those of its last `initialize`
abbrev pub client_capabilities : Log → Data
client_capabilities [] = null
client_capabilities (p ∷ before) = if is_initialize p then capabilities_in (params_in p.message)
    else client_capabilities before

abbrev pub uri_of : Option Data → Option (List ℕ)
uri_of d = option_and_then (text_in (codes "uri")) d

-- a list of documents has this URI
abbrev pub has_uri : List ℕ → Option Data → Bool
has_uri uri d = any_item (λ it. is_text uri (text_in (codes "uri") it)) (items_of d)

-- the texts of the cells that are added to a notebook
abbrev pub added_in : Data → Option Data
added_in params = option_and_then (get (codes "didOpen")) (option_and_then (get (codes "structure"))
    (option_and_then (get (codes "cells")) (get (codes "change") params)))

-- what the client notifies of as opened: a text document, a notebook with the texts of its cells, or cells that it adds
abbrev pub opens_in : List ℕ → List ℕ → Data → Bool
opens_in uri method params = if bytes_eq method (codes "textDocument/didOpen")
    then is_text uri (uri_of (get (codes "textDocument") params))
    else if bytes_eq method (codes "notebookDocument/didOpen")
    then has_uri uri (get (codes "cellTextDocuments") params)
    || is_text uri (uri_of (get (codes "notebookDocument") params))
    else if bytes_eq method (codes "notebookDocument/didChange")
    then has_uri uri (added_in params)
    else false

-- the client opens the document of this URI (LSP 3.17, "DidOpenTextDocument Notification", "DidOpenNotebookDocument
-- Notification" and "DidChangeNotebookDocument Notification")
abbrev pub opens : List ℕ → Direction → Message → Bool
opens uri direction (notification method params) = from_client direction && opens_in uri method params
opens uri direction (request i method params) = false
opens uri direction (response i outcome) = false

-- the client opened the document of this URI
abbrev pub was_opened : List ℕ → Log → Bool
was_opened uri [] = false
was_opened uri (p ∷ before) = opens uri p.direction p.message || was_opened uri before

-- the server announced or registered the method, for which its capabilities have this path
abbrev pub is_announced : Log → List ℕ → List ℕ → Bool
is_announced before method path =
    is_offered (pointer path (server_capabilities before))
    || is_registered (λ place r. registers_method method r) before

-- the server announced or registered the command (LSP 3.17, "Execute a command")
abbrev pub is_command_announced : Log → List ℕ → Bool
is_command_announced before command = lists command (pointer (codes "/executeCommandProvider/commands")
    (server_capabilities before)) || is_registered (λ place r. registers_command command r) before

-- A request is for what the server announced or registered. A command is announced by its name.
abbrev pub is_announced_for : Log → List ℕ → Data → List ℕ → Bool
is_announced_for before method params path = if bytes_eq method (codes "workspace/executeCommand")
    then is_some_such (is_command_announced before) (text_in (codes "command") params)
    else is_announced before method path

-- the client asks for what the server neither announced nor registered
abbrev pub asks_unannounced : Log → Direction → Message → Bool
asks_unannounced before direction (request i method params) = from_client direction
    && is_some_such (λ path. not (is_announced_for before method params path)) (provider method)
asks_unannounced before direction (notification method params) = false
asks_unannounced before direction (response i outcome) = false

-- a request that passed at this place was such a one
abbrev pub asked_unannounced : ℕ → Log → Bool
asked_unannounced place [] = false
asked_unannounced place (p ∷ before) = (p.place == place && asks_unannounced before p.direction p.message)
    || asked_unannounced place before

-- ---- what goes against it

-- A reply to a request, by whether the server has announced what was asked for, whether it had not when the client
-- asked, whether no registration is about to end, whether there is a result, and the whole reply
abbrev pub answer_finding : Bool → Bool → Bool → Bool → Data → ℕ → Option Finding
answer_finding true false true false d place = if says_unknown d then Some (AnnouncedUnknown, Some place) else None
answer_finding false true is_certain true d place = Some (NotAnnounced, Some place)
answer_finding is_announced is_odd is_certain succeeds d place = None

-- a reply of the server to this request of the client
abbrev pub reply_finding : Log → Bool → Data → Open → Option Finding
reply_finding before succeeds d o = option_and_then (λ path.
    answer_finding (is_announced before o.method path) (asked_unannounced o.place before)
    (not (is_unconfirmed (λ place params. true) before)) succeeds d o.place) (provider o.method)

-- a request of the server
abbrev pub request_finding : Log → List ℕ → Option Finding
request_finding before method = option_and_then (λ path.
    if is_offered (pointer path (client_capabilities before)) then None else Some (ClientCannot, None)) (needed method)

-- diagnostics of the server
abbrev pub diagnostics_finding : Log → Message → Option Finding
diagnostics_finding before m = if tells (codes "textDocument/publishDiagnostics") m
    then option_and_then (λ uri. if was_opened uri before then None else Some (NeverOpened, None))
    (text_in (codes "uri") (params_in m))
    else None

-- What a message goes against, of what was announced before it. The tree is the whole message.
abbrev pub capability_finding : Log → Direction → Message → Data → Option Finding
capability_finding before ToServer m d = None
capability_finding before ToClient (request i method params) d = request_finding before method
capability_finding before ToClient (notification method params) d =
    diagnostics_finding before (notification method params)
capability_finding before ToClient (response i outcome) d =
    option_and_then (reply_finding before (is_success (response i outcome)) d) (waiting ToServer i before)

-- Before the first `initialize` it is not known what was announced, so nothing goes against it.
abbrev pub known_finding : Log → Direction → Message → Data → Option Finding
known_finding before direction m d = if list_any is_initialize before then capability_finding before direction m d
    else None
