-- The messages of the lifecycle, told by their methods (LSP 3.17, "Server lifecycle").
use Rattle.std.specs.Prelude.{Bool, true, false, not, Option, Some, None, codes}
use Rattle.std.specs.Str.{bytes_eq}
use Rattle.lsp_message.specs.Id.{Id}
use Rattle.lsp_message.specs.Message.{Message, request, notification, response}

-- the id of the request that a message is
abbrev pub request_id : Message → Option Id
request_id (request i method params) = Some i
request_id (notification method params) = None
request_id (response i outcome) = None

-- ---- the requests

abbrev pub is_initialize : Message → Bool
is_initialize (request i method params) = bytes_eq method (codes "initialize")
is_initialize (notification method params) = false
is_initialize (response i outcome) = false

abbrev pub is_shutdown : Message → Bool
is_shutdown (request i method params) = bytes_eq method (codes "shutdown")
is_shutdown (notification method params) = false
is_shutdown (response i outcome) = false

-- ---- the notifications

abbrev pub is_initialized : Message → Bool
is_initialized (request i method params) = false
is_initialized (notification method params) = bytes_eq method (codes "initialized")
is_initialized (response i outcome) = false

-- it asks a server to end
abbrev pub is_exit : Message → Bool
is_exit (request i method params) = false
is_exit (notification method params) = bytes_eq method (codes "exit")
is_exit (response i outcome) = false

-- ---- before `initialize`

-- the message is passed over: a request other than `initialize`, or a notification other than `exit`
abbrev pub is_early : Message → Bool
is_early (request i method params) = not (bytes_eq method (codes "initialize"))
is_early (notification method params) = not (bytes_eq method (codes "exit"))
is_early (response i outcome) = false

-- a text shows the message, in the answer to it or in the reply: any but `initialize` and a notification that is passed
-- over
abbrev pub is_shown : Message → Bool
is_shown (request i method params) = not (bytes_eq method (codes "initialize"))
is_shown (notification method params) = bytes_eq method (codes "exit")
is_shown (response i outcome) = true
