-- Notifications of progress (LSP 3.17, "Progress Support").
use Rattle.serde_json.specs.Data.{Data, object, member, no_members}
use Rattle.serde_json.specs.Find.{get}
use Rattle.std.specs.Prelude.{ℕ, List, Option, Some, None, codes, is_some, option_and_then, if◌then◌else◌}
use Rattle.lsp_message.specs.Meaning.{as_id}

abbrev pub progress_method : List ℕ
progress_method = codes "$/progress"

-- this value, for whoever gave this token
abbrev pub progress_params : Data → Data → Data
progress_params token value =
    object (member (codes "token") token (member (codes "value") value no_members))

-- the request that creates progress which no request of the client began ("Creating Work Done Progress")
abbrev pub create_method : List ℕ
create_method = codes "window/workDoneProgress/create"

abbrev pub create_params : Data → Data
create_params token = object (member (codes "token") token no_members)

-- the value, if it may be a token: a text, or a whole number of 32 bits, as an id (`ProgressToken`)
abbrev pub if_token : Data → Option Data
if_token value = if is_some (as_id value) then Some value else None

-- the token that params give under this name
abbrev pub token_of : List ℕ → Data → Option Data
token_of name params = option_and_then if_token (get name params)
