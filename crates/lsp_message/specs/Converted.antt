-- What a type of one's own is converted to (`serde_json` goes through text).
use Rattle.std.specs.Prelude.{◌≡◌, ◌≤◌, ℕ, List, [], true, Option, Some, None, Result, Ok, Err, codes}
use Rattle.json.specs.Lex.{tokens}
use Rattle.serde.specs.Event.{Event, Log}
use Rattle.serde_json.specs.Data.{Data, depth}
use Rattle.serde_json.specs.Read.{read, max_depth}
use Rattle.serde_json.specs.Sent.{AreTokensOf}
use Rattle.lsp_message.specs.ErrorCode.{number_of}
use Rattle.lsp_message.specs.Message.{ErrorObject}
use Rattle.lsp_message.specs.declared.msg.code.ErrorCode.{ErrorCode}
use Rattle.lsp_message.specs.declared.msg.code.ErrorCode.TheVariants.{MethodNotFound, InternalError}

-- the tree is that of a text which the events of the value are written as
abbrev pub IsTreeOf : (Option (List Event) → Option (List Event) → Type 0) → Data → Type 0
IsTreeOf writes tree = (log : Log) × (text : List ℕ) × writes (Some []) log
    × AreTokensOf true log (tokens text) × (read text ≡ Some tree)

-- an error with this code and no data; its text is the reason, in `serde_json`'s words, of which nothing is stated
abbrev pub IsFault : ErrorCode → ErrorObject → Type 0
IsFault code e = (e.code ≡ number_of code) × (e.details ≡ None)

-- what a value is as an outcome: a tree that it is written as, which nests no more than 127 levels, or the error -32603
abbrev pub IsOutcomeOf : (Option (List Event) → Option (List Event) → Type 0)
    → Result Data ErrorObject → Type 0
IsOutcomeOf writes (Ok tree) = IsTreeOf writes tree × (depth tree ≤ max_depth)
IsOutcomeOf writes (Err e) = IsFault InternalError e

-- the error of a request whose method the server does not have (JSON-RPC 2.0, section 5.1)
abbrev pub method_not_found : ErrorObject
method_not_found =
    record { code = number_of MethodNotFound; message = codes "method not found"; details = None }
