-- The replies that the lifecycle itself gives (JSON-RPC 2.0, section 5; LSP 3.17, "Server lifecycle").
use Rattle.serde_json.specs.Data.{Data, null}
use Rattle.std.specs.Prelude.{◌≡◌, ◌++◌, ℕ, List, None, Ok, Err, codes}
use Rattle.lsp_message.specs.ErrorCode.{number_of}
use Rattle.lsp_message.specs.Id.{Id}
use Rattle.lsp_message.specs.Message.{Message, response}
use Rattle.lsp_message.specs.declared.msg.code.ErrorCode.TheVariants.{ServerNotInitialized}

-- the reply with this result
abbrev pub ok_reply : Id → Data → Message
ok_reply i result = response i (Ok result)

-- the reply to `shutdown`
abbrev pub null_reply : Id → Message
null_reply i = response i (Ok null)

-- The reply to a request that comes before `initialize`, under its id: the error ServerNotInitialized, with a text that
-- begins so.
pub record IsEarlyReply (id : Id) (reply : Message) : Type 0 where
  pub shown : List ℕ
  pub is : reply ≡ response id (Err (record {
    code = number_of ServerNotInitialized;
    message = codes "expected initialize request, got " ++ shown;
    details = None;
  }))
