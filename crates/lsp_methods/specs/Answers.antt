-- What a request is answered with.
use Rattle.std.specs.Prelude.{Result, Ok, Err}
use Rattle.serde_json.specs.Data.{Data}
use Rattle.lsp_message.specs.Message.{ErrorObject}
use Rattle.lsp_message.specs.View.{error_view}
use Rattle.lsp_message.specs.declared.msg.ResponseError.{ResponseError}

-- what was found, as what it stands for, or an error of the server's own
abbrev pub outcome_of : {R : Type 0} → (R → Data) → Result R ResponseError → Result Data ErrorObject
outcome_of stands (Ok found) = Ok (stands found)
outcome_of stands (Err error) = Err (error_view error)
