-- What params and results are read as.
use Rattle.std.specs.Prelude.{Result, Ok, Err}
use Rattle.serde_json.specs.Data.{Data}
use Rattle.lsp_message.specs.Converted.{IsFault}
use Rattle.lsp_message.specs.View.{error_view}
use Rattle.lsp_message.specs.declared.msg.ResponseError.{ResponseError}
use Rattle.lsp_message.specs.declared.msg.code.ErrorCode.TheVariants.{InvalidParams}

-- a value of this JSON, or the error -32602 if no value fits (JSON-RPC 2.0, section 5.1)
abbrev pub IsReadOf : {T : Type 0} → (Data → T → Type 0) → Data → Result T ResponseError → Type 0
IsReadOf reads json (Ok it) = reads json it
IsReadOf {T} reads json (Err error) = IsFault InvalidParams (error_view error) × ((it : T) → ¬ reads json it)
