-- Which messages hold no float: no number with a fraction or an exponent, of more than 64 bits, or `-0`.
use Rattle.std.specs.Prelude.{◌≡◌, false, Option, Some, None, Ok, Err}
use Rattle.serde_json.specs.Data.{Data}
use Rattle.serde_json.specs.Written.{has_float}
use Rattle.lsp_message.specs.Meaning.{unless_null}
use Rattle.lsp_message.specs.Message.{Message, request, notification, response}

abbrev pub option_has_no_float : Option Data → Type 0
option_has_no_float None = Unit {0}
option_has_no_float (Some d) = has_float d ≡ false

abbrev pub HasNoFloat : Message → Type 0
HasNoFloat (request i method params) = option_has_no_float (unless_null (Some params))
HasNoFloat (notification method params) = option_has_no_float (unless_null (Some params))
HasNoFloat (response i (Ok result)) = has_float result ≡ false
HasNoFloat (response i (Err e)) = option_has_no_float e.details
